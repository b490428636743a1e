-- The heads of a job's edges that are on, one after the other. Assumes nothing.
use Rattle.std.proofs.Common.{◌≡◌, ℕ, ◌<◌, ◌≤◌, Bool, true, false, List, [], ◌∷◌, ◌++◌, sym, refl, ap, ◌∙◌, arith, rules, Bor, Option, Some, None, length, ◌+◌, get_or, drop, add-one, drop-cons, drop_of_length-le}
use Rattle.std.specs.Iterator.{MakesProgress, YieldsFirst, item_count}
use Rattle.edges.specs.Lists.{Successors}
use Rattle.rules.specs.Sizes.{most_entries, most_jobs}
use Rattle.probes.specs.Aheads.{Chained, Sees, Walks, heads_left, heads_on, links_left, off_of, staying}
use Rattle.probes.specs.Chains.{Falls, heads_of}
use Rattle.probes.specs.Seen.{Seeable, stays_at}
use Rattle.probes.specs.declared.chain.Chain.{Chain}
use Rattle.probes.specs.declared.chain.Leads.{Leads}
use Rattle.probes.specs.declared.heads.Heads.{Heads}
use Rattle.probes.specs.declared.on.On.{On}
use Rattle.probes.specs.declared.view.View.{View}
use Rattle.probes.proofs.Chaining.{advances}

-- the loop: what is ahead is the same
pub record Looking (h₀ h : Heads) (place : ℕ) : Type 0 where
  pub rest : heads_left h₀ ≡ heads_left h
  pub walks : Walks h
  pub here : h.place ≡ place
  pub live : length h.view.live.now ≡ length h₀.view.live.now

pub looking_none : (h : Heads) → Walks h → Looking h h h.place
looking_none h W = record { rest = refl; walks = W; here = refl; live = refl }

module _ {h₀ h : Heads} {place : ℕ} (L : Looking h₀ h place) where
  module _ (more : place < length h₀.view.live.now) where
    pub looking_in : place < length h.view.live.now
    looking_in = omega (arith, L.live)

    pub looking_seeable : Seeable h.view.live.now (off_of h.view) h.u place
    looking_seeable = record { falls = L.walks.off; job = L.walks.job; within = looking_in }

    module _ {b : Bool} (is : b ≡ stays_at h.view.live.now (off_of h.view) h.u place) where
      abbrev pub ahead : Heads
      ahead = record h { place = place + 1 }

      walks_on : Walks ahead
      walks_on = record { off = L.walks.off; job = L.walks.job; plus = L.walks.plus }

      row : drop h.place h.view.live.now ≡ get_or h.view.live.now place 0 ∷ drop (place + 1) h.view.live.now
      row = rw (L.here, add-one) (drop-cons h.view.live.now place 0 looking_in)

      one : heads_left h₀ ≡ staying (off_of h.view) h.u (get_or h.view.live.now place 0 ∷ drop (place + 1) h.view.live.now) ++ links_left h.plus
      unfolding heads_left
      one = L.rest ∙ ap (λ (l : List ℕ). staying (off_of h.view) h.u l ++ links_left h.plus) row

      pub looking_next : b ≡ false → Looking h₀ ahead (place + 1)
      unfolding heads_left
      looking_next q = record { rest = one ∙ rw (← is, q); walks = walks_on; here = refl; live = L.live }

      pub looking_on : b ≡ true → heads_left h₀ ≡ get_or h.view.live.now place 0 ∷ heads_left ahead
      unfolding heads_left
      looking_on q = one ∙ rw (← is, q)

      pub looking_goes : b ≡ true → MakesProgress Walks (item_count heads_left) h₀ (Some (get_or h.view.live.now place 0)) ahead
      looking_goes q = advances Walks heads_left walks_on (looking_on q)

  -- the row is passed: those that come on are left
  module _ (e : length h₀.view.live.now ≤ place) where
    only_plus : (p : Leads) → heads_left (record h { plus = p }) ≡ links_left p
    unfolding heads_left
    only_plus p = ap (λ (l : List ℕ). staying (off_of h.view) h.u l ++ links_left p) (drop_of_length-le h.view.live.now (omega (arith, L.live, L.here)))

    pub looking_end : (r : Option ℕ) (p : Leads) → YieldsFirst links_left h.plus r p → YieldsFirst heads_left h₀ r (record h { plus = p })
    looking_end None p (a, b) = (L.rest ∙ only_plus h.plus ∙ a, only_plus p ∙ b)
    looking_end (Some x) p a = L.rest ∙ only_plus h.plus ∙ a ∙ ap (λ (l : List ℕ). x ∷ l) (sym (only_plus p))

    pub ending_goes : (r : Option ℕ) (p : Leads) → YieldsFirst links_left h.plus r p → MakesProgress Chained (item_count links_left) h.plus r p
        → MakesProgress Walks (item_count heads_left) h₀ r (record h { plus = p })
    ending_goes None p a G = search rules
    ending_goes (Some x) p a G =
        advances Walks heads_left (record { off = L.walks.off; job = L.walks.job; plus = G.keeps }) (looking_end (Some x) p a)

-- where the edges from u begin
module _ (o : On) (v : View) (off : off_of v ≡ o.off.now) where
  pub heads_begin : {u w : ℕ} {row : List ℕ} (p : Leads) → w ≡ u → Successors o.live.now w row → v.live.now ≡ row → links_left p ≡ heads_of o.plus.now u
      → Sees o.live.now o.off.now o.plus.now u (heads_left (record { view = v; u = u; place = 0; plus = p }))
  unfolding heads_left heads_on
  heads_begin {u} p e S r q = record {
    is = λ m H. ap (λ (c : Chain). staying c u v.live.now ++ links_left p) off ∙ rw (q, r, S.is m H, e);
  }

  pub walks_begin : Falls most_entries o.off.now → {u : ℕ} → u < most_jobs → {p : Leads} → Chained p → Walks (record { view = v; u = u; place = 0; plus = p })
  walks_begin F h C = record { off = rw off F; job = h; plus = C }

pub ruleset looking = (rules, looking_none)
