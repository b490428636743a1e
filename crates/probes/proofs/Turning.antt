-- Laws of what a move turns off and of what comes on. Assumes nothing.
use Rattle.std.specs.List.{list_any}
use Rattle.std.proofs.Common.{nat_eq, refl, ◌≡◌, ℕ, ◌+◌, ◌<◌, ◌≤◌, Bool, true, false, cond, ◌&&◌, ◌||◌, eqb, ◌⊎◌, List, [], ◌∷◌, length, get_or, sym, ap, ◌∙◌, inl, inr, arith, rules, eq-eqb, ne_eqb}
use Rattle.rules.specs.Lists.{memb}
use Rattle.rules.specs.Moves.{occurs}
use Rattle.rules.specs.Sizes.{pair_up}
use Rattle.rules.proofs.Ranges.{same}
use Rattle.edges.specs.Lists.{Successors}
use Rattle.graphs.specs.Graph.{live}
use Rattle.probes.specs.Chains.{Falls, Links, Rule, always, heads_of, holds_of}
use Rattle.probes.specs.Gathered.{Held, comes_on, goes_off}
use Rattle.probes.specs.Pairs.{Rising}
use Rattle.probes.proofs.Chaining.{falls_lent, falls_more}
use Rattle.probes.specs.declared.chain.Chain.{Chain}

-- ── one edge ──

module _ {G : Type 0} (p : G → Rule) (u v : ℕ) (c : Chain) {k : ℕ} where
  edge_out : Falls k c → ((g : G) → p g u v (heads_of c u) ≡ false) → Links p ((u, v) ∷ []) (k + 1) c c
  edge_out F f = record { falls = falls_more F (omega arith); are = λ g w h. look g w (same w u) }
    where
      look : (g : G) (w : ℕ) → (w ≡ u) ⊎ (w ≡ u → ⊥) → heads_of c w ≡ cond (eqb w u && p g u v (heads_of c w)) (v ∷ heads_of c w) (heads_of c w)
      look g w (inl e) = rw (eq-eqb w u e, e, f g)
      look g w (inr e) = rw (ne_eqb w u e)

  edge_in : {c' : Chain} → Links always ((u, v) ∷ []) k c c' → ((g : G) → p g u v (heads_of c u) ≡ true) → Links p ((u, v) ∷ []) k c c'
  unfolding always
  edge_in L f = record { falls = L.falls; are = λ g w h. L.are tt w h ∙ look g w (same w u) }
    where
      look : (g : G) (w : ℕ) → (w ≡ u) ⊎ (w ≡ u → ⊥)
          → cond (eqb w u && true) (v ∷ heads_of c w) (heads_of c w) ≡ cond (eqb w u && p g u v (heads_of c w)) (v ∷ heads_of c w) (heads_of c w)
      look g w (inl e) = rw (eq-eqb w u e, e, f g)
      look g w (inr e) = rw (ne_eqb w u e)

-- x and y are what the tests before answered
module _ (from to : List ℕ) (new off : Chain) (k u v : ℕ) (F : Falls k off) (x : Bool) (ex : x ≡ holds_of new u v) where
  pub off_there : x ≡ true → Links (goes_off from to new) ((u, v) ∷ []) (k + 1) off off
  unfolding goes_off
  off_there q = edge_out (goes_off from to new) u v off F (λ r. rw (← ex, q))

  module _ (q : x ≡ false) (y : Bool) (ey : Rising from → y ≡ occurs (pair_up from to) u v) where
    pub off_fixed : y ≡ true → Links (goes_off from to new) ((u, v) ∷ []) (k + 1) off off
    unfolding goes_off
    off_fixed s = edge_out (goes_off from to new) u v off F (λ r. rw (← ex, q, ← ey r, s))

    pub off_goes : y ≡ false → {c' : Chain} → Links always ((u, v) ∷ []) (k + 1) off c' → Links (goes_off from to new) ((u, v) ∷ []) (k + 1) off c'
    unfolding goes_off
    off_goes s L = edge_in (goes_off from to new) u v off L (λ r. rw (← ex, q, ← ey r, s))

module _ (e : List ℕ) (old plus : Chain) (k u v : ℕ) (F : Falls k plus) (x : Bool) (ex : x ≡ holds_of old u v) where
  pub on_there : x ≡ true → Links (comes_on e old) ((u, v) ∷ []) (k + 1) plus plus
  unfolding comes_on
  on_there q = edge_out (comes_on e old) u v plus F (λ h. rw (← ex, q))

  module _ (q : x ≡ false) (y : Bool) (ey : y ≡ holds_of plus u v) where
    pub on_met : y ≡ true → Links (comes_on e old) ((u, v) ∷ []) (k + 1) plus plus
    unfolding comes_on
    on_met s = edge_out (comes_on e old) u v plus F (λ h. rw (← ex, q, ← ey, s))

    module _ (s : y ≡ false) (z : Bool) (row : List ℕ) (w : ℕ) (ew : w ≡ u) (S : Successors e w row) (ez : z ≡ memb v row) where
      alive : (h : Held e) → live h.model u v ≡ z
      alive h = sym (ez ∙ ap (memb v) (S.is h.model h.holds) ∙ ap (λ (x : ℕ). live h.model x v) ew)

      pub on_live : z ≡ true → Links (comes_on e old) ((u, v) ∷ []) (k + 1) plus plus
      unfolding comes_on
      on_live r = edge_out (comes_on e old) u v plus F (λ h. rw (← ex, q, ← ey, s, alive h, r))

      pub on_comes : z ≡ false → {c' : Chain} → Links always ((u, v) ∷ []) (k + 1) plus c' → Links (comes_on e old) ((u, v) ∷ []) (k + 1) plus c'
      unfolding comes_on
      on_comes r L = edge_in (comes_on e old) u v plus L (λ h. rw (← ex, q, ← ey, s, alive h, r))

pub ruleset turning = (rules, falls_lent, off_there, off_fixed, off_goes, on_there, on_met, on_live, on_comes)

-- ── a row is searched ──

-- what `contains` tells
pub contains_memb : (row : List ℕ) (v : ℕ) → list_any (λ y. nat_eq y v) row ≡ memb v row
contains_memb [] v = refl
contains_memb (w ∷ l) v = look (same v w) (contains_memb l v)
  where
    look : (v ≡ w) ⊎ (v ≡ w → ⊥) → list_any (λ y. nat_eq y v) l ≡ memb v l → nat_eq w v || list_any (λ y. nat_eq y v) l ≡ eqb v w || memb v l
    look (inl e) ih = rw (eq-eqb v w e, eq-eqb w v (sym e))
    look (inr n) ih = rw (ne_eqb v w n, ne_eqb w v (λ q. n (sym q))) ih
