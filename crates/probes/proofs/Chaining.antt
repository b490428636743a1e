-- Laws of a set of edges: one edge more, the search for one, and the edges of a list in turn. Assumes nothing.
use Rattle.std.specs.Iterator.{MakesProgress, item_count}
use Rattle.std.proofs.Common.{Bor, Some, ◌≡◌, ℕ, zero, suc, ◌+◌, ◌-◌, ◌<◌, ◌≤◌, true, false, cond, ◌&&◌, eqb, ltb, ◌⊎◌, List, [], ◌∷◌, length, get_or, drop, set, replicate, sym, refl, ap, subst, ◌∙◌, inl, inr, le_of_suc-le-suc, not-suc-le-zero, add-one, arith, length-drop, length-set, drop-cons, get_or-set_other, get_or-set_same, rules, ltb-true, eq-eqb, ne_eqb}
use lib.ListN.{length-replicate, get_or-replicate}
use Rattle.rules.specs.Lists.{all_below, memb}
use Rattle.rules.specs.Moves.{neighbours}
use Rattle.rules.specs.Sizes.{most_entries, most_jobs}
use Rattle.rules.proofs.Ranges.{and_true, same}
use Rattle.probes.specs.Aheads.{Chained, links_left, set_of}
use Rattle.probes.specs.declared.chain.Chain.{Chain}
use Rattle.probes.specs.declared.chain.Leads.{Leads}
use Rattle.probes.specs.Chains.{Falls, Links, Rule, along, always, blank, heads_of, holds_of, joined, links_at, tables}

-- ── where the edges lead ──

falls_none : Falls 0 blank
falls_none = record {
  firsts = length-replicate {A = ℕ} most_jobs 0;
  nexts = length-replicate {A = ℕ} most_entries 0;
  heads = length-replicate {A = ℕ} most_entries 0;
  first = λ u h. omega (arith, get_or-replicate {A = ℕ} most_jobs u 0 0 h);
  next = λ j h. omega (arith, get_or-replicate {A = ℕ} most_entries j 0 0 h);
}

pub falls_blank : {c : Chain} → c ≡ blank → Falls 0 c
falls_blank e = rw e falls_none

pub falls_more : {k : ℕ} {c : Chain} → Falls k c → {n : ℕ} → k ≤ n → Falls n c
falls_more F h = record { firsts = F.firsts; nexts = F.nexts; heads = F.heads; first = λ u l. omega (arith, F.first u l); next = F.next }

pub falls_lent : {k : ℕ} {c : Chain} → Falls k c → k < most_entries → Falls most_entries c
falls_lent F h = falls_more F (omega arith)

module _ {n : ℕ} {c : Chain} (F : Falls n c) where
  pub first_in : {u w : ℕ} → w ≡ u → u < most_jobs → w < length c.first
  first_in q h = omega (arith, F.firsts)

  pub next_in : {j : ℕ} → j < most_entries → j < length c.next
  next_in h = omega (arith, F.nexts)

  pub head_in : {j : ℕ} → j < most_entries → j < length c.head
  head_in h = omega (arith, F.heads)

  -- more steps than places do not count
  along_enough : (f g at : ℕ) → at ≤ most_entries → at ≤ f → at ≤ g → along f c at ≡ along g c at
  unfolding along
  along_enough zero zero at r h k = refl
  along_enough zero (suc g) zero r h k = refl
  along_enough zero (suc g) (suc j) r h k = absurd (not-suc-le-zero h)
  along_enough (suc f) zero zero r h k = refl
  along_enough (suc f) zero (suc j) r h k = absurd (not-suc-le-zero k)
  along_enough (suc f) (suc g) zero r h k = refl
  along_enough (suc f) (suc g) (suc j) r h k =
      let b = F.next j (omega arith) in
      ap (λ (x : List ℕ). get_or c.head j 0 ∷ x) (along_enough f g (get_or c.next j 0) (omega arith) (omega arith) (omega arith))

  links_suc : (j : ℕ) → j < most_entries → links_at c (suc j) ≡ get_or c.head j 0 ∷ links_at c (get_or c.next j 0)
  unfolding along
  links_suc j h =
      let b = F.next j h in
      ap (λ (x : List ℕ). get_or c.head j 0 ∷ x) (along_enough j (get_or c.next j 0) (get_or c.next j 0) (omega arith) b (omega arith))

  -- the first of them, and the rest
  pub links_cons : {at : ℕ} → 0 < at → at ≤ most_entries
      → links_at c at ≡ get_or c.head (at - 1) 0 ∷ links_at c (get_or c.next (at - 1) 0)
  links_cons {at} h r =
      let e : at ≡ suc (at - 1) = omega arith in
      ap (λ (x : ℕ). links_at c x) e ∙ links_suc (at - 1) (omega arith)

  pub links_fall : {at x : ℕ} → x ≡ get_or c.next (at - 1) 0 → 0 < at → at ≤ most_entries → x < at
  links_fall {at} e h r = let b = F.next (at - 1) (omega arith) in omega arith

-- ── one more edge ──

module _ {k u : ℕ} (v : ℕ) {c : Chain} (F : Falls k c) (hk : k < most_entries) (hu : u < most_jobs) where
  abbrev after : Chain
  after = record { first = set c.first u (k + 1); next = set c.next k (get_or c.first u 0); head = set c.head k v }

  -- the words that are written, and the others
  first_at : get_or after.first u 0 ≡ suc k
  first_at = get_or-set_same c.first u (k + 1) 0 (omega (arith, F.firsts)) ∙ add-one k

  first_else : (w : ℕ) → (w ≡ u → ⊥) → get_or after.first w 0 ≡ get_or c.first w 0
  first_else w e = get_or-set_other c.first u w (k + 1) 0 e

  next_at : get_or after.next k 0 ≡ get_or c.first u 0
  next_at = get_or-set_same c.next k (get_or c.first u 0) 0 (omega (arith, F.nexts))

  next_else : (j : ℕ) → (j ≡ k → ⊥) → get_or after.next j 0 ≡ get_or c.next j 0
  next_else j e = get_or-set_other c.next k j (get_or c.first u 0) 0 e

  head_at : get_or after.head k 0 ≡ v
  head_at = get_or-set_same c.head k v 0 (omega (arith, F.heads))

  head_else : (j : ℕ) → (j ≡ k → ⊥) → get_or after.head j 0 ≡ get_or c.head j 0
  head_else j e = get_or-set_other c.head k j v 0 e

  link_falls : Falls (k + 1) after
  link_falls = record {
    firsts = simp length-set F.firsts;
    nexts = simp length-set F.nexts;
    heads = simp length-set F.heads;
    first = λ w l. look w (same w u) l;
    next = λ j l. before j (same j k) l;
  }
    where
      look : (w : ℕ) → (w ≡ u) ⊎ (w ≡ u → ⊥) → w < most_jobs → get_or after.first w 0 ≤ k + 1
      look w (inl e) l = rw (e, first_at) (omega arith)
      look w (inr e) l = rw (first_else w e) (omega (arith, F.first w l))

      before : (j : ℕ) → (j ≡ k) ⊎ (j ≡ k → ⊥) → j < most_entries → get_or after.next j 0 ≤ j
      before j (inl e) l = rw (e, next_at) (F.first u hu)
      before j (inr e) l = rw (next_else j e) (F.next j l)

  -- the edges before place k do not see the one at k
  along_link : (f at : ℕ) → at ≤ k → along f after at ≡ along f c at
  unfolding along
  along_link zero at l = refl
  along_link (suc f) zero l = refl
  along_link (suc f) (suc j) l =
      let e1 = next_else j (λ q. omega arith) in
      let e2 = head_else j (λ q. omega arith) in
      rw (e1, e2, along_link f (get_or c.next j 0) (omega (arith, F.next j (omega arith))))

  link_at : Links always ((u, v) ∷ []) (k + 1) c after
  unfolding always
  link_at = record { falls = link_falls; are = λ g w l. look w (same w u) l }
    where
      look : (w : ℕ) → (w ≡ u) ⊎ (w ≡ u → ⊥) → w < most_jobs → heads_of after w ≡ cond (eqb w u && true) (v ∷ heads_of c w) (heads_of c w)
      look w (inl e) l =
          rw (eq-eqb w u e, e, first_at)
          (links_suc link_falls k hk
          ∙ rw (head_at, next_at) (ap (λ (x : List ℕ). v ∷ x) (along_link (get_or c.first u 0) (get_or c.first u 0) (F.first u hu))))
      look w (inr e) l =
          rw (ne_eqb w u e, first_else w e) (along_link (get_or c.first w 0) (get_or c.first w 0) (F.first w l))

  pub link_one : (w : ℕ) → w ≡ u
      → Links always ((u, v) ∷ []) (k + 1) c
      (record { first = set c.first w (k + 1); next = set c.next k (get_or c.first w 0); head = set c.head k v })
  link_one w e = rw e link_at

-- ── one after the other ──

module _ {s : Leads} (C : Chained s) where
  pub links_end : s.at ≡ 0 → links_left s ≡ []
  unfolding links_left along
  links_end e = rw e

  module _ (more : s.at ≡ 0 → ⊥) where
    some : 0 < s.at
    some = omega arith

    pub links_first : {x : ℕ} → x ≡ get_or s.next.now (s.at - 1) 0
        → links_left s ≡ get_or s.head.now (s.at - 1) 0 ∷ links_left (record s { at = x })
    unfolding links_left
    links_first e = links_cons C.falls some C.near ∙ ap (λ (l : List ℕ). get_or s.head.now (s.at - 1) 0 ∷ l) (ap (links_at (set_of s)) (sym e))

    pub links_near : {x : ℕ} → x ≡ get_or s.next.now (s.at - 1) 0 → x ≤ most_entries
    links_near e = let a = links_fall C.falls e some C.near in let b = C.near in omega arith

-- where the edges from u begin
pub links_begin : (first next head : Bor (List ℕ)) {a w u : ℕ} → a ≡ get_or first.now w 0 → w ≡ u
    → links_left (record { first = first; next = next; head = head; at = a }) ≡ heads_of (tables first.now next.now head.now) u
unfolding links_left
links_begin first next head e f = rw (e, f)

pub chained_begin : {first next head : Bor (List ℕ)} → Falls most_entries (tables first.now next.now head.now) → {a w u : ℕ}
    → a ≡ get_or first.now w 0 → w ≡ u → u < most_jobs → Chained (record { first = first; next = next; head = head; at = a })
chained_begin F {u = u} e f h = record { falls = F; near = rw (e, f) (F.first u h) }

-- a call that gave the first of what was left
pub advances : {S A : Type 0} (can : S → Type 0) (rest : S → List A) {s t : S} {x : A} → can t → rest s ≡ x ∷ rest t
    → MakesProgress can (item_count rest) s (Some x) t
advances can rest c e = let shorter = ap length e in search rules

-- ── the search ──

-- the search has come to the edges that are left
pub record Seeking (c : Chain) (u v : ℕ) (l : List ℕ) : Type 0 where
  pub is : memb v l ≡ holds_of c u v

module _ {c : Chain} {u v : ℕ} {l : List ℕ} (s : Seeking c u v l) where
  pub seek_end : l ≡ [] → false ≡ holds_of c u v
  seek_end e = rw e at s.is

  module _ {w : ℕ} {l' : List ℕ} (e : l ≡ w ∷ l') where
    there : memb v (w ∷ l') ≡ holds_of c u v
    there = rw e at s.is

    pub seek_hit : w ≡ v → true ≡ holds_of c u v
    seek_hit q = rw (eq-eqb v w (sym q)) at there

    pub seek_next : (w ≡ v → ⊥) → Seeking c u v l'
    seek_next miss = record { is = rw (ne_eqb v w (λ q. miss (sym q))) at there }

pub seek_start : {c : Chain} {u v : ℕ} {l : List ℕ} → l ≡ heads_of c u → Seeking c u v l
seek_start {v = v} e = record { is = ap (memb v) e }

pub ruleset chaining = (rules, first_in, next_in, head_in, links_fall, link_one, seek_start, seek_end, seek_hit, seek_next)

-- ── the edges of a list of jobs in turn ──

-- a number of a list of numbers below k
pub below_at : (k : ℕ) (l : List ℕ) (i : ℕ) → all_below k l ≡ true → i < length l → get_or l i 0 < k
below_at k [] i e h = absurd (not-suc-le-zero h)
below_at k (x ∷ l) zero e h = ltb-true x k (and_true {a = ltb x k} e).0
below_at k (x ∷ l) (suc i) e h = below_at k l i (and_true {a = ltb x k} e).1 (le_of_suc-le-suc h)

pub job_before : (k : ℕ) (l : List ℕ) (i : ℕ) → all_below k l ≡ true → i < length l → get_or l (i - 1) 0 < k
job_before k l i e h = below_at k l (i - 1) e (omega arith)

pub neighbours_at : (l : List ℕ) (i : ℕ) → i + 1 < length l → neighbours (drop i l) ≡ (get_or l i 0, get_or l (i + 1) 0) ∷ neighbours (drop (i + 1) l)
neighbours_at l i h =
    rw add-one (ap neighbours e ∙ ap (λ (x : List ℕ). (get_or l i 0, get_or l (suc i) 0) ∷ neighbours x) (sym (drop-cons l (suc i) 0 (omega arith))))
  where
    e : drop i l ≡ get_or l i 0 ∷ get_or l (suc i) 0 ∷ drop (suc (suc i)) l
    e = drop-cons l i 0 (omega arith) ∙ ap (λ (x : List ℕ). get_or l i 0 ∷ x) (drop-cons l (suc i) 0 (omega arith))

neighbours_none : (l : List ℕ) → length l ≤ 1 → neighbours l ≡ []
neighbours_none [] h = refl
neighbours_none (a ∷ []) h = refl
neighbours_none (a ∷ b ∷ l) h = absurd (omega arith)

pub neighbours_drop : (l : List ℕ) (i : ℕ) → length l ≤ i + 1 → neighbours (drop i l) ≡ []
neighbours_drop l i h = neighbours_none (drop i l) (simp length-drop (omega arith))

-- the loop: once the rest is linked, all is; i is the place of the next head
pub record Linking {G : Type 0} (p : G → Rule) (jobs : List ℕ) (c₀ : Chain) (i : ℕ) (c : Chain) : Type 0 where
  pub within : i ≤ length jobs + 1
  pub falls : Falls (i - 1) c
  pub rest : (c' : Chain) → Links p (neighbours (drop (i - 1) jobs)) most_entries c c' → Links p (neighbours jobs) most_entries c₀ c'

pub linking_none : {G : Type 0} (p : G → Rule) (jobs : List ℕ) (c : Chain) → Falls 0 c → Linking p jobs c 1 c
linking_none p jobs c F = record { within = omega arith; falls = F; rest = λ c' L. L }

module _ {G : Type 0} {p : G → Rule} {jobs : List ℕ} {c₀ : Chain} {i : ℕ} {c : Chain} (L : Linking p jobs c₀ i c) (some : 1 ≤ i) where
  pub linking_next : {c' : Chain} → Links p ((get_or jobs (i - 1) 0, get_or jobs i 0) ∷ []) (i - 1 + 1) c c' → i < length jobs
      → Linking p jobs c₀ (i + 1) c'
  linking_next {c'} O h =
      let q : i + 1 - 1 ≡ i - 1 + 1 = omega arith in
      let t : i - 1 + 1 ≡ i = omega arith in
      let n : neighbours (drop (i - 1) jobs) ≡ (get_or jobs (i - 1) 0, get_or jobs i 0) ∷ neighbours (drop (i - 1 + 1) jobs) =
      subst (λ (j : ℕ). neighbours (drop (i - 1) jobs) ≡ (get_or jobs (i - 1) 0, get_or jobs j 0) ∷ neighbours (drop (i - 1 + 1) jobs)) t
      (neighbours_at jobs (i - 1) (omega arith)) in
      record {
        within = omega arith;
        falls = rw q O.falls;
        rest = rw q (λ c'' M. L.rest c'' (rw n
            (record { falls = M.falls; are = λ g w l. M.are g w l ∙ ap (joined (p g) w (neighbours (drop (i - 1 + 1) jobs))) (O.are g w l) })));
      }

  pub linking_done : length jobs ≤ i → length jobs ≤ most_entries → Links p (neighbours jobs) most_entries c₀ c
  linking_done h few = let n = L.within in L.rest c
      (rw (neighbours_drop jobs (i - 1) (omega arith))
      (record { falls = falls_more L.falls (omega arith); are = λ g w l. refl }))

pub ruleset linking = (rules, falls_lent, job_before, linking_none, linking_next, linking_done)
