-- The search among the fixed pairs: by halves for the first of a job, then one by one. Assumes nothing.
use Rattle.std.proofs.Common.{◌≡◌, ℕ, zero, suc, ◌+◌, ◌-◌, ◌<◌, ◌≤◌, true, false, ltb, ◌⊎◌, inl, inr, subst, length-drop, get_or-drop, ltb-true, List, [], ◌∷◌, length, get_or, drop, sym, refl, ◌∙◌, le_of_suc-le-suc, not-suc-le-zero, add-one, arith, drop_of_length-le, drop-cons, rules, ltb-false, le-ltb, eq-eqb, ne_eqb}
use Rattle.rules.specs.Lists.{Pair}
use Rattle.rules.specs.Moves.{occurs}
use Rattle.rules.specs.Sizes.{falls, pair_up}
use Rattle.std.specs.List.Sorted.{IsPartitionPoint}
use Rattle.rules.proofs.Members.{or_false}
use Rattle.rules.proofs.Ranges.{lt_or_le, same}
use Rattle.probes.specs.Pairs.{Parted, Rising}

-- ── tails that never fall ──

-- from one of them on
falls_from : (a : ℕ) (l : List ℕ) (i : ℕ) → falls a l ≡ false → i < length l → (a ≤ get_or l i 0) × (falls (get_or l i 0) (drop (suc i) l) ≡ false)
falls_from a [] i e h = absurd (not-suc-le-zero h)
falls_from a (b ∷ l) zero e h = let (p, q) = or_false {a = ltb b a} e in (ltb-false b a p, q)
falls_from a (b ∷ l) (suc i) e h =
    let (p, q) = or_false {a = ltb b a} e in
    let (x, y) = falls_from b l i q (le_of_suc-le-suc h) in
    (omega (arith, ltb-false b a p), y)

-- another tail
other_pair : (u v a b : ℕ) (l : List Pair) → (u ≡ a → ⊥) → occurs ((a, b) ∷ l) u v ≡ occurs l u v
other_pair u v a b l h = rw (ne_eqb u a h)

-- higher ones
none_above : (u v a : ℕ) (l m : List ℕ) → falls a l ≡ false → u < a → occurs (pair_up l m) u v ≡ false
none_above u v a [] m e h = refl
none_above u v a (b ∷ l) [] e h = refl
none_above u v a (b ∷ l) (c ∷ m) e h =
    let (p, q) = or_false {a = ltb b a} e in
    let k : a ≤ b = ltb-false b a p in
    other_pair u v b c (pair_up l m) (λ z. omega arith) ∙ none_above u v b l m q (omega arith)

-- the lower ones in front
none_below : (u v : ℕ) (l m : List ℕ) (i : ℕ) → length l ≡ length m → ((k : ℕ) → k < i → k < length l → get_or l k 0 < u)
    → occurs (pair_up (drop i l) (drop i m)) u v ≡ occurs (pair_up l m) u v
none_below u v l m zero s f = refl
none_below u v [] [] (suc i) s f = refl
none_below u v [] (c ∷ m) (suc i) s f = absurd (let g : ⊥ = omega arith in g)
none_below u v (b ∷ l) [] (suc i) s f = absurd (let g : ⊥ = omega arith in g)
none_below u v (b ∷ l) (c ∷ m) (suc i) s f =
    let k : b < u = f 0 (omega arith) (omega arith) in
    none_below u v l m i (omega arith) (λ j h n. f (suc j) (omega arith) (omega arith)) ∙ sym (other_pair u v b c (pair_up l m) (λ z. omega arith))

-- ── the first that is not lower ──

module _ (from : List ℕ) (u : ℕ) where
  pub rises : Rising from → (i j : ℕ) → i ≤ j → j < length from → get_or from i 0 ≤ get_or from j 0
  rises r i j h k = look (below_or i j h)
    where
      below_or : (i j : ℕ) → i ≤ j → (i ≡ j) ⊎ (i < j)
      below_or i j h = elim (same i j) [ inl e ↦ inl e | inr n ↦ inr (omega arith) ]

      look : (i ≡ j) ⊎ (i < j) → get_or from i 0 ≤ get_or from j 0
      look (inl e) = rw e (omega arith)
      look (inr l) =
          let (a, b) = falls_from 0 from i r.is (omega arith) in
          let (x, y) = falls_from (get_or from i 0) (drop (suc i) from) (j - suc i) b (simp length-drop (omega arith)) in
          let q : suc i + (j - suc i) ≡ j = omega arith in
          subst (λ (n : ℕ). get_or from i 0 ≤ get_or from n 0) q (rw (sym (get_or-drop (suc i) from (j - suc i) 0)) x)

  -- P: what `partition_point` says of the tails below u
  pub parted_at : (i : ℕ) → i ≤ length from → (Rising from → IsPartitionPoint (λ y. ltb y u ≡ true) (λ y. ltb y u ≡ false) from i) → Parted from u i i
  parted_at i h point = record {
    order = omega arith;
    within = h;
    none = λ r to s v. none_below u v from to i s (λ k a b. ltb-true _ _ ((point r).0 k 0 (omega arith) a));
    above = λ r. beyond r (lt_or_le i (length from));
  }
    where
      beyond : Rising from → (i < length from) ⊎ (length from ≤ i) → falls u (drop i from) ≡ false
      beyond r (inr k) = rw (drop_of_length-le from k)
      beyond r (inl k) = rw (drop-cons from i 0 k, le-ltb (get_or from i 0) u (ltb-false _ _ ((point r).1 i 0 (omega arith) k))) (falls_from 0 from i r.is k).1

-- ── one by one ──

-- no pair (u, v) stands before i, and no tail below u from there on
pub record Passing (from to : List ℕ) (u v i : ℕ) : Type 0 where
  pub none : Rising from → occurs (pair_up (drop i from) (drop i to)) u v ≡ occurs (pair_up from to) u v
  pub above : Rising from → falls u (drop i from) ≡ false

pub pass_start : {from to : List ℕ} {u i : ℕ} → Parted from u i i → length from ≡ length to → (v : ℕ) → Passing from to u v i
pass_start {to = to} P s v = record { none = λ r. P.none r to s v; above = P.above }

module _ {from to : List ℕ} {u v i : ℕ} (P : Passing from to u v i) where
  pub pass_end : length from ≤ i → Rising from → false ≡ occurs (pair_up from to) u v
  pass_end h r = rw (drop_of_length-le from h) at (P.none r)

  module _ (h : i < length from) (s : length from ≡ length to) where
    here : Rising from → occurs ((get_or from i 0, get_or to i 0) ∷ pair_up (drop (suc i) from) (drop (suc i) to)) u v ≡ occurs (pair_up from to) u v
    here r = rw (drop-cons from i 0 h, drop-cons to i 0 (omega arith)) at (P.none r)

    over : Rising from → (u ≤ get_or from i 0) × (falls (get_or from i 0) (drop (suc i) from) ≡ false)
    over r = let (p, q) = or_false {a = ltb (get_or from i 0) u} (rw (drop-cons from i 0 h) at (P.above r)) in (ltb-false (get_or from i 0) u p, q)

    -- a higher tail: those of u are all passed
    pub pass_high : (get_or from i 0 ≡ u → ⊥) → Rising from → false ≡ occurs (pair_up from to) u v
    pass_high ne r =
        let (a, b) = over r in
        sym (sym (here r) ∙ other_pair u v (get_or from i 0) (get_or to i 0) (pair_up (drop (suc i) from) (drop (suc i) to)) (λ z. ne (sym z))
        ∙ none_above u v (get_or from i 0) (drop (suc i) from) (drop (suc i) to) b (above (get_or from i 0) a ne))
      where
        above : (k : ℕ) → u ≤ k → (k ≡ u → ⊥) → u < k
        above k a f = omega arith

    pub pass_hit : get_or from i 0 ≡ u → get_or to i 0 ≡ v → Rising from → true ≡ occurs (pair_up from to) u v
    pass_hit a b r = rw (a, b, eq-eqb u u refl, eq-eqb v v refl) at (here r)

    pub pass_next : get_or from i 0 ≡ u → (get_or to i 0 ≡ v → ⊥) → Passing from to u v (i + 1)
    pass_next a ne = record {
      none = λ r. rw add-one (rw (a, eq-eqb u u refl, ne_eqb v (get_or to i 0) (λ z. ne (sym z))) at (here r));
      above = λ r. rw (add-one, ← a) (over r).1;
    }

pub ruleset seeking = (rules, pass_start, pass_end, pass_high, pass_hit, pass_next)
