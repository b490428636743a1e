-- What the matching of `differences` comes to. Assumes nothing.
use Rattle.std.proofs.Common.{◌≡◌, ℕ, ◌+◌, Bool, true, false, eqb, ◌⊎◌, List, [], ◌∷◌, refl, ◌∙◌, inl, inr, ⊎_elim, arith, ne_eqb, eqb-true}
use Rattle.rules.specs.Lists.{memb, keep}
use Rattle.rules.specs.Scores.{times_in}
use Rattle.rules.proofs.Ranges.{clash, pass, fail, test}
use Rattle.rules.proofs.Members.{or_false}
use Rattle.routes.specs.Stops.{bit}
use Rattle.routes.specs.Differs.{struck, strike, seat, gone_of, left_of, seat_all, Differs}
use Rattle.routes.proofs.Lists.{bit_none, in_first, times_none}

-- ── how often ──

times_strike : (e x : ℕ) (l : List ℕ) → memb x l ≡ true → (e ≡ struck → ⊥) → times_in e l ≡ bit (eqb e x) + times_in e (strike x l)
unfolding strike
times_strike e x [] h q = clash h refl
times_strike e x (y ∷ l) h q = elim (test (eqb x y)) [
  | pass z ↦ rw (z, eqb-true x y z) (omega (arith, bit_none (ne_eqb e struck q)))
  | fail z ↦ rw z (omega (arith, times_strike e x l (rw z at h) q))
]

times_seat : (e x : ℕ) (l : List ℕ) → times_in e (seat x l) ≡ bit (eqb e x) + times_in e l
unfolding seat
times_seat e x [] = refl
times_seat e x (y ∷ l) = elim (test (eqb y x)) [ pass z ↦ rw z | fail z ↦ rw z (omega (arith, times_seat e x l)) ]

module _ (e : ℕ) (q : e ≡ struck → ⊥) where
  balance : (old new gone : List ℕ)
      → times_in e (gone_of old new gone) + times_in e new ≡ times_in e gone + times_in e old + times_in e (left_of old new)
  unfolding gone_of left_of
  balance [] new gone = omega arith
  balance (x ∷ old) new gone = elim (test (memb x new)) [
    | pass z ↦ rw z (omega (arith, balance old (strike x new) gone, times_strike e x new z q))
    | fail z ↦ rw z (omega (arith, balance old new (seat x gone), times_seat e x gone))
  ]

  none_struck : (x : ℕ) (l : List ℕ) → memb e l ≡ false → memb e (strike x l) ≡ false
  unfolding strike
  none_struck x [] h = refl
  none_struck x (y ∷ l) h = let w = or_false {a = eqb e y} h in elim (test (eqb x y)) [
    | pass z ↦ rw (z, ne_eqb e struck q, w.1)
    | fail z ↦ rw (z, w.0, none_struck x l w.1)
  ]

  none_left : (old new : List ℕ) → memb e new ≡ false → memb e (left_of old new) ≡ false
  unfolding left_of
  none_left [] new h = h
  none_left (x ∷ old) new h = elim (test (memb x new)) [
    | pass z ↦ rw z (none_left old (strike x new) (none_struck x new h))
    | fail z ↦ rw z (none_left old new h)
  ]

  -- not both: none of them goes, or none of them is left
  apart : (old new gone : List ℕ) → times_in e gone ≡ 0 → (times_in e (gone_of old new gone) ≡ 0) ⊎ (times_in e (left_of old new) ≡ 0)
  unfolding gone_of left_of
  apart [] new gone h = inl h
  apart (x ∷ old) new gone h = elim (test (memb x new)) [
    | pass z ↦ rw z (apart old (strike x new) gone h)
    | fail z ↦ rw z (elim (test (eqb e x)) [
      | pass w ↦ inr (times_none e (left_of old new) (none_left old new (rw (eqb-true e x w) z)))
      | fail w ↦ apart old new (seat x gone) (omega (arith, times_seat e x gone, bit_none w))
    ])
  ]

-- ── in which order ──

module _ (p : ℕ → Bool) where
  keep_seat : (x : ℕ) (l : List ℕ) → p x ≡ true → keep p (seat x l) ≡ seat x (keep p l)
  unfolding seat
  keep_seat x [] h = rw h
  keep_seat x (y ∷ l) h = elim (test (eqb y x)) [
    | pass z ↦ let k : p y ≡ true = rw (eqb-true y x z) h in rw (z, h, k, z)
    | fail z ↦ elim (test (p y)) [ pass w ↦ rw (z, w, keep_seat x l h, z) | fail w ↦ rw (z, w, keep_seat x l h) ]
  ]

  drop_seat : (x : ℕ) (l : List ℕ) → p x ≡ false → keep p (seat x l) ≡ keep p l
  unfolding seat
  drop_seat x [] h = rw h
  drop_seat x (y ∷ l) h = elim (test (eqb y x)) [ pass z ↦ rw (z, h) | fail z ↦ rw (z, drop_seat x l h) ]

  module _ (s : p struck ≡ false) where
    keep_strike : (x : ℕ) (l : List ℕ) → p x ≡ false → keep p (strike x l) ≡ keep p l
    unfolding strike
    keep_strike x [] h = refl
    keep_strike x (y ∷ l) h = elim (test (eqb x y)) [
      | pass z ↦ let k : p y ≡ false = rw (← eqb-true x y z) h in rw (z, s, k)
      | fail z ↦ rw (z, keep_strike x l h)
    ]

    order_gone : (old new gone : List ℕ) → ((e : ℕ) → p e ≡ true → memb e new ≡ false)
        → keep p (gone_of old new gone) ≡ seat_all (keep p gone) (keep p old)
    unfolding gone_of seat_all
    order_gone [] new gone f = refl
    order_gone (x ∷ old) new gone f = elim (test (memb x new)) [
      | pass z ↦ elim (test (p x)) [
        | pass w ↦ clash z (f x w)
        | fail w ↦ rw (z, w) (order_gone old (strike x new) gone (λ e h. none_struck e (λ k. clash h (rw k s)) x new (f e h)))
      ]
      | fail z ↦ elim (test (p x)) [
        | pass w ↦ rw (z, w) (order_gone old new (seat x gone) f ∙ rw (keep_seat x gone w))
        | fail w ↦ rw (z, w) (order_gone old new (seat x gone) f ∙ rw (drop_seat x gone w))
      ]
    ]

    order_left : (old new : List ℕ) → ((e : ℕ) → p e ≡ true → memb e old ≡ false) → keep p (left_of old new) ≡ keep p new
    unfolding left_of
    order_left [] new f = refl
    order_left (x ∷ old) new f =
        let rest : (e : ℕ) → p e ≡ true → memb e old ≡ false = λ e h. (or_false {a = eqb e x} (f e h)).1 in
        elim (test (p x)) [
          | pass w ↦ clash (in_first x old) (f x w)
          | fail w ↦ elim (test (memb x new)) [
            | pass z ↦ rw z (order_left old (strike x new) rest ∙ keep_strike x new w)
            | fail z ↦ rw z (order_left old new rest)
          ]
        ]

-- what the code finds is the difference
pub differs : (old new : List ℕ) → Differs old new (gone_of old new []) (left_of old new)
differs old new = record {
  goes = λ e q. let b = balance e q old new [] in ⊎_elim (λ z. omega arith) (λ z. omega arith) (apart e q old new [] refl);
  comes = λ e q. let b = balance e q old new [] in ⊎_elim (λ z. omega arith) (λ z. omega arith) (apart e q old new [] refl);
  first_gone = λ p s f. order_gone p s old new [] f;
  first_left = λ p s f. order_left p s old new f;
}
