-- Laws of lists: a row from a place on, how often a number stands in a list, which numbers are kept of it. Assumes nothing.
use Rattle.std.proofs.Common.{◌≡◌, ℕ, zero, suc, ◌+◌, ◌<◌, ◌≤◌, Bool, true, false, cond, not, ◌||◌, eqb, List, [], ◌∷◌, ◌++◌, map, length, get_or, set, sym, refl, ap, ◌∙◌, arith, eq-eqb, ne_eqb, eqb-true}
use borrow.Author.Tests.{eqb-false}
use Rattle.rules.specs.Lists.{memb, keep, is_zero}
use Rattle.rules.specs.Scores.{times_in}
use Rattle.rules.proofs.Ranges.{clash, pass, fail, test}
use Rattle.rules.proofs.Members.{or_false}
use Rattle.rules.proofs.Checks.{memb_times}
use Rattle.routes.specs.Stops.{bit}

pub map_set : {A B : Type 0} (g : A → B) (l : List A) (i : ℕ) (x : A) → map g (set l i x) ≡ set (map g l) i (g x)
map_set g [] i x = refl
map_set g (y ∷ l) zero x = refl
map_set g (y ∷ l) (suc i) x = ap (λ z. g y ∷ z) (map_set g l i x)

-- ── tests ──

pub same_test : (a b c d : ℕ) → (a ≡ b → c ≡ d) → (c ≡ d → a ≡ b) → eqb a b ≡ eqb c d
same_test a b c d f g = elim (test (eqb a b)) [
  | pass z ↦ z ∙ sym (eq-eqb c d (f (eqb-true a b z)))
  | fail z ↦ z ∙ sym (ne_eqb c d (λ q. eqb-false a b z (g q)))
]

pub swap_eqb : (a b : ℕ) → eqb a b ≡ eqb b a
swap_eqb a b = same_test a b b a sym sym

pub bit_one : {b : Bool} → b ≡ true → bit b ≡ 1
bit_one e = rw e

pub bit_none : {b : Bool} → b ≡ false → bit b ≡ 0
bit_none e = rw e

pub zero_true : (k : ℕ) → is_zero k ≡ true → k ≡ 0
zero_true zero e = refl
zero_true (suc k) e = clash e refl

pub zero_false : (k : ℕ) → is_zero k ≡ false → 0 < k
zero_false zero e = clash refl e
zero_false (suc k) e = omega arith

pub not_zero : (k : ℕ) → 0 < k → is_zero k ≡ false
not_zero zero h = absurd (omega arith)
not_zero (suc k) h = refl

pub not-true : (b : Bool) → not b ≡ true → b ≡ false
not-true true e = clash e refl
not-true false e = refl

-- ── who stands in a list ──

pub or_last : (b : Bool) → b || true ≡ true
or_last true = refl
or_last false = refl

pub in_first : (x : ℕ) (l : List ℕ) → memb x (x ∷ l) ≡ true
in_first x l = rw (eq-eqb x x refl)

pub in_rest : (x y : ℕ) (l : List ℕ) → memb y l ≡ true → memb y (x ∷ l) ≡ true
in_rest x y l h = rw h (or_last (eqb y x))

pub in_list : (l : List ℕ) (i : ℕ) → i < length l → memb (get_or l i 0) l ≡ true
in_list [] i h = absurd (omega arith)
in_list (x ∷ l) zero h = in_first x l
in_list (x ∷ l) (suc i) h = in_rest x (get_or l i 0) l (in_list l i (omega arith))

pub in_times : (x : ℕ) (l : List ℕ) → memb x l ≡ true → 0 < times_in x l
in_times x l h = zero_false (times_in x l) (not-true (is_zero (times_in x l)) (sym (memb_times x l) ∙ h))

pub not_in : (x : ℕ) (l : List ℕ) → times_in x l ≡ 0 → memb x l ≡ false
not_in x l h = memb_times x l ∙ rw h

pub times_none : (x : ℕ) (l : List ℕ) → memb x l ≡ false → times_in x l ≡ 0
times_none x l h = elim (test (is_zero (times_in x l))) [ pass z ↦ zero_true _ z | fail z ↦ clash (memb_times x l ∙ rw z) h ]

pub times_append : (e : ℕ) (l k : List ℕ) → times_in e (l ++ k) ≡ times_in e l + times_in e k
times_append e [] k = omega arith
times_append e (x ∷ l) k = omega (arith, times_append e l k)

pub times_few : (v : ℕ) (l : List ℕ) → times_in v l ≤ length l
times_few v [] = omega arith
times_few v (w ∷ l) = let a = times_few v l in elim (test (eqb v w)) [ pass z ↦ rw z (omega arith) | fail z ↦ rw z (omega arith) ]

-- ── those that are kept ──

module _ {A : Type 0} (p : A → Bool) where
  pub keep_append : (l k : List A) → keep p (l ++ k) ≡ keep p l ++ keep p k
  keep_append [] k = refl
  keep_append (x ∷ l) k = elim (test (p x)) [ pass z ↦ rw (z, keep_append l k) | fail z ↦ rw (z, keep_append l k) ]

  pub keep_few : (l : List A) → length (keep p l) ≤ length l
  keep_few [] = omega arith
  keep_few (x ∷ l) = let a = keep_few l in elim (test (p x)) [ pass z ↦ rw z (omega arith) | fail z ↦ rw z (omega arith) ]

pub keep_map : {A B : Type 0} (f : A → B) (c : B → Bool) (l : List A) → map f (keep (λ x. c (f x)) l) ≡ keep c (map f l)
keep_map f c [] = refl
keep_map f c (x ∷ l) = elim (test (c (f x))) [ pass z ↦ rw (z, keep_map f c l) | fail z ↦ rw (z, keep_map f c l) ]

module _ (p : ℕ → Bool) where
  -- one that passes is kept, and nothing else
  pub keep_memb : (x : ℕ) (l : List ℕ) → memb x (keep p l) ≡ cond (p x) (memb x l) false
  keep_memb x [] = elim (test (p x)) [ pass z ↦ rw z | fail z ↦ rw z ]
  keep_memb x (y ∷ l) = elim (test (eqb x y)) [
    | pass b ↦ let e : y ≡ x = sym (eqb-true x y b) in elim (test (p x)) [ pass z ↦ rw (e, z, eq-eqb x x refl) | fail z ↦ rw (e, z, keep_memb x l, z) ]
    | fail b ↦ elim (test (p y)) [ pass z ↦ rw (z, b) (keep_memb x l) | fail z ↦ rw (z, b) (keep_memb x l) ]
  ]

  pub keep_passes : (x : ℕ) (l : List ℕ) → p x ≡ true → memb x (keep p l) ≡ memb x l
  keep_passes x l h = keep_memb x l ∙ rw h

  pub keep_in : (x : ℕ) (l : List ℕ) → memb x (keep p l) ≡ true → (p x ≡ true) × (memb x l ≡ true)
  keep_in x l h = elim (test (p x)) [ pass z ↦ (z, sym (keep_passes x l z) ∙ h) | fail z ↦ clash h (keep_memb x l ∙ rw z) ]

  pub keep_same : (q : ℕ → Bool) (l : List ℕ) → ((x : ℕ) → memb x l ≡ true → p x ≡ q x) → keep p l ≡ keep q l
  keep_same q [] f = refl
  keep_same q (x ∷ l) f = rw (f x (in_first x l), keep_same q l (λ y h. f y (in_rest x y l h)))

  pub keep_keep : (q : ℕ → Bool) (l : List ℕ) → ((x : ℕ) → p x ≡ true → q x ≡ true) → keep p (keep q l) ≡ keep p l
  keep_keep q [] f = refl
  keep_keep q (x ∷ l) f = elim (test (q x)) [
    | pass a ↦ rw (a, keep_keep q l f)
    | fail a ↦ elim (test (p x)) [ pass b ↦ clash (f x b) a | fail b ↦ rw (a, b) (keep_keep q l f) ]
  ]

  pub keep_none : (l : List ℕ) → ((e : ℕ) → p e ≡ true → memb e l ≡ false) → keep p l ≡ []
  keep_none [] f = refl
  keep_none (x ∷ l) f = elim (test (p x)) [
    | pass z ↦ clash (in_first x l) (f x z)
    | fail z ↦ rw z (keep_none l (λ e h. (or_false {a = eqb e x} (f e h)).1))
  ]
