-- Lists, and the jobs 0 to n - 1: the few words in which the rules are written.
use Rattle.std.specs.Prelude.{ℕ, zero, suc, ◌+◌, max, min, ◌≡◌, Bool, true, false, not, cond, ◌&&◌, ◌||◌, List, [], ◌∷◌, eqb, ltb}
use Rattle.std.proofs.Math.Option.{Option, none, some}

-- ── tests ──

abbrev pub is_zero : ℕ → Bool
is_zero zero = true
is_zero (suc n) = false

abbrev pub tick : Bool → ℕ → ℕ
tick true k = suc k
tick false k = k

abbrev pub is_some : {A : Type 0} → Option A → Bool
is_some none = false
is_some (some a) = true

-- ── lists ──

module _ {A : Type 0} where
  -- those that pass
  abbrev pub keep : (A → Bool) → List A → List A
  keep p [] = []
  keep p (a ∷ l) = cond (p a) (a ∷ keep p l) (keep p l)

  -- some one passes
  abbrev pub any_of : (A → Bool) → List A → Bool
  any_of p [] = false
  any_of p (a ∷ l) = p a || any_of p l

  abbrev pub sum_of : (A → ℕ) → List A → ℕ
  sum_of f [] = 0
  sum_of f (a ∷ l) = f a + sum_of f l

  -- there is none
  abbrev pub is_empty : List A → Bool
  is_empty [] = true
  is_empty (a ∷ l) = false

-- v stands in a list
abbrev pub memb : ℕ → List ℕ → Bool
memb v [] = false
memb v (w ∷ l) = eqb v w || memb v l

-- none stands twice
abbrev pub Once : List ℕ → Type 0
Once [] = Unit {0}
Once (v ∷ l) = (memb v l ≡ false) × Once l

abbrev pub distinct : List ℕ → Bool
distinct [] = true
distinct (v ∷ l) = not (memb v l) && distinct l

abbrev pub all_below : ℕ → List ℕ → Bool
all_below n [] = true
all_below n (v ∷ l) = ltb v n && all_below n l

-- 0, 1, .. n - 1, each with what f gives
abbrev pub table : {A : Type 0} → ℕ → (ℕ → A) → List A
table zero f = []
table (suc n) f = f 0 ∷ table n (λ v. f (suc v))

-- ── pairs (from, to) ──

abbrev pub Pair : Type 0
Pair = ℕ × ℕ

abbrev pub same_pair : Pair → Pair → Bool
same_pair a b = eqb a.0 b.0 && eqb a.1 b.1

-- how often e stands in a list
abbrev pub times : Pair → List Pair → ℕ
times e [] = 0
times e (f ∷ l) = tick (same_pair e f) (times e l)

-- ── jobs below n ──

abbrev pub next : Option ℕ → ℕ → Bool → Option ℕ
next (some v) n b = some v
next none n true = some n
next none n false = none

-- the lowest that passes p
abbrev pub first : ℕ → (ℕ → Bool) → Option ℕ
first zero p = none
first (suc n) p = next (first n p) n (p n)

-- none passes p
abbrev pub nobody : ℕ → (ℕ → Bool) → Bool
nobody n p = not (is_some (first n p))

-- how many pass p
abbrev pub count : ℕ → (ℕ → Bool) → ℕ
count zero p = 0
count (suc n) p = tick (p n) (count n p)

-- the greatest f v of those that pass p, 0 if none does
abbrev pub greatest : ℕ → (ℕ → Bool) → (ℕ → ℕ) → ℕ
greatest zero p f = 0
greatest (suc n) p f = max (greatest n p f) (cond (p n) (f n) 0)

-- the least f v of those that pass p, and m if that is less
abbrev pub least : ℕ → (ℕ → Bool) → (ℕ → ℕ) → ℕ → ℕ
least zero p f m = m
least (suc n) p f m = min (least n p f m) (cond (p n) (f n) m)

abbrev pub sum_below : ℕ → (ℕ → ℕ) → ℕ
sum_below zero f = 0
sum_below (suc n) f = sum_below n f + f n

-- p without v
abbrev pub less : (ℕ → Bool) → ℕ → ℕ → Bool
less p v w = p w && not (eqb w v)
