-- The digits of a number: one more digit, what they read as, how many there are. Assumes nothing.
use Prim.Native.Nat.{ℕ, zero, suc, ◌+◌, ◌-◌, ◌*◌, ◌/◌, ◌%◌, ◌^◌, ◌≤◌, ◌<◌}
use native.Mathlib.Nat.{not-suc-le-zero}
use native.Mathlib.Omega.{arith}
use mathlib.Core.Path.{◌≡◌, refl, sym, ap, ◌∙◌}
use mathlib.Core.Bool.{Bool, true, false}
use mathlib.Core.List.{List, [], ◌∷◌, ◌++◌}
use borrow.Author.Rules.{rules}
use lib.Dec.{ltb}
use lib.ListN.{length, length-append}
use borrow.Author.Tests.{ltb-true, ltb-false, lt-ltb, le-ltb, le-leb}
use Rattle.text.specs.Grammar.{digits_below, digits_of}
use Rattle.text.specs.Writes.{most_digits}
use Rattle.text.specs.Reads.{is_digit, Every}
use Rattle.text.proofs.Runs.{head_is, every_append}

-- ── one more digit ──

below_one : (k x : ℕ) → x < 10 → digits_below (suc k) x ≡ (48 + x) ∷ []
unfolding digits_below
below_one k x h = rw (lt-ltb x 10 h)

below_more : (k x : ℕ) → 10 ≤ x → digits_below (suc k) x ≡ digits_below k (x / 10) ++ ((48 + x % 10) ∷ [])
unfolding digits_below
below_more k x h = rw (le-ltb x 10 h)

-- one digit or more
pub by_ten : {P : Type 0} (x : ℕ) → (x < 10 → P) → (10 ≤ x → P) → P
by_ten {P} x one more = go (ltb x 10) refl
  where
    go : (b : Bool) → ltb x 10 ≡ b → P
    go true e = one (ltb-true x 10 e)
    go false e = more (ltb-false x 10 e)

-- any bound above x will do
below_same : (k j x : ℕ) → x < k → x < j → digits_below k x ≡ digits_below j x
below_same zero j x h i = absurd (not-suc-le-zero h)
below_same (suc k) zero x h i = absurd (not-suc-le-zero i)
below_same (suc k) (suc j) x h i = by_ten x
    (λ l. below_one k x l ∙ sym (below_one j x l))
    (λ l. below_more k x l
    ∙ ap (λ (d : List ℕ). d ++ ((48 + x % 10) ∷ [])) (below_same k j (x / 10) (omega arith) (omega arith))
    ∙ sym (below_more j x l))

pub digits_one : (x : ℕ) → x < 10 → digits_of x ≡ (48 + x) ∷ []
unfolding digits_of
digits_one x h = below_one x x h

pub digits_more : (x : ℕ) → 10 ≤ x → digits_of x ≡ digits_of (x / 10) ++ ((48 + x % 10) ∷ [])
unfolding digits_of
digits_more x h =
    below_more x x h ∙ ap (λ (d : List ℕ). d ++ ((48 + x % 10) ∷ [])) (below_same x (suc (x / 10)) (x / 10) (omega arith) (omega arith))

pub digits_push : (x d : ℕ) → 0 < x → d < 10 → digits_of (10 * x + d) ≡ digits_of x ++ ((48 + d) ∷ [])
digits_push x d h i =
    let q : (10 * x + d) / 10 ≡ x = omega arith in
    let r : (10 * x + d) % 10 ≡ d = omega arith in
    digits_more (10 * x + d) (omega arith) ∙ rw (q, r)

-- by the number of digits
by_digits_below : (P : ℕ → Type 0) → ((x : ℕ) → x < 10 → P x) → ((x : ℕ) → 10 ≤ x → P (x / 10) → P x) → (k x : ℕ) → x < k → P x
by_digits_below P one more zero x h = absurd (not-suc-le-zero h)
by_digits_below P one more (suc k) x h = by_ten x (one x) (λ l. more x l (by_digits_below P one more k (x / 10) (omega arith)))

pub by_digits : (P : ℕ → Type 0) → ((x : ℕ) → x < 10 → P x) → ((x : ℕ) → 10 ≤ x → P (x / 10) → P x) → (x : ℕ) → P x
by_digits P one more x = by_digits_below P one more (suc x) x (omega arith)

-- ── all are digits ──

pub digit_is : (d : ℕ) → d < 10 → is_digit (48 + d) ≡ true
digit_is d h = rw (le-leb 48 (48 + d) (omega arith), le-leb (48 + d) 57 (omega arith))

pub digits_every : (x : ℕ) → Every is_digit (digits_of x)
digits_every = by_digits (λ x. Every is_digit (digits_of x))
    (λ x h. rw (digits_one x h) (digit_is x h, tt))
    (λ x h e. rw (digits_more x h) (every_append is_digit (digits_of (x / 10)) _ e (digit_is (x % 10) (omega arith), tt)))

-- ── what they read as ──

-- the digits of a list behind those of x
abbrev pub read : ℕ → List ℕ → ℕ
read x [] = x
read x (b ∷ l) = read (10 * x + (b - 48)) l

read_append : (x : ℕ) (a b : List ℕ) → read x (a ++ b) ≡ read (read x a) b
read_append x [] b = refl
read_append x (d ∷ a) b = read_append (10 * x + (d - 48)) a b

pub read_digits : (x : ℕ) → read 0 (digits_of x) ≡ x
read_digits = by_digits (λ x. read 0 (digits_of x) ≡ x)
    (λ x h. rw (digits_one x h) (omega arith))
    (λ x h e. rw (digits_more x h, read_append 0 (digits_of (x / 10)) _, e) (omega arith))

read_grows : (x : ℕ) (l : List ℕ) → x ≤ read x l
read_grows x [] = omega arith
read_grows x (b ∷ l) = let h = read_grows (10 * x + (b - 48)) l in omega arith

pub digits_same : (x y : ℕ) → digits_of x ≡ digits_of y → x ≡ y
digits_same x y e = sym (read_digits x) ∙ ap (read 0) e ∙ read_digits y

-- a number whose digits go on after those of x is no less than x
pub digits_grow : (x y : ℕ) (m : List ℕ) → digits_of y ≡ digits_of x ++ m → x ≤ y
digits_grow x y m e =
    let q : y ≡ read x m = sym (read_digits y) ∙ ap (read 0) e ∙ read_append 0 (digits_of x) m ∙ ap (λ (k : ℕ). read k m) (read_digits x) in
    let h = read_grows x m in
    omega arith

-- ── how many ──

pub digits_length : (x : ℕ) → 10 ≤ x → length (digits_of x) ≡ suc (length (digits_of (x / 10)))
digits_length x h = rw (digits_more x h, length-append) (omega arith)

pub digits_some : (x : ℕ) → 0 < length (digits_of x)
digits_some = by_digits (λ x. 0 < length (digits_of x))
    (λ x h. rw (digits_one x h) (omega arith))
    (λ x h e. rw (digits_length x h) (omega arith))

digits_few : (k x : ℕ) → x < 10 ^ suc k → length (digits_of x) ≤ suc k
digits_few zero x h = rw (digits_one x (omega arith)) (omega arith)
digits_few (suc k) x h = by_ten x
    (λ l. rw (digits_one x l) (omega arith))
    (λ l. let f = digits_few k (x / 10) (omega arith) in rw (digits_length x l) (omega arith))

pub digits_twenty : (x : ℕ) → x < 2 ^ 64 → length (digits_of x) ≤ most_digits
digits_twenty x h = digits_few 19 x (omega arith)

-- n digits are counted, and those of y but one are not
pub record Widening (x n y : ℕ) : Type 0 where
  pub few : length (digits_of x) ≤ most_digits
  pub is : n + length (digits_of y) ≡ 1 + length (digits_of x)

pub width_start : (x : ℕ) → x < 2 ^ 64 → Widening x 1 x
width_start x h = record { few = digits_twenty x h; is = omega arith }

module _ {x n y : ℕ} (W : Widening x n y) where
  pub width_turn : 10 ≤ y → Widening x (n + 1) (y / 10)
  width_turn h =
      let l = digits_length y h in
      let q = W.is in
      record { few = W.few; is = omega arith }

  pub width_is : y < 10 → n ≡ length (digits_of x)
  width_is h = let l = ap length (digits_one y h) in let q = W.is in omega arith

  pub width_few : y < 10 → n ≤ most_digits
  width_few h = let e = width_is h in let f = W.few in omega arith

pub ruleset widths = (rules, width_start, width_turn, width_is, width_few)

-- ── no leading zero ──

front : (c : ℕ) (a b m : List ℕ) → 0 < length a → a ++ b ≡ c ∷ m → (l : List ℕ) × (a ≡ c ∷ l)
front c [] b m h e = absurd (not-suc-le-zero h)
front c (x ∷ a) b m h e = (a, cc)

pub no_zero_first : (x : ℕ) (m : List ℕ) → digits_of x ≡ 48 ∷ m → x ≡ 0
no_zero_first = by_digits (λ x. (m : List ℕ) → digits_of x ≡ 48 ∷ m → x ≡ 0)
    (λ x h m e. let f : 48 + x ≡ 48 = head_is (sym (digits_one x h) ∙ e) in omega arith)
    (λ x h r m e.
    let (l, f) = front 48 (digits_of (x / 10)) _ m (digits_some (x / 10)) (sym (digits_more x h) ∙ e) in
    let z = r l f in
    omega arith)
