-- A digit, and a number digit by digit: the digits so far and what is left make the text. Assumes nothing.
use Prim.Native.Nat.{ℕ, ◌+◌, ◌-◌, ◌*◌, ◌/◌, ◌^◌, ◌≤◌, ◌<◌}
use native.Mathlib.Omega.{arith}
use native.Mathlib.Numerals.{add-one}
use mathlib.Core.Path.{◌≡◌, refl, sym, ap, ◌∙◌}
use mathlib.Core.List.{List, [], ◌∷◌, ◌++◌, append_assoc}
use lib.ListN.{length, get_or, drop, drop_of_length-le}
use lib.Seq.{drop-cons}
use borrow.Author.Rules.{rules}
use borrow.Author.Tests.{lt-leb}
use mathlib.Core.Bool.{Bool, true, false, ◌&&◌}
use lib.Dec.{leb}
use Rattle.text.specs.Grammar.{digits_of}
use Rattle.text.specs.Reads.{is_digit, Stops, Digit, Reads}
use Rattle.std.specs.Prelude.{Option, Some, None, is_some}
use Rattle.text.proofs.Runs.{unlike, tail_is, begins_with, cut_same}
use Rattle.text.proofs.Decimals.{digits_one, digits_push, digit_is, digits_every, digits_grow, digits_some, no_zero_first}

-- ── a digit ──

and_false : (b : Bool) → b && false ≡ false
and_false true = refl
and_false false = refl

pub digit_low : {b : ℕ} → b < 48 → Digit b None
digit_low {b} h = rw (lt-leb 48 b h) refl

pub digit_high : {b : ℕ} → 57 < b → Digit b None
digit_high {b} k = rw (lt-leb b 57 k) (and_false (leb 48 b))

pub digit_of : {b : ℕ} → 48 ≤ b → b ≤ 57 → Digit b (Some (b - 48))
digit_of h k = (omega arith, omega arith)

-- at a place of the line
module _ (line : List ℕ) (i : ℕ) where
  stops_end : length line ≤ i → Stops is_digit (drop i line)
  stops_end h = rw (drop_of_length-le line h) tt

  module _ (h : i < length line) where
    stops_at_lem : Digit (get_or line i 0) None → Stops is_digit (drop i line)
    stops_at_lem D = rw (drop-cons line i 0 h) D

    stands : {d : ℕ} → Digit (get_or line i 0) (Some d) → drop i line ≡ (48 + d) ∷ drop (i + 1) line
    stands (b, e) = rw (drop-cons line i 0 h, e, add-one)

-- ── one more digit ──

-- no number is larger
abbrev largest : ℕ
largest = 18446744073709551615

-- the digits of x stand in front of what is left of the text t from place i on
pub record Scanning (t line : List ℕ) (from i x : ℕ) : Type 0 where
  pub ahead : from ≤ i
  pub within : i ≤ length line
  pub some : 0 < x
  pub below : x < 2 ^ 64
  pub text : t ≡ digits_of x ++ drop i line

pub scan_start : {line : List ℕ} {from x : ℕ} → (0 < x) × (from ≤ length line) → x < 2 ^ 64
    → Scanning (digits_of x ++ drop from line) line from from x
scan_start (s, w) b = record { ahead = omega arith; within = w; some = s; below = b; text = refl }

module _ {t line : List ℕ} {from i x : ℕ} (S : Scanning t line from i x) where
  scanned : Stops is_digit (drop i line) → Reads t line from (Some (x, i))
  scanned s = (S.ahead, record { below = S.below; within = S.within; text = S.text; stops = s })

  pub scan_ends : length line ≤ i → Reads t line from (Some (x, i))
  scan_ends h = scanned (stops_end line i h)

  pub scan_done : i < length line → Digit (get_or line i 0) None → Reads t line from (Some (x, i))
  scan_done h D = scanned (stops_at_lem line i h D)

  module _ (h : i < length line) {d : ℕ} (D : Digit (get_or line i 0) (Some d)) where
    pushed : t ≡ digits_of (10 * x + d) ++ drop (i + 1) line
    pushed = S.text ∙ rw (stands line i h D, digits_push x d S.some D.0, append_assoc)

    pub scan_turn : x ≤ (largest - d) / 10 → Scanning t line from (i + 1) (10 * x + d)
    scan_turn w =
        let a = S.ahead in
        let p = S.some in
        let n = D.0 in
        record { ahead = omega arith; within = omega arith; some = omega arith; below = omega arith; text = pushed }

    pub scan_wide : largest < 10 * x + d → Reads t line from None
    scan_wide w v rest k s f =
        let (m, g, j) = begins_with is_digit (digits_of (10 * x + d)) (digits_of v) (digits_every (10 * x + d)) s (sym pushed ∙ f) in
        let z = digits_grow (10 * x + d) v m g in
        omega arith

pub ruleset scans = (rules, digit_low, digit_high, digit_of, scan_start, scan_ends, scan_done, scan_turn)

-- ── the first digit ──

module _ (line : List ℕ) (from : ℕ) where
  none_reads : Stops is_digit (drop from line) → Reads (drop from line) line from None
  none_reads s v rest k j e =
      let (f, g) = cut_same is_digit [] (digits_of v) tt (digits_every v) s j e in
      let l = digits_some v in
      let z : length (digits_of v) ≡ 0 = ap length (sym f) in
      omega arith

  pub number_ends : length line ≤ from → Reads (drop from line) line from None
  number_ends h = none_reads (stops_end line from h)

  module _ (h : from < length line) where
    pub number_none : Digit (get_or line from 0) None → Reads (drop from line) line from None
    number_none D = none_reads (stops_at_lem line from h D)

    module _ {d : ℕ} (D : Digit (get_or line from 0) (Some d)) where
      first_is : drop from line ≡ digits_of d ++ drop (from + 1) line
      first_is = stands line from h D ∙ rw (digits_one d D.0)

      pub number_rest : (r : Option (ℕ × ℕ)) → Reads (digits_of d ++ drop (from + 1) line) line (from + 1) r → Reads (drop from line) line from r
      number_rest (Some n) (k, R) = (omega arith, rw first_is R)
      number_rest None R = rw first_is R

      -- a zero stands alone
      module _ (z : d ≤ 0) where
        zero_is : drop from line ≡ 48 ∷ drop (from + 1) line
        zero_is = let q : d ≡ 0 = omega arith in stands line from h D ∙ rw q

        alone : Stops is_digit (drop (from + 1) line) → Reads (drop from line) line from (Some (0, from + 1))
        alone s =
            (omega arith, record { below = omega arith; within = omega arith; text = zero_is ∙ rw (digits_one 0 (omega arith)); stops = s })

        pub number_zero_ends : length line ≤ from + 1 → Reads (drop from line) line from (Some (0, from + 1))
        number_zero_ends k = alone (stops_end line (from + 1) k)

        module _ (k : from + 1 < length line) where
          pub number_zero : (r : Option ℕ) → Digit (get_or line (from + 1) 0) r → is_some r ≡ false → Reads (drop from line) line from (Some (0, from + 1))
          number_zero None C t = alone (stops_at_lem line (from + 1) k C)
          number_zero (Some c) C t = unlike refl t

          pub number_zeros : (r : Option ℕ) → Digit (get_or line (from + 1) 0) r → is_some r ≡ true → Reads (drop from line) line from None
          number_zeros None C t v rest b s e = unlike t refl
          number_zeros (Some c) C t v rest b s e =
              let (m, g, j) = begins_with is_digit (48 ∷ []) (digits_of v) (refl, tt) s (sym zero_is ∙ e) in
              let o : digits_of v ≡ 48 ∷ [] = rw (no_zero_first v m g) (digits_one 0 (omega arith)) in
              let x : 48 ∷ drop (from + 1) line ≡ 48 ∷ rest = sym zero_is ∙ e ∙ ap (λ (l : List ℕ). l ++ rest) o in
              let u : rest ≡ (48 + c) ∷ drop (from + 1 + 1) line = sym (tail_is x) ∙ stands line (from + 1) k C in
              unlike (digit_is c C.0) (rw u at s)
