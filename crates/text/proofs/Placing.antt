-- Digits written from the last to the first. Assumes nothing.
use Prim.Native.Nat.{ℕ, zero, suc, ◌+◌, ◌-◌, ◌/◌, ◌%◌, ◌≤◌, ◌<◌}
use native.Mathlib.Nat.{add-zero}
use native.Mathlib.Omega.{arith}
use mathlib.Core.Path.{◌≡◌, refl, sym, ap, ◌∙◌}
use mathlib.Core.List.{List, [], ◌∷◌, ◌++◌}
use borrow.Author.Rules.{rules}
use lib.ListN.{length, set, length-append, length-set}
use lib.Seq.{sets, set_comm}
use Rattle.text.specs.Grammar.{digits_of}
use Rattle.text.specs.Writes.{Wrote, most_digits}
use Rattle.text.proofs.Decimals.{by_digits, digits_one, digits_more, digits_length}

-- the last k digits of y
abbrev last_of : ℕ → ℕ → List ℕ
last_of zero y = []
last_of (suc k) y = last_of k (y / 10) ++ ((48 + y % 10) ∷ [])

last_length : (k y : ℕ) → length (last_of k y) ≡ k
last_length zero y = refl
last_length (suc k) y = rw (length-append, last_length k (y / 10)) (omega arith)

digits_last : (x : ℕ) → last_of (length (digits_of x)) x ≡ digits_of x
digits_last = by_digits (λ x. last_of (length (digits_of x)) x ≡ digits_of x)
    (λ x h. let e : x % 10 ≡ x = omega arith in rw (digits_one x h, e))
    (λ x h e. rw (digits_length x h, digits_more x h) (ap (λ (l : List ℕ). l ++ ((48 + x % 10) ∷ [])) e))

-- the last byte may be written first
sets_last : (a out : List ℕ) (at b : ℕ) → sets out at (a ++ (b ∷ [])) ≡ sets (set out (at + length a) b) at a
sets_last [] out at b = rw add-zero
sets_last (x ∷ a) out at b =
    let p : suc at + length a ≡ at + suc (length a) = omega arith in
    sets_last a (set out at x) (suc at) b
    ∙ ap (λ (l : List ℕ). sets l (suc at) a)
    (ap (λ (n : ℕ). set (set out at x) n b) p ∙ set_comm out at (at + suc (length a)) x b (λ e. omega arith))

-- from place i on the digits are written; those of y are to come
pub record Placing (out₀ : List ℕ) (at x : ℕ) (out : List ℕ) (i y : ℕ) : Type 0 where
  pub same : length out ≡ length out₀
  pub low : at ≤ i
  pub high : i ≤ length out₀
  pub text : sets out at (last_of (i - at) y) ≡ sets out₀ at (digits_of x)

pub place_start : (out : List ℕ) (at x w : ℕ) → (w ≡ length (digits_of x)) × (w ≤ most_digits) → at + most_digits ≤ length out
    → Placing out at x out (at + w) x
place_start out at x w (e, f) h =
    let p : at + w - at ≡ length (digits_of x) = omega arith in
    record { same = refl; low = omega arith; high = omega arith; text = rw (p, digits_last x) }

module _ {out₀ : List ℕ} {at x : ℕ} {out : List ℕ} {i y : ℕ} (P : Placing out₀ at x out i y) where
  pub place_turn : at < i → Placing out₀ at x (set out (i - 1) (48 + y % 10)) (i - 1) (y / 10)
  place_turn h =
      let p : i - at ≡ suc (i - 1 - at) = omega arith in
      let q : at + (i - 1 - at) ≡ i - 1 = omega arith in
      let l = P.high in
      record {
        same = length-set out (i - 1) (48 + y % 10) ∙ P.same;
        low = omega arith;
        high = omega arith;
        text = sym (ap (λ (k : ℕ). sets out at (last_of k y)) p
            ∙ sets_last (last_of (i - 1 - at) (y / 10)) out at (48 + y % 10)
            ∙ rw (last_length (i - 1 - at) (y / 10), q))
            ∙ P.text;
      }

  pub place_done : i ≤ at → (w : ℕ) → (w ≡ length (digits_of x)) × (w ≤ most_digits) → Wrote out₀ at (digits_of x) (at + w) out
  place_done h w (e, f) =
      let l = P.low in
      let p : i - at ≡ 0 = omega arith in
      record { end = omega arith; is = sym (ap (λ (k : ℕ). sets out at (last_of k y)) p) ∙ P.text }

pub ruleset places = (rules, place_start, place_turn, place_done)
