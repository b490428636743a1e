-- What the functions that write promise. Assumes nothing.
use Rattle.std.specs.Prelude.{ℕ, suc, ◌+◌, ◌≤◌, ◌≡◌, List, ◌∷◌, ℤ, pos, negsuc, length}
use Rattle.std.proofs.lemmas.List.Edits.{sets}
use Rattle.text.specs.Grammar.{digits_of}

-- a minus sign before the digits of what is below 0
abbrev pub signed_of : ℤ → List ℕ
signed_of (pos n) = digits_of n
signed_of (negsuc n) = 45 ∷ digits_of (suc n)

-- the bytes stand at a place, r is the place after them, and nothing else is touched
pub record Wrote (out : List ℕ) (at : ℕ) (bytes : List ℕ) (r : ℕ) (out' : List ℕ) : Type 0 where
  pub end : r ≡ at + length bytes
  pub is : out' ≡ sets out at bytes

-- a number below 2^64 has no more digits; a space before it makes a field, and a sign before it a field of one more byte
abbrev pub most_digits : ℕ
most_digits = 20

abbrev pub most_field : ℕ
most_field = most_digits + 1

abbrev pub most_signed : ℕ
most_signed = most_digits + 2

-- the bytes stand at a place, r is the place behind them, at most so many further on, and nothing else is touched
pub record Fills (out : List ℕ) (at : ℕ) (bytes : List ℕ) (most : ℕ) (r : ℕ) (out' : List ℕ) : Type 0 where
  pub wrote : Wrote out at bytes r out'
  pub few : r ≤ at + most
