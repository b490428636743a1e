-- "given exactly if": when a refusal is given, and the order of the tests (proofs/Refused: `refusal_given`, `refusal_none`, `in_order`).
use Rattle.std.specs.Prelude.{ℕ, ◌≡◌, Bool, true, false, cond, List, [], ◌∷◌, eqb}
use Rattle.rules.specs.declared.Refusal.{Refusal}
use Rattle.rules.specs.declared.Refusal.TheVariants.{ShortStore}
use Rattle.rules.specs.Calls.{Call, checks_of}
use Rattle.rules.specs.Refusals.{Check}
use Rattle.rules.specs.Routes.{State}
use Rattle.rules.specs.Sizes.{is_short}

-- all checks of a call, 9 first
abbrev pub all_checks : State → Call → List Check
all_checks s c = (ShortStore, is_short c.lent) ∷ checks_of s c.asks

-- r's test holds, and no test before it
pub data Given (r : Refusal) : List Check → Type 0 where
  by_this : {b : Bool} {l : List Check} → b ≡ true → Given r ((r, b) ∷ l)
  by_later : {q : Refusal} {b : Bool} {l : List Check} → b ≡ false → Given r l → Given r ((q, b) ∷ l)

abbrev pub test_of : Check → Bool
test_of k = k.1

-- "Order: 9, 1 (not for load and reset), 2, 3, 4, 5, 6, 7, 11, 8, 10."
abbrev pub refusal_order : List ℕ
refusal_order = 9 ∷ 1 ∷ 2 ∷ 3 ∷ 4 ∷ 5 ∷ 6 ∷ 7 ∷ 11 ∷ 8 ∷ 10 ∷ []

-- the first list is left of the second when some of it is struck out
abbrev pub is_part : List ℕ → List ℕ → Bool
is_part [] m = true
is_part (k ∷ l) [] = false
is_part (k ∷ l) (j ∷ m) = cond (eqb k j) (is_part l m) (is_part (k ∷ l) m)
