use Prim.Native.Nat.{ℕ}
use mathlib.Core.Path.{◌≡◌, refl, sym}
use mathlib.Core.Bool.{Bool, true, false, not, and-false}
use native.Mathlib.Nat.{lt_of_le_of_lt}
use lib.Dec.{ltb, leb, lit≤}
use borrow.Author.Tests.{ltb-true, ltb-false, lt-ltb, le-ltb, le-leb, lt-leb}
use Rattle.rules.proofs.Plan.fits.Goals as goal

-- A count above its size makes the whole product of tests false; at the end only the last test is left. Assumes nothing.

by_test : (a b : ℕ) (t : Bool) → ltb a b ≡ t → not t ≡ leb b a
by_test a b true e = sym (lt-leb b a (ltb-true a b e))
by_test a b false e = sym (le-leb b a (ltb-false a b e))

not_ltb : (a b : ℕ) → not (ltb a b) ≡ leb b a
not_ltb a b = by_test a b (ltb a b) refl

-- with room between the two numbers, so that a wrong constant is refused at the fact that it breaks
ruleset found = (lt-ltb, and-false, lt_of_le_of_lt, lit≤, tt)

pub returns-then-jobs-gt-JOBS : goal.returns-then-jobs-gt-JOBS
returns-then-jobs-gt-JOBS c = search found

pub returns-then-owners-gt-OWNERS : goal.returns-then-owners-gt-OWNERS
returns-then-owners-gt-OWNERS c = search found

pub returns : goal.returns
returns c = search (le-ltb, not_ltb)
