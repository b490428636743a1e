use Prim.Native.Nat.{ℕ, ◌≤◌}
use native.Mathlib.Omega.{arith}
use lib.IntN.{pos}
use Rattle.rules.specs.Scores.{limit}
use Rattle.rules.proofs.Ints.{Mild, neg_fits, neg_is}
use Rattle.rules.proofs.Score.of.Goals as goal

-- Each part is zero less a number that is far from the ends. Assumes nothing.

mild : {n : ℕ} → n ≤ limit → Mild (pos n)
mild h = record { far = omega arith }

pub overflow_sub-result : goal.overflow_sub-result
overflow_sub-result c = neg_fits (mild c.requires.0)

pub overflow_sub-result-2 : goal.overflow_sub-result-2
overflow_sub-result-2 c = neg_fits (mild c.requires.1)

pub returns : goal.returns
returns c = rw (neg_is (mild c.requires.0), neg_is (mild c.requires.1))
