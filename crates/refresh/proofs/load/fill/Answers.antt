use native.Mathlib.Omega.{arith}
use Rattle.refresh.proofs.Fresh.{sizes, filled}
use borrow.Author.Rules.{rules}
use Rattle.refresh.proofs.load.fill.Goals as goal

-- `fill`: all words but the times, then these and the score. Assumes nothing.

pub write-requires : goal.write-requires
write-requires c =
    c.requires.0

pub overflow_cast-plan : goal.overflow_cast-plan
overflow_cast-plan c =
    omega (arith, (sizes _ c.requires.0.fine).fixed)

pub first_score-requires : goal.first_score-requires
first_score-requires c =
    (search rules, search rules, search rules, search rules, c.requires.1, (sizes _ c.requires.0.fine).jobs)

pub returns : goal.returns
returns c =
    filled _ c.requires.0.fine c.write.ensures c.first_score.ensures
