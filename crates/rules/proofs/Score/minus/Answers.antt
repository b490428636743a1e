use Rattle.rules.proofs.Ints.{sub_fits, sub_is}
use Rattle.rules.proofs.Scoring.{mild_hard, mild_soft}
use Rattle.rules.proofs.Score.minus.Goals as goal

-- Each part is a difference of two numbers that are far from the ends. Assumes nothing.

pub overflow_sub-result : goal.overflow_sub-result
overflow_sub-result c = search (sub_fits, mild_hard)

pub overflow_sub-result-2 : goal.overflow_sub-result-2
overflow_sub-result-2 c = search (sub_fits, mild_soft)

pub returns : goal.returns
returns c = search (sub_is, mild_hard, mild_soft)
