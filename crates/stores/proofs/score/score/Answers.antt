use mathlib.Core.Path.{refl}
use Rattle.stores.proofs.Promises.{exit_err}
use Rattle.stores.proofs.Readings.{score_closed, score_bad, score_is}
use Rattle.stores.proofs.score.score.Goals as goal

-- `score`: by what the header says, then by what the words tell. Assumes nothing.

pub returns-in_err-plan : goal.returns-in_err-plan
returns-in_err-plan c = rw (exit_err c.from_residual.ensures.1) (score_closed _ c.in_err-plan.ensures.says refl)

pub returns-in_err-score : goal.returns-in_err-score
returns-in_err-score c =
    rw (exit_err c.from_residual-in_err-score.ensures.1) (score_bad _ c.in_ok-plan.ensures.says refl c.in_err-score.ensures refl)

pub returns : goal.returns
returns c = score_is _ c.in_ok-plan.ensures.says refl c.in_ok-score.ensures refl c.match_count.ensures
