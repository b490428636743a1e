use mathlib.Core.Path.{refl}
use Rattle.stores.proofs.Promises.{exit_err}
use Rattle.refresh.proofs.Putting.{put_closed, put_refused, put_changed}
use Rattle.refresh.proofs.put.put.Goals as goal

-- `put`: by what the header says, then by 5 and 6, then as the slices cut to their constants change. Assumes nothing.

pub returns-in_err-plan : goal.returns-in_err-plan
returns-in_err-plan c = rw (exit_err c.from_residual.ensures.1) (put_closed _ _ _ c.in_err-plan.ensures.says refl)

pub returns-in_err-asked : goal.returns-in_err-asked
returns-in_err-asked c =
    rw (exit_err c.from_residual-in_err-asked.ensures.1) (put_refused _ _ _ c.in_ok-plan.ensures.says refl c.in_err-asked.ensures refl)

pub returns : goal.returns
returns c = put_changed _ _ _ c.in_ok-plan.ensures.says refl c.in_ok-asked.ensures refl c.rescore.ensures
