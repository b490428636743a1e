use mathlib.Core.Path.{refl}
use Rattle.stores.proofs.Promises.{exit_err}
use Rattle.refresh.proofs.Showing.{verdict_closed, verdict_few, verdict_shown}
use Rattle.refresh.proofs.verdict.verdict.Goals as goal

-- `verdict`: by what the header says, then by the room. Assumes nothing.

pub returns-in_err-plan : goal.returns-in_err-plan
returns-in_err-plan c = rw (exit_err c.from_residual.ensures.1) (verdict_closed _ _ c.in_err-plan.ensures.says refl)

pub returns-then-out-n : goal.returns-then-out-n
returns-then-out-n c = verdict_few _ _ c.in_ok-plan.ensures.says refl c.if-out-n.true

pub returns : goal.returns
returns c = verdict_shown _ _ c.in_ok-plan.ensures.says refl refl c.if-out-n.false c.shown.ensures
