use mathlib.Core.Path.{refl}
use Rattle.stores.proofs.Promises.{exit_err}
use Rattle.stores.proofs.Retracting.{retract_closed, retract_nobody, retract_waits, retract_bad}
use Rattle.stores.proofs.retract.retract.Goals as goal

-- `retract`: by what the header says, then by the owner. Assumes nothing.

pub returns-in_err-plan : goal.returns-in_err-plan
returns-in_err-plan c = rw (exit_err c.from_residual.ensures.1) (retract_closed _ _ c.in_err-plan.ensures.says refl)

pub returns-then-not-has_owner : goal.returns-then-not-has_owner
returns-then-not-has_owner c =
    retract_nobody _ _ c.in_ok-plan.ensures.says refl c.has_owner.ensures c.if-not-has_owner.true

pub returns-in-Err : goal.returns-in-Err
returns-in-Err c = retract_bad _ _ c.in_ok-plan.ensures.says refl c.has_owner.ensures c.if-not-has_owner.false c.in-Err.ensures.waits refl

pub returns-in-Ok : goal.returns-in-Ok
returns-in-Ok c = retract_waits _ _ c.in_ok-plan.ensures.says refl c.has_owner.ensures c.if-not-has_owner.false c.in-Ok.ensures.waits refl
