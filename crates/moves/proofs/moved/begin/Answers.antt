use mathlib.Core.Path.{refl}
use Rattle.std.proofs.lemmas.Result.{err_from_is_err_and}
use Rattle.moves.proofs.Promised.{begins_broken, begins_closed, begins_nobody, begins_of}
use Rattle.moves.proofs.moved.begin.Goals as goal

-- `begin`: by what the header says, then by the owner, then by its route. Assumes nothing.

pub returns-in_err-plan : goal.returns-in_err-plan
returns-in_err-plan c =
    let p = err_from_is_err_and c.from_residual.result c.from_residual.ensures.1 in
    rw (p.1, p.2) (begins_closed _ _ c.in_err-plan.ensures.says refl)

pub returns-then-not-has_owner : goal.returns-then-not-has_owner
returns-then-not-has_owner c = begins_nobody _ _ c.in_ok-plan.ensures.says refl c.has_owner.ensures c.if-not-has_owner.true

pub returns-in_err-len : goal.returns-in_err-len
returns-in_err-len c =
    let p = err_from_is_err_and c.from_residual-in_err-len.result c.from_residual-in_err-len.ensures.1 in
    rw (p.1, p.2)
    (begins_broken _ _ c.in_ok-plan.ensures.says refl c.has_owner.ensures c.if-not-has_owner.false c.in_ok-plan.ensures.opens.owners
    c.in_err-len.ensures refl)

pub returns : goal.returns
returns c =
    begins_of _ _ c.in_ok-plan.ensures.says refl c.has_owner.ensures c.if-not-has_owner.false c.in_ok-plan.ensures.opens.owners
    c.in_ok-len.ensures refl
