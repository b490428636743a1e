use mathlib.Core.Path.{refl}
use native.Mathlib.Omega.{arith}
use lib.ListN.{length-take, length-replicate}
use Rattle.std.proofs.lemmas.Result.{err_from_is_err_and}
use Rattle.stores.proofs.Openings.{open_is}
use Rattle.moves.proofs.Promised.{moved_finished, moved_positions, moved_refused, ready}
use Rattle.moves.proofs.moved.answer.Goals as goal

-- `answer`: by what the move asks first, then by its positions. Assumes nothing.

pub returns-in_err-plan : goal.returns-in_err-plan
returns-in_err-plan c =
    let p = err_from_is_err_and c.from_residual.result c.from_residual.ensures.1 in
    rw (p.1, p.2) (moved_refused _ _ _ _ c.in_err-plan.ensures refl)

pub returns-then-not-place : goal.returns-then-not-place
returns-then-not-place c = moved_positions _ _ _ _ c.in_ok-plan.ensures refl refl c.place.ensures c.if-not-place.true

pub finish-requires : goal.finish-requires
finish-requires c =
    let r = ready c.in_ok-plan.ensures refl in (
      open_is _ _ _ r.opens,
      simp length-take (omega (arith, r.few)),
      rw c.place.auto.new (simp length-take (omega (arith, r.few))),
    )

pub returns : goal.returns
returns c =
    moved_finished _ _ _ _ c.in_ok-plan.ensures refl refl c.place.ensures c.if-not-place.false
    (let b = c.begin.auto.old in rw c.place.auto.new (simp (length-take, length-replicate) (omega arith))) c.finish.ensures
