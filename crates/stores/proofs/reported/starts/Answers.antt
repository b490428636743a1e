use mathlib.Core.Path.{refl, sym, ◌∙◌}
use native.Mathlib.Omega.{arith}
use lib.Seq.{length-take-le}
use Rattle.stores.proofs.Promises.{exit_err}
use Rattle.stores.proofs.Readings.{starts_closed, starts_few, starts_all, starts_long}
use Rattle.stores.proofs.reported.starts.Goals as goal

-- `starts`: by what the header says, then by the room. Assumes nothing.

pub returns-in_err-plan : goal.returns-in_err-plan
returns-in_err-plan c = rw (exit_err c.from_residual.ensures.1) (starts_closed _ _ c.in_err-plan.ensures.says refl)

pub returns-then-out-n : goal.returns-then-out-n
returns-then-out-n c = starts_few _ _ c.in_ok-plan.ensures.says refl c.if-out-n.true

pub slice_bounds-copy_to-end : goal.slice_bounds-copy_to-end
slice_bounds-copy_to-end c =
    let o = c.in_ok-plan.ensures.opens in
    let l = starts_long c.args.store.times.now c.starts.ensures o.long.times in
    let s = o.long.spans in
    sym (length-take-le c.in_ok-plan.plan.jobs _ (omega arith))

pub returns : goal.returns
returns c =
    starts_all _ _ c.in_ok-plan.ensures.says refl refl c.if-out-n.false (c.copy_to.ensures ∙ rw c.starts.ensures)
