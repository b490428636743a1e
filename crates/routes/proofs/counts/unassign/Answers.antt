use Rattle.std.proofs.Common.{arith, sym, length-take-le}
use Rattle.routes.proofs.Tallying.{unassigned}
use Rattle.routes.proofs.counts.unassign.Goals as goal

pub slice_bounds-recount-end-2 : goal.slice_bounds-recount-end-2
slice_bounds-recount-end-2 c = sym (length-take-le _ _ (omega arith))

pub recount-requires : goal.recount-requires
recount-requires c = length-take-le _ _ (omega arith)

pub returns : goal.returns
returns c =
    let rows = c.split_at_mut-rows.ensures in
    unassigned _ _ _ c.requires.0 (c.requires.1, c.requires.2) rows.front rows.back c.recount.ensures
