use Rattle.routes.proofs.Reseating.{settled_by}
use Rattle.routes.proofs.route.settle.Goals as goal

pub returns : goal.returns
returns c =
    settled_by _ _ _ _ _ _ c.args.r.now _ _ _ _ c.shift.ensures c.splice.ensures c.recount.ensures c.unassign.ensures c.shift_of.ensures
    c.from-f.ensures c.from-t.ensures c.from-n.ensures
