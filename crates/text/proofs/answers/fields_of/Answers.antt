use native.Mathlib.Omega.{arith}
use Rattle.text.proofs.Pieces.{fields_turn}
use Rattle.text.proofs.answers.fields_of.Goals as goal

-- `fields_of`: one more field at each turn. Assumes nothing.

pub loop-x-preserved : goal.loop-x-preserved
loop-x-preserved g c =
    fields_turn g.T.Into.converts c.args.list.now c.loop-x.invariant (omega arith) c.x-item.is c.into.ensures c.number_field-p.ensures
