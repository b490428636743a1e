use Rattle.stores.proofs.Laying.{base_written}
use Rattle.stores.proofs.base.write_base.Goals as goal

-- `write_base`: the head and the three tables, one behind the other. Assumes nothing.

pub returns : goal.returns
returns c =
    base_written _ _ _ _ _ c.args.base.now c.invalid_fixed-invalid.ensures c.copy_to.ensures c.lay.ensures c.lay-2.ensures
    c.lay-3.ensures c.requires.1 c.requires.2 c.requires.3 c.requires.0
