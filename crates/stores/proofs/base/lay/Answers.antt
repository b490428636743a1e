use mathlib.Core.Path.{refl}
use Rattle.stores.proofs.Laying.{behind}
use Rattle.stores.proofs.base.lay.Goals as goal

-- `lay`: the list, and the filling behind it. Assumes nothing.

pub returns : goal.returns
returns g c = behind _ c.args.s.now _ _ _ c.copy_to.ensures c.fill.ensures refl
