use Rattle.stores.specs.Words.{to_at}
use Rattle.stores.proofs.Laying.{part_front}
use Rattle.stores.proofs.base.tos.Goals as goal

pub returns : goal.returns
returns c =
    part_front to_at c.args.k c.args.base.now
