use Rattle.stores.specs.Words.{from_at}
use Rattle.stores.proofs.Laying.{part_front}
use Rattle.stores.proofs.base.froms.Goals as goal

pub returns : goal.returns
returns c =
    part_front from_at c.args.k c.args.base.now
