use Rattle.shown.proofs.Lowed.{lowering}
use Rattle.shown.proofs.lowests.lowest_up.Goals as goal

-- `lowest_up`. Assumes nothing.

pub returns : goal.returns
returns c = search lowering
