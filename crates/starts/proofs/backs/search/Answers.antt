use Rattle.starts.proofs.Backed.{backing}
use Rattle.starts.proofs.backs.search.Goals as goal

-- `search`. Assumes nothing.

pub loop-head-init : goal.loop-head-init
loop-head-init c = search backing

pub returns-then-queue-b-eq1 : goal.returns-then-queue-b-eq1
returns-then-queue-b-eq1 c = search backing

pub loop-head-preserved : goal.loop-head-preserved
loop-head-preserved c = search backing

pub returns : goal.returns
returns c = search backing
