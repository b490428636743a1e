use Rattle.starts.proofs.Lining.{lining}
use Rattle.starts.proofs.lineup.line_up.Goals as goal

-- `line_up`. Assumes nothing.

pub loop-head-preserved : goal.loop-head-preserved
loop-head-preserved c = search lining

pub returns : goal.returns
returns c = search lining
