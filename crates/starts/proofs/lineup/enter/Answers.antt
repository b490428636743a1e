use Rattle.starts.proofs.Lining.{lining}
use Rattle.starts.proofs.lineup.enter.Goals as goal

-- `enter`. Assumes nothing.

pub returns-then-k-eq0 : goal.returns-then-k-eq0
returns-then-k-eq0 c = search lining

pub returns : goal.returns
returns c = search lining
