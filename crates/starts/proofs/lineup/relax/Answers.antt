use Rattle.starts.proofs.Lining.{lining}
use Rattle.starts.proofs.lineup.relax.Goals as goal

-- `relax`. Assumes nothing.

pub returns-then-tail-ge-JOBS : goal.returns-then-tail-ge-JOBS
returns-then-tail-ge-JOBS c = search lining

pub returns-then-d-eq1 : goal.returns-then-d-eq1
returns-then-d-eq1 c = search lining

pub returns : goal.returns
returns c = search lining
