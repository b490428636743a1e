use Rattle.shown.proofs.Distanced.{distancing}
use Rattle.shown.proofs.distances.meet.Goals as goal

-- `meet`. Assumes nothing.

pub returns-then-dist-k-gt0 : goal.returns-then-dist-k-gt0
returns-then-dist-k-gt0 c = search distancing

pub returns-then-tail-ge-JOBS : goal.returns-then-tail-ge-JOBS
returns-then-tail-ge-JOBS c = search distancing

pub returns : goal.returns
returns c = search distancing
