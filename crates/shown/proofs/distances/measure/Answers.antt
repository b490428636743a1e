use Rattle.shown.proofs.Distanced.{distancing}
use Rattle.shown.proofs.distances.measure.Goals as goal

-- `measure`. Assumes nothing.

pub returns-then-n-u : goal.returns-then-n-u
returns-then-n-u c = search distancing
