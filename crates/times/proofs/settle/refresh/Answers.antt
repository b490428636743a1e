use Rattle.times.proofs.Settling.{settling}
use Rattle.times.proofs.settle.refresh.Goals as goal

-- `refresh`. Assumes nothing.

pub returns-then-is_cyclic : goal.returns-then-is_cyclic
returns-then-is_cyclic c = search settling

pub returns-then-judge : goal.returns-then-judge
returns-then-judge c = search settling

pub returns : goal.returns
returns c = search settling
