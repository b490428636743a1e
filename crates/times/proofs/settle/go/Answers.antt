use Rattle.times.proofs.Settling.{settling}
use Rattle.times.proofs.settle.go.Goals as goal

-- `go`. Assumes nothing.

pub returns : goal.returns
returns c = search settling
