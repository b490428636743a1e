use Rattle.times.proofs.Settling.{settling}
use Rattle.times.proofs.settle.mend.Goals as goal

-- `mend`. Assumes nothing.

pub overflow_cast-result : goal.overflow_cast-result
overflow_cast-result c = search settling
