use Rattle.blocks.proofs.Settling.{settling}
use Rattle.blocks.proofs.critical.lower.Goals as goal

pub returns-then-n-k : goal.returns-then-n-k
returns-then-n-k c = search settling

pub returns-else-n-k : goal.returns-else-n-k
returns-else-n-k c = search settling
