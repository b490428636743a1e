use Rattle.starts.proofs.Backed.{backing}
use Rattle.starts.proofs.backs.meet.Goals as goal

-- `meet`: a number that is no job. Assumes nothing.

pub returns-then-queue-k : goal.returns-then-queue-k
returns-then-queue-k c = search backing
