use Rattle.starts.proofs.Queueing.{queueing}
use Rattle.starts.proofs.queues.Queue.join.Goals as goal

-- `join`. Assumes nothing.

pub returns-then-self-k : goal.returns-then-self-k
returns-then-self-k c = search queueing

pub returns-then-self-ge-JOBS : goal.returns-then-self-ge-JOBS
returns-then-self-ge-JOBS c = search queueing

pub returns : goal.returns
returns c = search queueing
