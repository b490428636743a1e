use Rattle.starts.proofs.Queueing.{Joining}
use Rattle.starts.proofs.queues.Queue.joins.Given as goal

abbrev pub invariant-loop-w : goal.invariant-loop-w
invariant-loop-w l = Joining l.row l.initial.self l.w-index l.self
