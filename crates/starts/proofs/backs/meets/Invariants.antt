use Rattle.starts.proofs.Backed.{Meeting}
use Rattle.std.proofs.Common.{◌≡◌}
use Rattle.starts.proofs.backs.meets.Given as goal

abbrev pub invariant-loop-v : goal.invariant-loop-v
invariant-loop-v l = (l.queue.jobs ≡ l.initial.queue.jobs) × Meeting l.starts l.top l.row l.initial.queue l.v-index l.queue
