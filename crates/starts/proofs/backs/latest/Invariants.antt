use Rattle.starts.proofs.Backed.{Lating}
use Rattle.starts.proofs.backs.latest.Given as goal

abbrev pub invariant-loop-v : goal.invariant-loop-v
invariant-loop-v l = Lating l.row l.starts l.n l.v-index l.top
