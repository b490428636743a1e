use Rattle.starts.proofs.Backed.{Turning}
use Rattle.starts.proofs.backs.judge.Given as goal

abbrev pub invariant-loop-b : goal.invariant-loop-b
invariant-loop-b l = Turning l.e l.starts l.heads l.n l.b-index
