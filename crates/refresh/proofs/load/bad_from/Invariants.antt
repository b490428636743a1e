use Rattle.refresh.proofs.Checking.{Rising}
use Rattle.refresh.proofs.load.bad_from.Given as goal

abbrev pub invariant-loop-a : goal.invariant-loop-a
invariant-loop-a l = Rising l.n l.from l.last l.a-index
