use Rattle.text.proofs.Decimals.{Widening}
use Rattle.text.proofs.writes.width.Given as goal

abbrev pub invariant-loop-y : goal.invariant-loop-y
invariant-loop-y l = Widening l.x l.n l.y

abbrev pub decreases-loop-y : goal.decreases-loop-y
decreases-loop-y l = l.y
