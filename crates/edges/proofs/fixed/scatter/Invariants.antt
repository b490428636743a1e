use Rattle.edges.proofs.Turns.{Spreading}
use Rattle.edges.proofs.fixed.scatter.Given as goal

abbrev pub invariant-loop-i : goal.invariant-loop-i
invariant-loop-i l = Spreading l.initial.e l.tails l.initial.next l.e l.next l.i
