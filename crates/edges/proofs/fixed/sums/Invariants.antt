use Rattle.edges.proofs.Sums.{Summing}
use Rattle.edges.proofs.fixed.sums.Given as goal

abbrev pub invariant-loop-i : goal.invariant-loop-i
invariant-loop-i l = Summing l.initial.a l.d l.a l.s l.i
