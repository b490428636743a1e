use Rattle.probes.proofs.Sought.{Passing}
use Rattle.probes.proofs.fixed.is_fixed.Given as goal

abbrev pub invariant-loop-i : goal.invariant-loop-i
invariant-loop-i l = Passing l.from l.to l.u l.v l.i
