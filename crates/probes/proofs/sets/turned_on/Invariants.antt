use Rattle.probes.specs.Gathered.{comes_on}
use Rattle.probes.proofs.Chaining.{Linking}
use Rattle.probes.proofs.sets.turned_on.Given as goal

abbrev pub invariant-loop-i : goal.invariant-loop-i
invariant-loop-i l = Linking (comes_on l.e l.old) l.new l.initial.plus l.i l.plus
