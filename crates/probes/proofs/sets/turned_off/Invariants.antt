use Rattle.probes.specs.Gathered.{goes_off}
use Rattle.probes.proofs.Chaining.{Linking}
use Rattle.probes.proofs.sets.turned_off.Given as goal

abbrev pub invariant-loop-i : goal.invariant-loop-i
invariant-loop-i l = Linking (goes_off l.from l.to l.new) l.old l.initial.off l.i l.off
