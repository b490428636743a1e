use Rattle.moves.proofs.Laid.{Filling}
use Rattle.moves.proofs.reroute.permute.Given as goal

abbrev pub invariant-loop-i : goal.invariant-loop-i
invariant-loop-i l = Filling l.old l.a l.list l.initial.new l.new l.i
