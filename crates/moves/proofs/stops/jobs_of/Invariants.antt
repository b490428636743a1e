use Rattle.moves.proofs.Halved.{Halving}
use Rattle.moves.proofs.stops.jobs_of.Given as goal

abbrev pub invariant-loop-i : goal.invariant-loop-i
invariant-loop-i l = Halving l.row l.initial.out l.out l.i
