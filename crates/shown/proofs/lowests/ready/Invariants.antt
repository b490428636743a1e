use Rattle.shown.proofs.Lowed.{Seeking}
use Rattle.shown.proofs.lowests.ready.Given as goal

abbrev pub invariant-loop-p : goal.invariant-loop-p
invariant-loop-p l = Seeking l.deg l.low l.p
