use Rattle.lines.proofs.Filling.{Rising}
use Rattle.lines.proofs.critical.rising.Given as goal

abbrev pub invariant-loop-i : goal.invariant-loop-i
invariant-loop-i l = Rising l.all l.owners l.i
