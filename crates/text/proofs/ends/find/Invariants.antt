use Rattle.text.proofs.LineEnds.{Searching}
use Rattle.text.proofs.ends.find.Given as goal

abbrev pub invariant-loop-i : goal.invariant-loop-i
invariant-loop-i l = Searching l.byte l.input l.from l.i
