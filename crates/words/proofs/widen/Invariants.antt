use Rattle.words.proofs.Writes.{Copying}
use Rattle.words.proofs.widen.Given as goal

abbrev pub invariant-loop-i : goal.invariant-loop-i
invariant-loop-i l = Copying l.initial.a l.at l.s l.a l.i
