use Rattle.words.proofs.Writes.{Copying}
use Rattle.words.proofs.copy_to.Given as goal

abbrev pub invariant-loop-i : goal.invariant-loop-i
invariant-loop-i g l = Copying l.initial.a l.at l.s l.a l.i
