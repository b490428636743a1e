use Rattle.words.proofs.Writes.{Filling}
use Rattle.words.proofs.fill.Given as goal

abbrev pub invariant-loop-y : goal.invariant-loop-y
invariant-loop-y g l = Filling l.initial.y-items l.x l.y-items l.y-index
