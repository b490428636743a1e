use Rattle.text.proofs.Pieces.{Fielding}
use Rattle.text.proofs.answers.fields_of.Given as goal

abbrev pub invariant-loop-x : goal.invariant-loop-x
invariant-loop-x g l = Fielding g.T.Into.converts l.list l.initial.out l.at l.out l.p l.x-index
