use Rattle.text.proofs.Tabled.{Naming}
use Rattle.text.proofs.vocabulary.first_of.Given as goal

abbrev pub invariant-loop-word : goal.invariant-loop-word
invariant-loop-word l = Naming l.line l.word-index
