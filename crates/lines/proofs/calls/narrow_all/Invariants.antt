use Rattle.text.specs.Grammar.{fitted}
use Rattle.lines.proofs.Filling.{Mapping}
use Rattle.lines.proofs.calls.narrow_all.Given as goal

abbrev pub invariant-loop-i : goal.invariant-loop-i
invariant-loop-i l = Mapping fitted l.numbers l.initial.list l.list l.i
