use Rattle.text.proofs.Placing.{Placing}
use Rattle.text.proofs.writes.write_number.Given as goal

abbrev pub invariant-loop-i : goal.invariant-loop-i
invariant-loop-i l = Placing l.initial.out l.at l.x l.out l.i l.y
