use Rattle.moves.proofs.Listed.{Tested}
use Rattle.moves.proofs.reroute.is_permutation.Given as goal

abbrev pub invariant-loop-number : goal.invariant-loop-number
invariant-loop-number l = Tested l.list l.k l.seen l.number-index
