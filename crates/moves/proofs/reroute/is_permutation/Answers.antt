use Rattle.moves.proofs.Listed.{tested_start}
use Rattle.moves.proofs.reroute.is_permutation.Goals as goal

pub loop-number-init : goal.loop-number-init
loop-number-init c = tested_start 1024 c.if-list-k.false c.requires
