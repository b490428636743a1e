use Rattle.shown.proofs.Cycled.{cycling}
use Rattle.shown.proofs.cycles.cycle.Goals as goal

-- `cycle`. Assumes nothing.

pub returns-then-k-gt0 : goal.returns-then-k-gt0
returns-then-k-gt0 c = search cycling

pub returns : goal.returns
returns c = search cycling
