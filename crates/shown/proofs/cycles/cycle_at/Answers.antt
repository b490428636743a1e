use Rattle.shown.proofs.Cycled.{cycling}
use Rattle.shown.proofs.cycles.cycle_at.Goals as goal

-- `cycle_at`. Assumes nothing.

pub returns-then-n-d : goal.returns-then-n-d
returns-then-n-d c = search cycling

pub returns : goal.returns
returns c = search cycling
