use Rattle.shown.proofs.Cycled.{cycling}
use Rattle.shown.proofs.cycles.trace.Goals as goal

-- `trace`. Assumes nothing.

pub loop-k-preserved : goal.loop-k-preserved
loop-k-preserved c = search cycling
