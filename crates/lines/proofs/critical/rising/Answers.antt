use Rattle.lines.proofs.Filling.{filling}
use Rattle.lines.proofs.critical.rising.Goals as goal

-- `rising`: the next owner is written behind those in front. Assumes nothing.

pub loop-i-preserved : goal.loop-i-preserved
loop-i-preserved c = search filling
