use Rattle.lines.proofs.Filling.{filling}
use Rattle.lines.proofs.calls.narrow_all.Goals as goal

-- `narrow_all`: what is still to write, written behind what is, gives the whole. Assumes nothing.

pub loop-i-preserved : goal.loop-i-preserved
loop-i-preserved c = search filling

pub returns : goal.returns
returns c = search filling
