use Rattle.blocks.proofs.Settling.{settling}
use Rattle.blocks.proofs.critical.latest.Goals as goal

pub loop-w-preserved : goal.loop-w-preserved
loop-w-preserved c = search settling

pub returns : goal.returns
returns c = search settling
