use Rattle.blocks.proofs.Settling.{settling}
use Rattle.blocks.proofs.critical.latests.Goals as goal

pub returns : goal.returns
returns c = search settling

pub loop-i-preserved : goal.loop-i-preserved
loop-i-preserved c = (search settling, search settling, search settling)
