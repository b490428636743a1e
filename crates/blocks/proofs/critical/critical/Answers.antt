use Rattle.blocks.proofs.Settling.{settling}
use Rattle.blocks.proofs.critical.critical.Goals as goal

pub returns-else-line_up : goal.returns-else-line_up
returns-else-line_up c = search settling
