use Rattle.blocks.proofs.Running.{running}
use Rattle.blocks.proofs.runs.joins.Goals as goal

pub returns-then-stop-eq1 : goal.returns-then-stop-eq1
returns-then-stop-eq1 c = search running

pub returns-else-stop-eq1 : goal.returns-else-stop-eq1
returns-else-stop-eq1 c = search running
