use Rattle.blocks.proofs.Running.{running}
use Rattle.blocks.proofs.runs.Sight.first_critical.Goals as goal

pub loop-i-preserved : goal.loop-i-preserved
loop-i-preserved c = search running

pub returns : goal.returns
returns c = search running
