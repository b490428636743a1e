use Rattle.blocks.proofs.Running.{running}
use Rattle.blocks.proofs.runs.Sight.run_end.Goals as goal

pub loop-last-init : goal.loop-last-init
loop-last-init c = search running

pub returns-then-not-is_arc : goal.returns-then-not-is_arc
returns-then-not-is_arc c = search running

pub returns : goal.returns
returns c = search running
