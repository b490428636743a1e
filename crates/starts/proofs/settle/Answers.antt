use Rattle.starts.proofs.Pulled.{pulling}
use Rattle.starts.proofs.settle.Goals as goal

-- `settle`. Assumes nothing.

pub loop-v-preserved : goal.loop-v-preserved
loop-v-preserved c = search pulling

pub returns : goal.returns
returns c = search pulling
