use Rattle.starts.proofs.Pulled.{pulling}
use Rattle.starts.proofs.earliest.Goals as goal

-- `earliest`. Assumes nothing.

pub returns : goal.returns
returns c = search pulling
