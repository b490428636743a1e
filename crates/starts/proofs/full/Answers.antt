use Rattle.starts.proofs.Pulled.{pulling}
use Rattle.starts.proofs.full.Goals as goal

-- `full`. Assumes nothing.

pub returns-then-line_up : goal.returns-then-line_up
returns-then-line_up c = search pulling
