use Rattle.lines.proofs.Blocking.{blocking}
use Rattle.lines.proofs.critical.crit.Goals as goal

-- `crit`: the owners that `rising` tells are asked for their blocks. Assumes nothing.

pub returns : goal.returns
returns c = search blocking
