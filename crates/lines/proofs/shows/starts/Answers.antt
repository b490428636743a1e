use mathlib.Core.Path.{refl}
use Rattle.lines.proofs.Showing.{showing, starts_all}
use Rattle.lines.proofs.shows.starts.Goals as goal

-- `starts`: the text of what the call replied. Assumes nothing.

pub line-requires : goal.line-requires
line-requires c = search showing

pub returns-in-Ok : goal.returns-in-Ok
returns-in-Ok c = starts_all refl c.min-n.result c.in-Ok.k c.line.ensures c.in-Ok.ensures c.min-n.ensures
