use Rattle.times.proofs.Settling.{settling}
use Rattle.times.proofs.settle.anew.Goals as goal

-- `anew`. Assumes nothing.

pub returns-then-full : goal.returns-then-full
returns-then-full c = search (settling, c.fill.ensures.after)
