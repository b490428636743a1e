use mathlib.Core.Path.{refl}
use Rattle.lines.proofs.Showing.{verdict_cycle, verdict_order}
use Rattle.lines.proofs.shows.judged.Goals as goal

-- `judged`: a cycle stands alone, a line_up behind the starts. Assumes nothing.

pub returns-in-Ok-Cycle : goal.returns-in-Ok-Cycle
returns-in-Ok-Cycle c =
    verdict_cycle refl c.min-n.result c.in-Ok-Cycle.k c.line.ensures c.in-Ok-Cycle.field-0-is c.in-Ok-Cycle.ensures c.min-n.ensures

pub returns-in-Ok-LineUp : goal.returns-in-Ok-LineUp
returns-in-Ok-LineUp c =
    verdict_order refl c.min-n-in-Ok-LineUp.result c.in-Ok-LineUp.k c.line-in-Ok-LineUp.ensures c.starts-p.ensures c.in-Ok-LineUp.field-0-is
    c.in-Ok-LineUp.ensures c.min-n-in-Ok-LineUp.ensures
