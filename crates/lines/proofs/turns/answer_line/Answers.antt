use mathlib.Core.Path.{refl}
use Rattle.lines.proofs.Turning.{turn_endless, turn_bad}
use Rattle.lines.proofs.turns.answer_line.Goals as goal

-- `answer_line`: a line that has no LF, or doesn't fit, is the last. Assumes nothing.

pub returns-in_default : goal.returns-in_default
returns-in_default c = turn_endless c.requires c.bad.ensures c.line_end.result c.line_end.ensures c.in_default.not-Some refl

pub returns-in-None : goal.returns-in-None
returns-in-None c = turn_bad c.requires c.in-Some.ensures c.bad-in-None.ensures c.in-None.ensures
