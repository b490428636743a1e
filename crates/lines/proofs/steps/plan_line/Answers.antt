use Rattle.lines.proofs.Stepping.{stepping}
use Rattle.lines.proofs.steps.plan_line.Goals as goal

-- `plan_line`: the numbers of `plan`. Assumes nothing.

pub returns-in-Plan : goal.returns-in-Plan
returns-in-Plan c = search stepping
