use Rattle.lines.proofs.Stepping.{stepping}
use Rattle.lines.proofs.steps.fix_line.Goals as goal

-- `fix_line`: one more pair. Assumes nothing.

pub returns-in-Fix : goal.returns-in-Fix
returns-in-Fix c = search stepping
