-- `answer`: an input over the limit. Assumes nothing.
use Rattle.std.proofs.Common.{arith}
use Rattle.notekarip.proofs.Running.{at_ok, over_limit}
use Rattle.notekarip.proofs.answer.Goals as goal

pub returns-then-n-gt-INPUT : goal.returns-then-n-gt-INPUT
returns-then-n-gt-INPUT g c = at_ok c.refuse.result c.refuse.ensures (over_limit _ _ _ _ _ _ c.in_ok-n.ensures.within (omega arith) c.in_ok-n.ensures.bytes)
