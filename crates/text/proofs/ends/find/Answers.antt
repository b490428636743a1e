use Rattle.text.proofs.LineEnds.{searches}
use Rattle.text.proofs.ends.find.Goals as goal

-- `find`: what is passed holds no such byte. Assumes nothing.

pub returns-then-input-i : goal.returns-then-input-i
returns-then-input-i c = search searches

pub loop-i-preserved : goal.loop-i-preserved
loop-i-preserved c = search searches
