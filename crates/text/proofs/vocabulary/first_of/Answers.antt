use native.Mathlib.Omega.{arith}
use Rattle.text.proofs.Tabled.{naming_next}
use Rattle.text.proofs.vocabulary.first_of.Goals as goal

-- `first_of`: the words before are none that the line begins with. Assumes nothing.

pub loop-word-preserved : goal.loop-word-preserved
loop-word-preserved c = naming_next c.loop-word.invariant c.name.ensures (omega arith) c.if-begins.ensures
