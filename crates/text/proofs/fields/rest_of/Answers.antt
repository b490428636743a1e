use native.Mathlib.Omega.{arith}
use Rattle.text.proofs.Scans.{scan_wide, scan_turn}
use Rattle.text.proofs.fields.rest_of.Goals as goal

-- `rest_of`: one more digit at each turn, up to where none stands or the number is too wide. Assumes nothing.

pub returns-then-d-x : goal.returns-then-d-x
returns-then-d-x c = scan_wide c.loop-i.invariant (omega arith) c.in-Some.ensures (omega arith)

pub loop-i-preserved : goal.loop-i-preserved
loop-i-preserved c = scan_turn c.loop-i.invariant (omega arith) c.in-Some.ensures (omega arith)
