use native.Mathlib.Omega.{arith}
use Rattle.text.proofs.Gathers.{gather_room, gather_less, gather_turn, gather_unread, gathers}
use Rattle.text.proofs.fields.numbers.Goals as goal

-- `numbers`: a space and a number at each turn, up to the line's end or a place where no field stands. Assumes nothing.

pub returns-then-line-i-ne32 : goal.returns-then-line-i-ne32
returns-then-line-i-ne32 c = search gathers

pub returns-in_err-v : goal.returns-in_err-v
returns-in_err-v c = rw c.from_residual.ensures (gather_unread c.loop-i.invariant (omega arith) c.in_err-v.ensures)

pub bounds-out-k : goal.bounds-out-k
bounds-out-k c = gather_room c.loop-i.invariant (omega arith) c.in_ok-v.ensures c.requires

pub loop-i-smaller : goal.loop-i-smaller
loop-i-smaller c = gather_less c.loop-i.invariant (omega arith) c.in_ok-v.ensures

pub loop-i-preserved : goal.loop-i-preserved
loop-i-preserved c = gather_turn c.loop-i.invariant (omega arith) c.in_ok-v.ensures c.requires c.if-line-i-ne32.false

pub returns : goal.returns
returns c = search gathers
