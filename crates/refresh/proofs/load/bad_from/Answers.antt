use Rattle.refresh.proofs.Checking.{from_high, from_falls, from_turn, from_done}
use Rattle.refresh.proofs.load.bad_from.Goals as goal
use Rattle.refresh.proofs.load.bad_from.Goals.{then-n-a-via-then-n-a, then-n-a-via-else-n-a+then-a-last}

-- `bad_from`: those passed are jobs and do not fall. Assumes nothing.

pub returns-then-n-a : goal.returns-then-n-a
returns-then-n-a c = elim c.then-n-a.branch [
  | then-n-a-via-then-n-a w ↦ from_high c.loop-a.invariant c.loop-a-test.true w.if-n-a.true
  | then-n-a-via-else-n-a+then-a-last w ↦ from_falls c.loop-a.invariant c.loop-a-test.true w.if-a-last.true
]

pub loop-a-preserved : goal.loop-a-preserved
loop-a-preserved c = from_turn c.loop-a.invariant c.loop-a-test.true c.if-n-a.false c.if-a-last.false

pub returns : goal.returns
returns c = from_done c.loop-a.invariant c.loop-a-test.false
