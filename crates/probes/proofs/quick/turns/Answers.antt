use Rattle.std.proofs.Common.{arith}
use Rattle.probes.proofs.Backways.{trying_done, trying_hit}
use Rattle.probes.proofs.quick.turns.Goals as goal

pub returns-then-closes : goal.returns-then-closes
returns-then-closes c = trying_hit c.loop-i.invariant (omega arith) c.loop-i-test.true c.closes.ensures c.if-closes.true

pub returns : goal.returns
returns c = trying_done c.loop-i.invariant (omega arith) c.loop-i-test.false
