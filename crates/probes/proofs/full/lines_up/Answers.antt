use Rattle.std.proofs.Common.{refl, ◌∙◌}
use Rattle.probes.proofs.Lineups.{lined_done, lined_next, lined_none, lined_out}
use Rattle.probes.proofs.full.lines_up.Goals as goal

pub loop-head-init : goal.loop-head-init
loop-head-init c = (c.begin-tail.auto.order, c.begin-tail.auto.deg, lined_none c.begin-tail.ensures c.tally.ensures c.requires.1)

pub returns-then-n-from : goal.returns-then-n-from
returns-then-n-from c = lined_out c.loop-head.invariant.2 c.loop-head.invariant.0 c.loop-head-test.true refl (rw c.from.ensures at c.if-n-from.true)

pub loop-head-preserved : goal.loop-head-preserved
loop-head-preserved c = (
  c.tells-tail.auto.order ∙ c.loop-head.invariant.0,
  c.tells-tail.auto.deg ∙ c.loop-head.invariant.1,
  lined_next c.tells-tail.ensures c.loop-head.invariant.2 c.heads_from.ensures.sees refl c.loop-head-test.true c.requires.1 c.loop-head.invariant.0,
)

pub returns : goal.returns
returns c = lined_done c.loop-head.invariant.2 c.loop-head.invariant.0 c.loop-head-test.false
