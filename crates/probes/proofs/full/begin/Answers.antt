use Rattle.std.proofs.Common.{◌∙◌}
use Rattle.probes.proofs.Lineups.{begins_far, begins_next}
use Rattle.probes.proofs.full.begin.Goals as goal

pub returns-then-k-gt-JOBS : goal.returns-then-k-gt-JOBS
returns-then-k-gt-JOBS c = begins_far c.loop-v.invariant.2 c.loop-v-test.true c.from-k.ensures c.if-k-gt-JOBS.true c.requires.3

pub loop-v-preserved : goal.loop-v-preserved
loop-v-preserved c = (
  c.enter-tail.auto.order ∙ c.loop-v.invariant.0,
  c.enter-tail.auto.deg ∙ c.loop-v.invariant.1,
  begins_next c.loop-v.invariant.2 c.loop-v-test.true c.from-k.ensures c.enter-tail.ensures,
)
