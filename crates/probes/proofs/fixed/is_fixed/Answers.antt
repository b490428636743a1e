use Rattle.probes.proofs.Sought.{pass_high}
use Rattle.probes.proofs.fixed.is_fixed.Goals as goal

pub returns-then-from-i : goal.returns-then-from-i
returns-then-from-i c = pass_high c.loop-i.invariant c.loop-i-test.true c.requires c.if-from-i.true
