use Rattle.std.proofs.Common.{arith}
use Rattle.probes.proofs.Chaining.{linking_done, linking_next}
use Rattle.probes.proofs.chain.Chain.index.Goals as goal

pub loop-i-preserved : goal.loop-i-preserved
loop-i-preserved c = linking_next c.loop-i.invariant (omega arith) c.link.ensures c.loop-i-test.true

pub returns : goal.returns
returns c = linking_done c.loop-i.invariant (omega arith) c.loop-i-test.false c.requires.0
