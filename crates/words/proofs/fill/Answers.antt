use Rattle.words.proofs.Writes.{fill_next, filled}
use Rattle.words.proofs.fill.Goals as goal

pub loop-y-preserved : goal.loop-y-preserved
loop-y-preserved g c = fill_next c.loop-y.invariant c.loop-y-test.true

pub returns : goal.returns
returns g c = filled c.args.from c.args.to c.args.a.now c.requires.0 c.requires.1 c.loop-y.invariant c.loop-y-test.false
