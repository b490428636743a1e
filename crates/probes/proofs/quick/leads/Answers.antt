use Rattle.std.proofs.Common.{◌+◌, ◌%◌, get_or, refl, ap, ◌∙◌}
use lib.ListN.{length-set}
use Rattle.probes.proofs.Backways.{spreading_done, spreading_next, spreading_none, spreading_out}
use Rattle.probes.proofs.quick.leads.Goals as goal

pub loop-head-init : goal.loop-head-init
loop-head-init c = (refl, simp length-set refl, rw c.from.ensures (spreading_none _ _ _ c.args.v c.args.n c.requires.1 c.requires.2))

pub returns-then-n-k : goal.returns-then-n-k
returns-then-n-k c = spreading_out c.loop-head.invariant.2 c.loop-head.invariant.0 c.loop-head-test.true refl (rw c.from-k.ensures at c.if-n-k.true)

pub loop-head-preserved : goal.loop-head-preserved
loop-head-preserved c = (
  c.meets-tail.auto.queue ∙ c.loop-head.invariant.0,
  c.meets-tail.auto.dist ∙ c.loop-head.invariant.1,
  spreading_next c.meets-tail.ensures c.loop-head.invariant.2 c.heads_from.ensures.sees (ap (λ k. (get_or c.loop-head.dist k 0 + 1) % 65536) c.from-k.ensures) refl c.loop-head-test.true c.requires.1 c.loop-head.invariant.0,
)

pub returns : goal.returns
returns c = rw c.from-2.ensures (spreading_done c.loop-head.invariant.2 c.loop-head.invariant.0 c.loop-head-test.false c.requires.2 c.requires.3)
