use Rattle.std.proofs.Common.{◌∙◌}
use Rattle.probes.proofs.Lineups.{telling_next}
use Rattle.probes.proofs.full.tells.Goals as goal

pub loop-v-preserved : goal.loop-v-preserved
loop-v-preserved c =
    let (a, b, o, d, s, T) = c.loop-v.invariant in
    (c.in-Some.ensures.goes.keeps, tt, c.relax-tail.auto.order ∙ o, c.relax-tail.auto.deg ∙ d, c.relax-tail.ensures.short, telling_next T c.in-Some.ensures.steps c.relax-tail.ensures)
