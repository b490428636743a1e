use mathlib.Core.Path.{◌∙◌}
use Rattle.probes.proofs.Turning.{contains_memb, on_comes, on_live, on_met, on_there}
use Rattle.probes.proofs.sets.turn_on.Goals as goal

pub returns-then-holds : goal.returns-then-holds
returns-then-holds c = on_there _ _ _ _ _ _ c.requires.2 _ c.holds.ensures c.if-holds.true

pub returns-then-holds-2 : goal.returns-then-holds-2
returns-then-holds-2 c = on_met _ _ _ _ _ _ c.requires.2 _ c.holds.ensures c.if-holds.false _ c.holds-2.ensures c.if-holds-2.true

pub returns-then-contains : goal.returns-then-contains
returns-then-contains c =
    on_live _ _ _ _ _ _ c.requires.2 _ c.holds.ensures c.if-holds.false _ c.holds-2.ensures c.if-holds-2.false _ _ _ c.from.ensures
    c.successors.ensures (c.contains.ensures.value ∙ contains_memb c.successors.result.now c.args.v) c.if-contains.true

pub returns : goal.returns
returns c =
    on_comes _ _ _ _ _ _ c.requires.2 _ c.holds.ensures c.if-holds.false _ c.holds-2.ensures c.if-holds-2.false _ _ _ c.from.ensures
    c.successors.ensures (c.contains.ensures.value ∙ contains_memb c.successors.result.now c.args.v) c.if-contains.false c.link.ensures
