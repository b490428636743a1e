use Rattle.std.proofs.Common.{◌≡◌, length, refl}
use Rattle.rules.specs.Sizes.{most_jobs}
use Rattle.stores.specs.Held.{held}
use Rattle.blocks.proofs.Searching.{few_in, few_starts, moved_on_lem, moved_closed}
use Rattle.blocks.proofs.blocks.next.Goals as goal

pub returns-in_default : goal.returns-in_default
returns-in_default c = moved_closed _ _ _ _ _ c.plan.ensures.says c.in_default.is

pub invariant_of-sight-clause-started : goal.invariant_of-sight-clause-started
invariant_of-sight-clause-started c = few_starts (held c.args.store) c.in-Ok.ensures.opens c.starts.ensures

pub invariant_of-sight-clause-marked : goal.invariant_of-sight-clause-marked
invariant_of-sight-clause-marked c =
    -- the type of an array says how long it is
    let marks : length c.args.found.crit ≡ most_jobs = c.well_formed.1.1.0.1.1.0.1.0.1 in
    few_in (held c.args.store) c.in-Ok.ensures.opens c.args.found.crit marks

pub returns : goal.returns
returns c = moved_on_lem c.step.ensures c.starts.ensures refl c.in-Ok.is c.plan.ensures.says
