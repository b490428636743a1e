use Rattle.std.proofs.Common.{refl}
use Rattle.std.proofs.lemmas.Result.{err_from_is_err_and}
use Rattle.stores.specs.Held.{held}
use Rattle.blocks.proofs.Searching.{few_starts, searched_calm, searched_closed, searched_cyclic, searching}
use Rattle.blocks.proofs.blocks.search.Goals as goal

pub returns-in_err-plan : goal.returns-in_err-plan
returns-in_err-plan c =
    let p = err_from_is_err_and c.from_residual.result c.from_residual.ensures.1 in
    rw (p.1, p.2) (searched_closed _ _ _ c.in_err-plan.ensures.says refl)

pub returns-then-is_cyclic : goal.returns-then-is_cyclic
returns-then-is_cyclic c = searched_cyclic _ _ _ c.in_ok-plan.ensures.says refl c.is_cyclic.ensures c.if-is_cyclic.true refl

pub counted-requires : goal.counted-requires
counted-requires c =
    let O = c.in_ok-plan.ensures.opens in (search searching, few_starts (held c.args.store) O c.starts.ensures, search searching)

pub returns : goal.returns
returns c =
    searched_calm _ _ _ c.in_ok-plan.ensures.says refl c.counted.ensures c.starts.ensures c.makespan.ensures refl c.is_cyclic.ensures c.if-is_cyclic.false
