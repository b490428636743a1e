use Rattle.std.proofs.Common.{◌∙◌, rules, tests}
use Rattle.std.proofs.lemmas.Iterator.{YieldsList-from_slice}
use Rattle.std.proofs.lemmas.Iterator.Search.{all_from_yields_List}
use lib.Dec.{ltb}
use Rattle.moves.proofs.Halved.{below_tested}
use Rattle.moves.proofs.stops.are_jobs.Goals as goal

pub returns : goal.returns
returns c =
    all_from_yields_List (λ v. ltb v c.args.n) _ _ c.all.result c.all.ensures.ran (YieldsList-from_slice c.args.jobs.now cc)
    (λ x b q k. search (rules, tests))
    ∙ below_tested c.args.n c.args.jobs.now
