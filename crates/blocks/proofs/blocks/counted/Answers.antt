use Rattle.std.proofs.lemmas.Result.{err_from_is_err_and}
use Rattle.blocks.proofs.Searching.{counted_all, counted_none}
use Rattle.blocks.proofs.blocks.counted.Goals as goal

pub returns-in_err-count : goal.returns-in_err-count
returns-in_err-count c =
    let p = err_from_is_err_and c.from_residual.result c.from_residual.ensures.1 in
    rw (p.1, p.2) (counted_none c.count.ensures c.critical.ensures c.in_err-count.was)

pub returns : goal.returns
returns c = counted_all c.count.ensures c.critical.ensures c.in_ok-count.was c.outset.ensures
