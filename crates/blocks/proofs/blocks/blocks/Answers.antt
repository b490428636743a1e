use Rattle.std.proofs.Common.{arith, add-one}
use Rattle.std.proofs.lemmas.Result.{err_from_is_err_and}
use Rattle.blocks.proofs.Emitting.{emitting_next, kept, kept_refused}
use Rattle.blocks.proofs.blocks.blocks.Goals as goal

pub loop-i-preserved : goal.loop-i-preserved
loop-i-preserved c = rw (add-one, c.put_block.ensures) (emitting_next c.loop-i.invariant c.loop-i-test.true c.next-at.ensures)

pub returns-in_err-found : goal.returns-in_err-found
returns-in_err-found c =
    let p = err_from_is_err_and c.from_residual.result c.from_residual.ensures.1 in
    rw (p.1, p.2) (kept_refused c.args.out.now c.in_err-found.ensures)

pub returns : goal.returns
returns c = kept c.in_ok-found.ensures c.loop-i.invariant (omega arith)
