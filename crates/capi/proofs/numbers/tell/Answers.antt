use Rattle.std.proofs.Common.{arith, length, refl, sym, zero-add}
use lib.Seq.{sets-eq}
use Rattle.capi.proofs.numbers.tell.Goals as goal

pub returns : goal.returns
returns c =
    let e = sets-eq c.args.row.now c.args.told.now 0 (omega arith) in
    (refl, rw c.copy_from_slice.ensures.after (sym (rw (zero-add (length c.args.row.now)) at e)))
