use Rattle.std.proofs.Common.{◌∙◌, arith, length-set}
use Rattle.std.proofs.lemmas.List.{set-get_or}
use Rattle.routes.proofs.Matching.{matching, matching_hit, matching_miss}
use Rattle.routes.proofs.difference.differences.Goals as goal

pub old-preserved-then-y-x : goal.old-preserved-then-y-x
old-preserved-then-y-x c =
    let (_, _, k) = c.old.invariant in
    let (e, s) = c.loop-y.invariant in
    (search matching, simp length-set (search matching), matching_hit k s e c.if-y-x.true (omega arith) (omega arith))

pub loop-y-preserved : goal.loop-y-preserved
loop-y-preserved c = (set-get_or _ _ _ ∙ c.loop-y.invariant.0, search matching)

pub old-preserved : goal.old-preserved
old-preserved c =
    let (_, _, k) = c.old.invariant in
    let (e, s) = c.loop-y.invariant in
    (search matching, search matching, matching_miss k s e c.seat_in.ensures (omega arith) (omega arith))

pub returns : goal.returns
returns c = search matching
