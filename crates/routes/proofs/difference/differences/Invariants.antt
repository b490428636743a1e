use Rattle.std.proofs.Common.{◌≡◌, length}
use Rattle.routes.proofs.Matching.{Searching, Matching}
use Rattle.routes.proofs.difference.differences.Given as goal

abbrev pub invariant-loop-y : goal.invariant-loop-y
invariant-loop-y l = (l.new ≡ l.initial.new) × Searching l.initial.new l.x l.y-index

abbrev pub invariant-old : goal.invariant-old
invariant-old l =
    (length l.old ≡ length l.initial.old) × (length l.new ≡ length l.initial.new) × Matching l.initial.old l.initial.new l.old l.new l.g l.i
