use Rattle.std.proofs.Common.{◌≡◌, ◌≤◌, length}
use Rattle.rules.specs.Sizes.{most_jobs}
use Rattle.shown.proofs.Distanced.{Wading}
use Rattle.shown.proofs.distances.meets.Given as goal

abbrev pub invariant-loop-w : goal.invariant-loop-w
invariant-loop-w l =
    (length l.queue ≡ most_jobs) × (length l.dist ≡ most_jobs) × (l.tail ≤ most_jobs) × Wading l.row l.d l.n l.start l.initial.queue l.initial.dist l.w-index l.tail l.queue l.dist
