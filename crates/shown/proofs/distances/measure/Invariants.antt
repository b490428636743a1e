use Rattle.std.proofs.Common.{◌≡◌, ◌-◌, ◌≤◌, length}
use Rattle.rules.specs.Sizes.{most_jobs}
use Rattle.shown.proofs.Distanced.{Spreading}
use Rattle.shown.proofs.distances.measure.Given as goal

abbrev pub invariant-loop-head : goal.invariant-loop-head
invariant-loop-head l =
    (length l.queue ≡ most_jobs) × (length l.dist ≡ most_jobs) × (l.tail ≤ most_jobs) × Spreading l.e l.v l.n l.initial.dist l.head l.tail l.queue l.dist

abbrev pub decreases-loop-head : goal.decreases-loop-head
decreases-loop-head l = most_jobs - l.head
