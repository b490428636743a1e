use Rattle.std.proofs.Common.{◌≡◌, ◌-◌, length}
use Rattle.rules.specs.Sizes.{most_jobs}
use Rattle.probes.proofs.Backways.{Spreading}
use Rattle.probes.proofs.quick.leads.Given as goal

abbrev pub invariant-loop-head : goal.invariant-loop-head
invariant-loop-head l =
    (length l.queue ≡ most_jobs) × (length l.dist ≡ most_jobs)
    × Spreading l.on.live.now l.on.off.now l.on.plus.now l.v l.n l.head l.tail l.queue l.dist

abbrev pub decreases-loop-head : goal.decreases-loop-head
decreases-loop-head l = most_jobs - l.head
