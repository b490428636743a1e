use Rattle.std.proofs.Common.{◌≡◌, ◌-◌, length}
use Rattle.rules.specs.Sizes.{most_jobs}
use Rattle.probes.proofs.Lineups.{Lined}
use Rattle.probes.proofs.full.lines_up.Given as goal

abbrev pub invariant-loop-head : goal.invariant-loop-head
invariant-loop-head l =
    (length l.order ≡ most_jobs) × (length l.deg ≡ most_jobs)
    × Lined l.on.live.now l.on.off.now l.on.plus.now l.n l.head l.tail l.order l.deg

abbrev pub decreases-loop-head : goal.decreases-loop-head
decreases-loop-head l = most_jobs - l.head
