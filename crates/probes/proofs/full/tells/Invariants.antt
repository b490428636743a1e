use Rattle.std.proofs.Common.{◌≡◌, ◌≤◌, length}
use Rattle.rules.specs.Sizes.{most_jobs}
use Rattle.probes.specs.Aheads.{heads_left}
use Rattle.probes.proofs.Lineups.{Telling}
use Rattle.probes.proofs.full.tells.Given as goal

abbrev pub invariant-loop-v : goal.invariant-loop-v
invariant-loop-v l =
    (goal.iterator-loop-v).can_next l.v-iterator × (goal.iterator-loop-v).is_finite l.v-iterator
    × (length l.order ≡ most_jobs) × (length l.deg ≡ most_jobs) × (l.tail ≤ most_jobs)
    × Telling (heads_left l.fn.heads) l.start l.initial.order l.initial.deg (heads_left l.v-iterator) l.tail l.order l.deg
