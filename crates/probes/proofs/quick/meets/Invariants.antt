use Rattle.std.proofs.Common.{◌≡◌, ◌≤◌, length}
use Rattle.rules.specs.Sizes.{most_jobs}
use Rattle.probes.specs.Aheads.{heads_left}
use Rattle.probes.proofs.Backways.{Wading}
use Rattle.probes.proofs.quick.meets.Given as goal

abbrev pub invariant-loop-v : goal.invariant-loop-v
invariant-loop-v l =
    (goal.iterator-loop-v).can_next l.v-iterator × (goal.iterator-loop-v).is_finite l.v-iterator
    × (length l.queue ≡ most_jobs) × (length l.dist ≡ most_jobs) × (l.tail ≤ most_jobs)
    × Wading (heads_left l.fn.heads) l.d l.n l.start l.initial.queue l.initial.dist (heads_left l.v-iterator) l.tail l.queue l.dist
