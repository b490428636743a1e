use Rattle.std.proofs.Common.{◌≡◌, length}
use Rattle.rules.specs.Sizes.{most_jobs}
use Rattle.probes.specs.Aheads.{heads_left}
use Rattle.probes.proofs.Tallying.{Bumping}
use Rattle.probes.proofs.full.bumps.Given as goal

abbrev pub invariant-loop-v : goal.invariant-loop-v
invariant-loop-v l =
    (goal.iterator-loop-v).can_next l.v-iterator × (goal.iterator-loop-v).is_finite l.v-iterator
    × (length l.deg ≡ most_jobs) × Bumping (heads_left l.fn.heads) l.initial.deg (heads_left l.v-iterator) l.deg
