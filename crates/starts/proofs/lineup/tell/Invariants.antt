use Rattle.std.proofs.Common.{◌≡◌, ◌≤◌, length}
use Rattle.rules.specs.Sizes.{most_jobs}
use Rattle.starts.proofs.Lining.{Telling}
use Rattle.starts.proofs.lineup.tell.Given as goal

abbrev pub invariant-loop-v : goal.invariant-loop-v
invariant-loop-v l = (length l.order ≡ most_jobs) × (length l.deg ≡ most_jobs) × (l.tail ≤ most_jobs) × Telling l.row l.start l.initial.order l.initial.deg l.v-index l.tail l.order l.deg
