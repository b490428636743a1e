use Rattle.std.proofs.Common.{◌≡◌, ◌≤◌, length}
use Rattle.rules.specs.Sizes.{most_jobs}
use Rattle.starts.specs.Lines.{Lined}
use Rattle.starts.proofs.lineup.degrees.Given as goal

abbrev pub invariant-loop-v : goal.invariant-loop-v
invariant-loop-v l = (length l.order ≡ most_jobs) × (length l.deg ≡ most_jobs) × (l.tail ≤ l.v) × Lined l.e l.n l.v 0 l.tail l.order l.deg
