use Rattle.std.proofs.Common.{◌≡◌, length}
use Rattle.rules.specs.Sizes.{most_jobs}
use Rattle.probes.specs.Fulls.{Begins}
use Rattle.probes.proofs.full.begin.Given as goal

abbrev pub invariant-loop-v : goal.invariant-loop-v
invariant-loop-v l = (length l.order ≡ most_jobs) × (length l.deg ≡ most_jobs) × Begins l.count l.n l.v l.tail l.order l.deg
