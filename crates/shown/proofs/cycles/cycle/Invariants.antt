use Rattle.std.proofs.Common.{◌≡◌, length}
use Rattle.rules.specs.Sizes.{most_jobs}
use Rattle.shown.proofs.Cycled.{Circling}
use Rattle.shown.proofs.cycles.cycle.Given as goal

abbrev pub invariant-loop-v : goal.invariant-loop-v
invariant-loop-v l = (length l.out ≡ most_jobs) × Circling l.e l.n l.initial.out l.v l.out
