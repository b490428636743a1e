use Rattle.std.proofs.Common.{◌≡◌, length}
use Rattle.rules.specs.Sizes.{most_jobs}
use Rattle.shown.proofs.Cycled.{Tracing}
use Rattle.shown.proofs.cycles.trace.Given as goal

abbrev pub invariant-loop-k : goal.invariant-loop-k
invariant-loop-k l = (length l.out ≡ most_jobs) × Tracing l.e l.v l.n l.dist l.d l.initial.out l.u l.k l.out
