use Rattle.std.proofs.Common.{◌≡◌, length}
use Rattle.rules.specs.Sizes.{most_jobs}
use Rattle.routes.proofs.Tallying.{Recounting}
use Rattle.routes.proofs.counts.recount.Given as goal

abbrev pub invariant-loop-stop : goal.invariant-loop-stop
invariant-loop-stop l = (length l.a ≡ most_jobs) × Recounting l.more l.initial.a l.s l.a l.stop-index
