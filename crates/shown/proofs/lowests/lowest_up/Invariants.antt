use Rattle.std.proofs.Common.{◌≡◌, length}
use Rattle.rules.specs.Sizes.{most_jobs}
use Rattle.shown.proofs.Lowed.{Drawing}
use Rattle.shown.proofs.lowests.lowest_up.Given as goal

abbrev pub invariant-loop-k : goal.invariant-loop-k
invariant-loop-k l = (length l.jobs ≡ most_jobs) × (length l.deg ≡ most_jobs) × Drawing l.e l.n l.k l.low l.jobs l.deg
