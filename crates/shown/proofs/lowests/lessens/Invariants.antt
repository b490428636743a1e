use Rattle.std.proofs.Common.{◌≡◌, length}
use Rattle.rules.specs.Sizes.{most_jobs}
use Rattle.shown.proofs.Lowed.{Lessening}
use Rattle.shown.proofs.lowests.lessens.Given as goal

abbrev pub invariant-loop-w : goal.invariant-loop-w
invariant-loop-w l = (length l.deg ≡ most_jobs) × Lessening l.row l.from l.initial.deg l.w-index l.low l.deg
