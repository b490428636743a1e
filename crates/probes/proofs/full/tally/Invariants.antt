use Rattle.std.proofs.Common.{◌≡◌, length}
use Rattle.rules.specs.Sizes.{most_jobs}
use Rattle.probes.specs.Fulls.{Tallied}
use Rattle.probes.proofs.full.tally.Given as goal

abbrev pub invariant-loop-u : goal.invariant-loop-u
invariant-loop-u l =
    (length l.deg ≡ most_jobs) × Tallied l.on.live.now l.on.off.now l.on.plus.now l.n l.u l.initial.deg l.deg
