use Rattle.std.proofs.Common.{◌≡◌}
use Rattle.times.specs.Settles.{latest_of}
use Rattle.times.proofs.settle.latest.Given as goal

abbrev pub invariant-loop-i : goal.invariant-loop-i
invariant-loop-i l = l.top ≡ latest_of l.spans l.starts l.i
