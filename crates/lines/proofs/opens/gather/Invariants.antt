use Prim.Native.Nat.{◌-◌}
use mathlib.Core.Path.{◌≡◌}
use lib.ListN.{length}
use Rattle.lines.proofs.Gathering.{Gathering}
use Rattle.lines.proofs.opens.gather.Given as goal

abbrev pub invariant-loop-at : goal.invariant-loop-at
invariant-loop-at l =
    Gathering l.input l.stage l.plan l.at l.line l.durations l.from l.to × (length l.durations ≡ length l.initial.durations) × (length l.from ≡ length l.initial.from)
    × (length l.to ≡ length l.initial.to)

abbrev pub decreases-loop-at : goal.decreases-loop-at
decreases-loop-at l = length l.input - l.at
