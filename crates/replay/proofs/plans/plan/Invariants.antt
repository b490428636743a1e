use Rattle.std.proofs.Common.{◌+◌, ◌-◌, ◌≤◌, ◌<◌, length}
use Rattle.replay.proofs.plans.plan.Given as goal

-- a line has a byte or more, so there are no more calls than bytes
abbrev pub invariant-loop-at : goal.invariant-loop-at
invariant-loop-at l =
    (l.from < l.at) × (l.at ≤ length l.input) × (l.told.calls + l.from ≤ l.at) × (l.told.calls + l.from ≤ l.end)
    × (l.told.differ + l.from ≤ l.at) × (l.told.differ + l.from ≤ l.end)

abbrev pub decreases-loop-at : goal.decreases-loop-at
decreases-loop-at l = l.end - l.at
