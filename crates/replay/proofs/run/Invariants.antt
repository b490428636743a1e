use Rattle.std.proofs.Common.{◌-◌, ◌≤◌, length}
use Rattle.replay.proofs.run.Given as goal

-- a plan takes a byte or more, and has no more calls than bytes
abbrev pub invariant-loop-at : goal.invariant-loop-at
invariant-loop-at g l = (l.at ≤ length l.input) × (l.plans ≤ l.at) × (l.calls ≤ l.at) × (l.differ ≤ l.at)

abbrev pub decreases-loop-at : goal.decreases-loop-at
decreases-loop-at g l = length l.input - l.at
