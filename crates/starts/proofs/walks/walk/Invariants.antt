use Rattle.std.proofs.Common.{◌≡◌, ◌+◌, ◌≤◌, ◌++◌, length}
use Rattle.rules.specs.Reports.{tri}
use Rattle.graphs.specs.Graph.{zeros}
use Rattle.starts.proofs.Walking.{Running}
use Rattle.starts.proofs.walks.walk.Given as goal

abbrev pub invariant-loop-v : goal.invariant-loop-v
invariant-loop-v l = (length l.starts ≡ length l.initial.starts) × (l.visits + l.fuel ≤ tri l.n) × Running l.e l.spans zeros l.initial.starts (l.came ++ (l.went ++ l.gone)) l.n l.fuel l.visits l.starts l.queue

abbrev pub decreases-loop-v : goal.decreases-loop-v
decreases-loop-v l = l.fuel
