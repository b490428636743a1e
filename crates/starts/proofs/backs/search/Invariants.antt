use Rattle.std.proofs.Common.{◌≤◌, ◌-◌}
use Rattle.rules.specs.Sizes.{most_jobs}
use Rattle.starts.proofs.Backed.{Spreading}
use Rattle.starts.proofs.backs.search.Given as goal

abbrev pub invariant-loop-head : goal.invariant-loop-head
invariant-loop-head l = (l.head ≤ l.left) × Spreading l.e l.starts l.b l.top l.n l.head l.queue

abbrev pub decreases-loop-head : goal.decreases-loop-head
decreases-loop-head l = most_jobs - l.head
