use Rattle.std.proofs.Common.{◌≡◌, length}
use Rattle.graphs.specs.Graph.{zeros}
use Rattle.starts.proofs.Pulled.{Sofar}
use Rattle.starts.proofs.settle.Given as goal

abbrev pub invariant-loop-v : goal.invariant-loop-v
invariant-loop-v l = (length l.starts ≡ length l.initial.starts) × Sofar l.e l.spans zeros l.order l.n l.v-index l.initial.starts l.starts
