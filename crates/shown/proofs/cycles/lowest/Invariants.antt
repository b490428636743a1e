use Rattle.graphs.specs.Graph.{at}
use Rattle.graphs.specs.Waves.{lower_of}
use Rattle.shown.proofs.Cycled.{Sweeping}
use Rattle.shown.proofs.cycles.lowest.Given as goal

abbrev pub invariant-loop-w : goal.invariant-loop-w
invariant-loop-w l = Sweeping (λ w low. lower_of (at l.dist w) l.d w low) l.n l.row l.w-index l.low
