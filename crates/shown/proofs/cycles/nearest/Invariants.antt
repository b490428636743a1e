use Rattle.graphs.specs.Graph.{at}
use Rattle.graphs.specs.Waves.{nearer}
use Rattle.shown.proofs.Cycled.{Sweeping}
use Rattle.shown.proofs.cycles.nearest.Given as goal

abbrev pub invariant-loop-w : goal.invariant-loop-w
invariant-loop-w l = Sweeping (λ w b. nearer (at l.dist w) b) 0 l.row l.w-index l.best
