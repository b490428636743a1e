use Rattle.routes.proofs.Waits.{Freeing}
use Rattle.routes.proofs.wait.freed.Given as goal

abbrev pub invariant-loop-w : goal.invariant-loop-w
invariant-loop-w l = Freeing l.r l.owner.0 l.w-items l.sum l.w-index
