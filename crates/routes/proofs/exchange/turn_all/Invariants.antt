use Rattle.std.proofs.Common.{◌≡◌, length}
use Rattle.rules.specs.Sizes.{edges_length}
use Rattle.routes.proofs.Sweeping.{Sweeping}
use Rattle.routes.proofs.exchange.turn_all.Given as goal

abbrev pub invariant-loop-x : goal.invariant-loop-x
invariant-loop-x l =
    (length l.e ≡ edges_length) × (length l.heads ≡ length l.initial.heads)
    × Sweeping l.more l.s l.initial.e l.initial.heads l.e l.heads l.n l.x-index
