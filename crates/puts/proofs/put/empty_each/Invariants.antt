use mathlib.Core.Path.{◌≡◌}
use lib.ListN.{length}
use Rattle.rules.specs.Sizes.{edges_length, routes_length}
use Rattle.puts.proofs.GivingUp.{Rounds}
use Rattle.puts.proofs.put.empty_each.Given as goal

abbrev pub invariant-loop-w : goal.invariant-loop-w
invariant-loop-w l =
    (length l.r ≡ routes_length) × (length l.e ≡ edges_length) × Rounds l.initial.r l.initial.e l.row l.owner.0 l.initial.went l.r l.e l.went l.h l.w-index
