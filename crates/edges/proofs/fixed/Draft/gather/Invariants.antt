use lib.ListN.{length}
use Rattle.edges.proofs.Gathers.{Going}
use Rattle.edges.proofs.fixed.Draft.gather.Given as goal

abbrev pub invariant-loop-u : goal.invariant-loop-u
invariant-loop-u l =
    (goal.iterator-loop-u).can_next l.u-iterator × (goal.iterator-loop-u).is_finite l.u-iterator
    × Going l.from l.to l.n (length l.yielded) l.e l.self
