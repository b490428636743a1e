use Rattle.probes.specs.Aheads.{links_left}
use Rattle.probes.specs.Chains.{tables}
use Rattle.probes.proofs.Chaining.{Seeking}
use Rattle.probes.proofs.chain.holds_in.Given as goal

abbrev pub invariant-loop-w : goal.invariant-loop-w
invariant-loop-w l =
    (goal.iterator-loop-w).can_next l.w-iterator × (goal.iterator-loop-w).is_finite l.w-iterator
    × Seeking (tables l.first l.next l.head) l.u l.v (links_left l.w-iterator)
