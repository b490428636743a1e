use Rattle.stores.specs.Held.{held}
use Rattle.blocks.proofs.Emitting.{Emitting}
use Rattle.blocks.proofs.blocks.blocks.Given as goal

-- i records are written, and the search goes on at the spot
abbrev pub invariant-loop-i : goal.invariant-loop-i
invariant-loop-i l = Emitting l.owners (held l.store) l.found l.initial.out l.i l.at l.out
