use Rattle.stores.specs.Held.{held}
use Rattle.lines.proofs.Blocking.{Listing}
use Rattle.lines.proofs.critical.block_lines.Given as goal

abbrev pub invariant-loop : goal.invariant-loop
invariant-loop l = Listing l.owners (held l.store) l.found l.initial.out l.at l.out l.spot l.p l.counter
