use Rattle.probes.proofs.Nexts.{Looking}
use Rattle.probes.proofs.heads.HeadsIterator.next.Given as goal

abbrev pub invariant-loop-place : goal.invariant-loop-place
invariant-loop-place l = Looking l.initial.self l.self l.place
