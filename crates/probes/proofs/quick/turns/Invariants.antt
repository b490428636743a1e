use Rattle.probes.proofs.Backways.{Trying}
use Rattle.probes.proofs.quick.turns.Given as goal

abbrev pub invariant-loop-i : goal.invariant-loop-i
invariant-loop-i l = Trying l.on.live.now l.on.off.now l.on.plus.now l.jobs l.n l.i
