use Rattle.blocks.proofs.Running.{Seeking}
use Rattle.blocks.proofs.runs.Sight.first_critical.Given as goal

-- no block begins before place i
abbrev pub invariant-loop-i : goal.invariant-loop-i
invariant-loop-i l = Seeking l.self.crit.now l.self.n l.stops l.from l.i
