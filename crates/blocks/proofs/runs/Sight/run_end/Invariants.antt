use Rattle.blocks.specs.Seen.{seen}
use Rattle.blocks.proofs.Running.{Running}
use Rattle.blocks.proofs.runs.Sight.run_end.Given as goal

-- the run has come as far as place `last`
abbrev pub invariant-loop-last : goal.invariant-loop-last
invariant-loop-last l = Running l.e (seen l.self) l.stops l.from l.last
