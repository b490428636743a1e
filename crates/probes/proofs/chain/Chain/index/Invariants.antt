use Rattle.probes.specs.Chains.{always}
use Rattle.probes.proofs.Chaining.{Linking}
use Rattle.probes.proofs.chain.Chain.index.Given as goal

abbrev pub invariant-loop-i : goal.invariant-loop-i
invariant-loop-i l = Linking always l.jobs l.initial.self l.i l.self
