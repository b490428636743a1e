use Rattle.blocks.specs.Seen.{seen}
use Rattle.blocks.proofs.Stepping.{Counting}
use Rattle.blocks.proofs.owners.Asked.count.Given as goal

-- k blocks are counted
abbrev pub invariant-loop-k : goal.invariant-loop-k
invariant-loop-k l = Counting l.self.edges.now (seen l.sight) l.self.routes.now l.self.all l.self.owners.now l.at l.k
