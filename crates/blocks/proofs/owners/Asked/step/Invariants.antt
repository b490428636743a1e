use Rattle.blocks.specs.Seen.{seen}
use Rattle.blocks.proofs.Stepping.{Going}
use Rattle.blocks.proofs.owners.Asked.step.Given as goal

-- no block stands before the place of the route of owner i of the list
abbrev pub invariant-loop-i : goal.invariant-loop-i
invariant-loop-i l = Going l.self.edges.now (seen l.sight) l.self.routes.now l.self.all l.self.owners.now l.fn.at.owner l.fn.at.place l.i l.place
