use Rattle.routes.proofs.Linking.{linking}
use Rattle.routes.proofs.difference.links_of.Goals as goal
use Rattle.routes.proofs.difference.links_of.Goals.{then-w-eq1, else-w-eq1}

pub loop-w-preserved : goal.loop-w-preserved
loop-w-preserved c = elim c.if-w-eq1.branch [
  | then-w-eq1 w ↦ rw (w.out-is, w.n-is, w.last-is) (search linking, search linking, search linking)
  | else-w-eq1 w ↦ rw (w.out-is, w.n-is, w.last-is) (search linking, search linking, search linking)
]

pub returns : goal.returns
returns c = search linking
