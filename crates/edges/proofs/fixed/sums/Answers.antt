use Rattle.edges.proofs.Sums.{one_more, summed}
use Rattle.edges.proofs.fixed.sums.Goals as goal

pub loop-i-preserved : goal.loop-i-preserved
loop-i-preserved c = search one_more

pub returns : goal.returns
returns c = search summed
