use Rattle.edges.proofs.Listing.{successors_of}
use Rattle.edges.proofs.lists.successors.Goals as goal

pub returns : goal.returns
returns c = search successors_of
