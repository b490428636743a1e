use Rattle.edges.proofs.Listing.{predecessors_of}
use Rattle.edges.proofs.lists.predecessors.Goals as goal

pub returns : goal.returns
returns c = search predecessors_of
