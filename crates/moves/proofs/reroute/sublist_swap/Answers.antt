use Rattle.moves.proofs.Laid.{swap_laid}
use Rattle.moves.proofs.reroute.sublist_swap.Goals as goal

-- Five pieces, one behind the other. Assumes nothing.

pub returns : goal.returns
returns c =
    swap_laid c.requires c.copy_to.ensures c.copy_to-2.ensures c.copy_to-3.ensures c.copy_to-4.ensures c.copy_to-5.ensures
