use Rattle.moves.proofs.Laid.{permute_laid}
use Rattle.moves.proofs.reroute.permutation.Goals as goal

-- Three pieces, one behind the other. Assumes nothing.

pub returns : goal.returns
returns c =
    permute_laid c.requires.0 c.args.list.now c.requires.1 c.requires.2 c.copy_to.ensures c.permute.ensures c.copy_to-2.ensures
