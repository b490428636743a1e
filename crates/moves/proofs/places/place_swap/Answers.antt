use Rattle.moves.proofs.Positions.{swap_turned}
use Rattle.moves.proofs.places.place_swap.Goals as goal

pub returns : goal.returns
returns c = swap_turned c.if-a-c.false c.place_ranges-2.ensures
