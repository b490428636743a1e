use Rattle.moves.proofs.Positions.{one_back, one_on}
use Rattle.moves.proofs.places.place_one.Goals as goal

pub returns-then-s-d : goal.returns-then-s-d
returns-then-s-d c = one_on c.if-old-s.false c.if-old-d.false c.if-s-d.true c.sublist_change.ensures

pub returns : goal.returns
returns c = one_back c.if-old-s.false c.if-old-d.false c.if-s-d.false c.sublist_change-2.ensures
