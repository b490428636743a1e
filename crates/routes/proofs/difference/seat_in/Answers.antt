use Rattle.routes.proofs.Seating.{seat_in_front, seated}
use Rattle.routes.proofs.difference.seat_in.Goals as goal

pub insert_at-requires : goal.insert_at-requires
insert_at-requires c = seat_in_front _ _ _ c.requires c.unwrap_or-p.ensures c.place_of.ensures

pub returns : goal.returns
returns c = seated _ _ _ c.requires c.unwrap_or-p.ensures c.place_of.ensures _ c.insert_at.ensures
