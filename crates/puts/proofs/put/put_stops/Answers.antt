use Rattle.puts.proofs.Putting.{stops_never, stops_bad, stops_done}
use Rattle.puts.proofs.put.put_stops.Goals as goal

pub returns-in_err-g : goal.returns-in_err-g
returns-in_err-g c = stops_never c.empty_all.ensures _ c.in_err-g.was c.from_residual.ensures.0

pub returns-in_err-h : goal.returns-in_err-h
returns-in_err-h c =
    stops_bad c.empty_all.ensures c.swap_route.ensures c.requires.room.1 _ c.in_err-h.was c.from_residual-in_err-h.ensures.0

pub returns : goal.returns
returns c =
    stops_done c.empty_all.ensures c.swap_route.ensures c.requires.room.1 c.in_ok-g.was c.in_ok-h.was c.requires.sizes.2 c.requires.room.0
