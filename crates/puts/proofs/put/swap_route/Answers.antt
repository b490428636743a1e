use Rattle.puts.proofs.Swaps.{swapping, swap_bad, swap_done}
use Rattle.puts.proofs.put.swap_route.Goals as goal

pub returns-then-not-fits : goal.returns-then-not-fits
returns-then-not-fits c = search swapping

pub put_route-requires : goal.put_route-requires
put_route-requires c = search swapping

pub returns-in_err-heads : goal.returns-in_err-heads
returns-in_err-heads c = swap_bad c.stops.ensures c.exchange.ensures _ c.in_err-heads.was c.from_residual.ensures.0

pub returns : goal.returns
returns c = swap_done c.stops.ensures c.exchange.ensures c.in_ok-heads.was c.put_route.ensures
