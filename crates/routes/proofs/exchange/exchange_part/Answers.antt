use Rattle.routes.proofs.Swapping.{part_unswept, part_unput, part_done}
use Rattle.routes.proofs.exchange.exchange_part.Goals as goal

pub returns-in_err-h : goal.returns-in_err-h
returns-in_err-h c = part_unswept c.differences-g.ensures c.turn_all.ensures _ c.in_err-h.was c.from_residual.ensures.0

pub returns-in_err-c : goal.returns-in_err-c
returns-in_err-c c =
    part_unput c.differences-g.ensures c.turn_all.ensures c.turn_all-2.ensures _ c.in_err-c.was c.from_residual-in_err-c.ensures.0

pub returns : goal.returns
returns c = part_done c.differences-g.ensures c.turn_all.ensures c.turn_all-2.ensures c.in_ok-h.was c.in_ok-c.was
