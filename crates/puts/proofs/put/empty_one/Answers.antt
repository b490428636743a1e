use Rattle.puts.proofs.GivingUp.{emptying_one, one_bad, one_done}
use Rattle.puts.proofs.put.empty_one.Goals as goal

pub returns-then-waiter-owner : goal.returns-then-waiter-owner
returns-then-waiter-owner c = search emptying_one

pub returns-in_err-h : goal.returns-in_err-h
returns-in_err-h c = rw (← c.from-waiter.ensures) (one_bad c.swap_route.ensures c.if-waiter-owner.false _ c.in_err-h.was c.from_residual.ensures.0)

pub returns : goal.returns
returns c = rw (← c.from-waiter.ensures) (one_done c.swap_route.ensures c.if-waiter-owner.false c.in_ok-h.was)
