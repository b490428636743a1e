use Rattle.std.proofs.Common.{arith, length-take, length-drop}
use Rattle.puts.proofs.GivingUp.{emptying_each, rounds_bad, rounds_on}
use Rattle.puts.proofs.put.empty_each.Goals as goal

pub loop-w-init : goal.loop-w-init
loop-w-init c = search emptying_each

pub returns-in_err-h : goal.returns-in_err-h
returns-in_err-h c =
    rounds_bad c.loop-w.invariant.2 c.empty_one.ensures (simp (length-take, length-drop) (omega arith)) c.loop-w-test.true _ c.in_err-h.was
    c.from_residual.ensures.0

pub loop-w-preserved : goal.loop-w-preserved
loop-w-preserved c = (
  search emptying_each,
  search emptying_each,
  rounds_on c.loop-w.invariant.2 c.empty_one.ensures (simp (length-take, length-drop) (omega arith)) c.loop-w-test.true c.in_ok-h.was
      c.empty_one.auto.went,
)

pub returns : goal.returns
returns c = search emptying_each
