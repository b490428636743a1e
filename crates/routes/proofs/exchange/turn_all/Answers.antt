use Rattle.std.proofs.Common.{Ok, ap, ◌∙◌, arith}
use Rattle.routes.proofs.Sweeping.{sweeping, sweep_same, sweep_turned, sweep_bad}
use Rattle.routes.proofs.exchange.turn_all.Goals as goal
use Rattle.routes.proofs.exchange.turn_all.Goals.{then-branch, else-branch}

pub loop-x-init : goal.loop-x-init
loop-x-init c = search sweeping

pub returns-in_err-turn : goal.returns-in_err-turn
returns-in_err-turn c = sweep_bad c.loop-x.invariant.2 c.turn.ensures c.loop-x-test.true _ c.in_err-turn.was c.from_residual.ensures.0

pub loop-x-preserved : goal.loop-x-preserved
loop-x-preserved c =
    let (_, _, k) = c.loop-x.invariant in (
      search sweeping,
      search sweeping,
      elim c.if-branch.branch [
        | then-branch w ↦ rw (w.heads-is, w.n-is)
            (sweep_turned k c.turn.ensures c.loop-x-test.true (c.in_ok-turn.was ∙ ap Ok w.if-branch.true) (let f = k.few in omega arith))
        | else-branch w ↦ rw (w.heads-is, w.n-is) (sweep_same k c.turn.ensures c.loop-x-test.true (c.in_ok-turn.was ∙ ap Ok w.if-branch.false))
      ],
    )

pub returns : goal.returns
returns c = search sweeping
