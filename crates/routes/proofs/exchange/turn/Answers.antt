use Rattle.std.proofs.Common.{ap}
use Rattle.routes.proofs.Sweeping.{appeared, vanished, not_vanished, turned_far, turned_in, turned_out}
use Rattle.routes.proofs.exchange.turn.Goals as goal

pub returns-then-from-ge-JOBS : goal.returns-then-from-ge-JOBS
returns-then-from-ge-JOBS c = turned_far _ _ _ c.if-from-ge-JOBS.true

pub returns-in-Appeared : goal.returns-in-Appeared
returns-in-Appeared c = turned_in _ c.if-from-ge-JOBS.false c.add.ensures c.if-more.true c.in_ok-add.was (ap appeared c.in-Appeared.is)

pub returns-in_default : goal.returns-in_default
returns-in_default c = turned_in _ c.if-from-ge-JOBS.false c.add.ensures c.if-more.true c.in_ok-add.was (ap appeared c.in_default.is)

pub returns-in-Vanished : goal.returns-in-Vanished
returns-in-Vanished c = turned_out _ c.if-from-ge-JOBS.false c.remove.ensures c.if-more.false c.in_ok-remove.was (ap vanished c.in-Vanished.is)

pub returns-in_default-matches : goal.returns-in_default-matches
returns-in_default-matches c =
    turned_out _ c.if-from-ge-JOBS.false c.remove.ensures c.if-more.false c.in_ok-remove.was (not_vanished _ c.in_default-matches.not-Vanished)
