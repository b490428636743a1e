use mathlib.Core.Path.{sym, ◌∙◌}
use lib.Seq.{length-take-le}
use Rattle.moves.proofs.Promised.{judge_new, judge_old, judge_shown, parts_even}
use Rattle.moves.proofs.moved.judge.Goals as goal

-- `judge`: both routes are jobs, so the check may be asked; its verdicts are the rules'. Assumes nothing.

pub returns-then-not-are_jobs : goal.returns-then-not-are_jobs
returns-then-not-are_jobs c = judge_old c.are_jobs.ensures c.if-not-are_jobs.true

pub returns-then-not-are_jobs-2 : goal.returns-then-not-are_jobs-2
returns-then-not-are_jobs-2 c = judge_new c.are_jobs-2.ensures c.if-not-are_jobs-2.true

pub check-verdicts-requires : goal.check-verdicts-requires
check-verdicts-requires c =
    let o = c.requires.0 in (
      parts_even _ c.froms.ensures c.tos.ensures o.long.base o.fixed,
      length-take-le 13314 c.args.store.edges.now o.long.edges,
      o.jobs,
      c.requires.1,
      c.requires.2,
      sym c.are_jobs.ensures ∙ c.if-not-are_jobs.false,
      sym c.are_jobs-2.ensures ∙ c.if-not-are_jobs-2.false,
    )

pub returns : goal.returns
returns c = judge_shown c.check-verdicts.ensures c.widen.ensures c.froms.ensures c.tos.ensures c.is_cyclic.ensures c.requires.3
