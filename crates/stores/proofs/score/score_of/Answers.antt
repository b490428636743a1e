use mathlib.Core.Bool.{cond}
use mathlib.Core.Path.{◌≡◌, ◌∙◌}
use Rattle.stores.proofs.Scores.{scored_wide, scored_told}
use Rattle.stores.proofs.score.score_of.Goals as goal
use Rattle.stores.proofs.score.score_of.Goals.{then-is_cyclic, else-is_cyclic}

-- `score_of`: by the makespan; the cycle penalty by whether the plan is cyclic. Assumes nothing.

pub returns-then-span-gt-LIMIT : goal.returns-then-span-gt-LIMIT
returns-then-span-gt-LIMIT c = scored_wide c.makespan-span.ensures c.if-span-gt-LIMIT.true

pub returns : goal.returns
returns c =
    let cycle : c.if-is_cyclic.cycle ≡ cond c.is_cyclic.result c.args.plan.jobs 0 = elim c.if-is_cyclic.branch [
      | then-is_cyclic w ↦ rw w.if-is_cyclic.true (w.cycle-is ∙ w.from-cycle.ensures)
      | else-is_cyclic w ↦ rw w.if-is_cyclic.false w.cycle-is
    ] in
    scored_told c.makespan-span.ensures c.static_penalty-penalty.ensures c.requires.3 c.if-span-gt-LIMIT.false c.is_cyclic.ensures
    cycle c.of.ensures
