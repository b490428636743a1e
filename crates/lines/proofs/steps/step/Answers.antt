use Rattle.lines.proofs.Stepping.{line_by}
use Rattle.lines.proofs.steps.step.Goals as goal

-- `step`: of a line that is a text, its word and numbers decide. Assumes nothing.

pub returns : goal.returns
returns c =
    line_by c.args.stage c.args.plan c.args.durations.now c.args.from.now c.args.to.now c.word_step.result c.word_step.new.durations c.word_step.new.from
    c.word_step.new.to c.word_step.ensures c.in_ok-word.ensures
