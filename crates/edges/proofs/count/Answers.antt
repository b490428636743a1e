use mathlib.Core.Path.{ap, ◌∙◌}
use Rattle.std.specs.Prelude.{Ok}
use Rattle.edges.proofs.Seen.{count_bad, count_hit, count_none}
use Rattle.edges.proofs.count.Goals as goal

pub returns-in-Ok-At : goal.returns-in-Ok-At
returns-in-Ok-At c =
    count_hit c.look.ensures c.requires.1 c.requires.2 (c.in-Ok-At.is ∙ ap Ok c.in-Ok-At.field-0-is) c.times.ensures

pub returns-in-Ok-Nowhere : goal.returns-in-Ok-Nowhere
returns-in-Ok-Nowhere c = count_none c.look.ensures c.requires.1 c.requires.2 (c.in-Ok-Nowhere.is ∙ ap Ok c.in-Ok-Nowhere.field-0-is)

pub returns-in-Err : goal.returns-in-Err
returns-in-Err c = count_bad c.look.ensures c.requires.1 c.requires.2 c.in-Err.is
