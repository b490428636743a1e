-- `run`: what `gather` answers, and what goes out of it. Assumes nothing.
use Rattle.notekarip.proofs.Running.{at_ok, run_ends, run_unfit, run_opened}
use Rattle.notekarip.proofs.run.Goals as goal

pub returns-in-Ok-None : goal.returns-in-Ok-None
returns-in-Ok-None g c =
    run_ends _ c.requires (g.W.Write.contents c.args.output.now) (rw c.in-Ok-None.field-0-is at c.in-Ok-None.ensures)

pub returns-in-Err : goal.returns-in-Err
returns-in-Err g c = at_ok c.refuse.result c.refuse.ensures (run_unfit _ c.requires _ _ _ c.in-Err.ensures)

pub returns-in-Ok-Some : goal.returns-in-Ok-Some
returns-in-Ok-Some g c =
    let T = rw c.in-Ok-Some.field-0-is at c.in-Ok-Some.ensures in
    at_ok c.open.result c.open.ensures (run_opened _ c.requires _ _ _ _ _ _ _ _ T.0)
