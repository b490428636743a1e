use Rattle.refresh.proofs.Showing
use borrow.Author.Rules.{rules}
use Rattle.refresh.proofs.verdict.closed.Goals as goal

pub returns : goal.returns
returns c =
    let the_cycle = c.cycle-k in
    let the_widen = c.widen in
    Showing.closing_shown the_cycle.ensures _ c.requires.1 c.requires.2 (search rules) the_widen.ensures
