use Rattle.refresh.proofs.Showing
use borrow.Author.Rules.{rules}
use Rattle.refresh.proofs.verdict.shown.Goals as goal

pub returns-then-lowest_up : goal.returns-then-lowest_up
returns-then-lowest_up c =
    let the_lowest_up = c.lowest_up in
    let the_if1 = c.if-lowest_up in
    let the_widen = c.widen in
    Showing.shows_lined the_lowest_up.ensures _ the_if1.true c.requires.1 c.requires.2 (search rules) the_widen.ensures

pub returns : goal.returns
returns c =
    let the_lowest_up = c.lowest_up in
    let the_if1 = c.if-lowest_up in
    let the_closed = c.closed in
    Showing.shows_closed the_lowest_up.ensures _ the_if1.false the_closed.ensures
