use mathlib.Core.Path.{sym, ◌∙◌}
use Rattle.refresh.proofs.Checking.{checked_size, checked_long, checked_from, checked_fine}
use Rattle.refresh.proofs.load.check.Goals as goal

-- `check`: test after test, in the order of the refusals. Assumes nothing.

pub returns-then-breaks : goal.returns-then-breaks
returns-then-breaks c =
    let the_if1 = c.if-breaks in
    let the_breaks = c.breaks in
    checked_size _ (sym the_if1.true ∙ the_breaks.ensures)

pub returns-then-has_long : goal.returns-then-has_long
returns-then-has_long c =
    let the_if1 = c.if-breaks in
    let the_breaks = c.breaks in
    let the_if2 = c.if-has_long in
    let the_has_long = c.has_long in
    checked_long _ (sym the_if1.false ∙ the_breaks.ensures) (sym the_if2.true ∙ the_has_long.ensures)

pub returns-then-bad_from : goal.returns-then-bad_from
returns-then-bad_from c =
    let the_if1 = c.if-breaks in
    let the_breaks = c.breaks in
    let the_if2 = c.if-has_long in
    let the_has_long = c.has_long in
    let the_if3 = c.if-bad_from in
    let the_bad_from = c.bad_from in
    checked_from _ (sym the_if1.false ∙ the_breaks.ensures) (sym the_if2.false ∙ the_has_long.ensures)
    (sym the_if3.true ∙ the_bad_from.ensures)

pub returns : goal.returns
returns c =
    let the_if1 = c.if-breaks in
    let the_breaks = c.breaks in
    let the_if2 = c.if-has_long in
    let the_has_long = c.has_long in
    let the_if3 = c.if-bad_from in
    let the_bad_from = c.bad_from in
    checked_fine _ (sym the_if1.false ∙ the_breaks.ensures) (sym the_if2.false ∙ the_has_long.ensures)
    (sym the_if3.false ∙ the_bad_from.ensures)
