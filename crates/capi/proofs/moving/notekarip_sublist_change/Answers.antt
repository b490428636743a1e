use borrow.Author.Rules.{rules}
use Rattle.capi.proofs.moving.notekarip_sublist_change.Goals as goal

-- `notekarip_sublist_change`. Assumes nothing.

pub returns : goal.returns
returns c = search (rules, c.moved.ensures)
