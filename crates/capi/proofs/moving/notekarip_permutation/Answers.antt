use borrow.Author.Rules.{rules}
use Rattle.capi.proofs.moving.notekarip_permutation.Goals as goal

-- `notekarip_permutation`. Assumes nothing.

pub returns : goal.returns
returns c = search (rules, c.moved.ensures)
