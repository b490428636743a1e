use borrow.Author.Rules.{rules}
use Rattle.capi.proofs.calls.notekarip_verdict.Goals as goal

-- `notekarip_verdict`. Assumes nothing.

pub returns : goal.returns
returns c = search (rules, c.judged.ensures)
