use borrow.Author.Rules.{rules}
use Rattle.capi.proofs.calls.notekarip_starts.Goals as goal

-- `notekarip_starts`. Assumes nothing.

pub returns : goal.returns
returns c = search (rules, c.listed.ensures.started)
