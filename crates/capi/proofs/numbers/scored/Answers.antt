use borrow.Author.Rules.{rules}
use Rattle.stores.specs.Says.{says_scored}
use Rattle.capi.proofs.Answering.{says}
use Rattle.capi.proofs.numbers.scored.Goals as goal

-- `scored`. Assumes nothing.

pub returns-in-Ok : goal.returns-in-Ok
returns-in-Ok c = search (rules, says says_scored)

pub returns-in-Err : goal.returns-in-Err
returns-in-Err c = search (rules, says says_scored)
