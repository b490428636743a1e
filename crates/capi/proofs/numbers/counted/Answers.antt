use borrow.Author.Rules.{rules}
use Rattle.stores.specs.Says.{says_counted}
use Rattle.capi.proofs.Answering.{says}
use Rattle.capi.proofs.numbers.counted.Goals as goal

-- `counted`. Assumes nothing.

pub returns-in-Ok : goal.returns-in-Ok
returns-in-Ok c = search (rules, says says_counted)

pub returns-in-Err : goal.returns-in-Err
returns-in-Err c = search (rules, says says_counted)
