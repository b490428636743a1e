-- `judged`. Assumes nothing.
use Rattle.std.proofs.Common.{rules}
use Rattle.refresh.specs.Shows.{says_verdict}
use Rattle.stores.proofs.Tabled.{places_length}
use Rattle.capi.proofs.Answering.{says}
use Rattle.capi.proofs.numbers.judged.Goals as goal

pub returns-in-Err : goal.returns-in-Err
returns-in-Err c = λ out. search (rules, says (says_verdict out))

pub returns-in-Ok-LineUp : goal.returns-in-Ok-LineUp
returns-in-Ok-LineUp c = λ out. search (rules, says (says_verdict out), places_length)

pub returns-in-Ok-Cycle : goal.returns-in-Ok-Cycle
returns-in-Ok-Cycle c = λ out. search (rules, says (says_verdict out), places_length)
