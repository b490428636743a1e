-- `listed`. Assumes nothing.
use Rattle.std.proofs.Common.{rules}
use Rattle.stores.specs.Says.{says_started}
use Rattle.stores.proofs.Tabled.{places_length}
use Rattle.blocks.specs.Promise.{says_blocked}
use Rattle.blocks.proofs.Unique.{records_length}
use Rattle.capi.proofs.Answering.{says}
use Rattle.capi.proofs.numbers.listed.Goals as goal

pub returns-in-Ok : goal.returns-in-Ok
returns-in-Ok c = record {
  started = λ out. search (rules, says (says_started out), places_length);
  blocked = λ out. search (rules, says (says_blocked out), records_length);
}

pub returns-in-Err : goal.returns-in-Err
returns-in-Err c = record {
  started = λ out. search (rules, says (says_started out));
  blocked = λ out. search (rules, says (says_blocked out));
}
