-- `moved`. Assumes nothing.
use Rattle.std.proofs.Common.{◌≡◌, ◌∙◌, refl, rules}
use Rattle.capi.specs.Numbers.{mark}
use Rattle.moves.specs.Calls.{says_moved}
use Rattle.stores.proofs.Tabled.{places_length}
use Rattle.capi.proofs.Answering.{mark_is, says}
use Rattle.capi.proofs.numbers.moved.Goals as goal

pub returns-in-Ok : goal.returns-in-Ok
returns-in-Ok c = λ out.
    let q : c.from.result ≡ mark c.in-Ok.m.quick = c.from.ensures ∙ mark_is c.in-Ok.m.quick in
    let f : c.from-in-Ok.result ≡ mark c.in-Ok.m.full = c.from-in-Ok.ensures ∙ mark_is c.in-Ok.m.full in
    says (says_moved out) c.in-Ok.is
    (record { code = c.tell.ensures.0; score = refl; told = rw (places_length, ← q, ← f) c.tell.ensures.1 })

pub returns-in-Err : goal.returns-in-Err
returns-in-Err c = λ out. search (rules, says (says_moved out))
