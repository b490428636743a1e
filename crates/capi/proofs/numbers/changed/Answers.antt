use borrow.Author.Rules.{rules}
use Rattle.refresh.specs.Changes.{says_changed}
use Rattle.std.proofs.Common.{◌≡◌, ◌∙◌}
use Rattle.rules.specs.Reports.{visits_of}
use Rattle.capi.specs.Numbers.{report_in}
use Rattle.capi.proofs.Answering.{says, kind_is}
use Rattle.capi.proofs.numbers.changed.Goals as goal

-- `changed`. Assumes nothing.

pub returns-in-Ok : goal.returns-in-Ok
returns-in-Ok c =
    let k : c.kind.result ≡ report_in c.in-Ok.change.report = c.kind.ensures ∙ kind_is c.in-Ok.change.report in
    let v : c.from.result ≡ visits_of c.in-Ok.change.report = c.from.ensures ∙ c.visits.ensures in
    says says_changed c.in-Ok.is (record { code = c.tell.ensures.0; score = c.write.ensures.1; told = rw (← k, ← v) c.tell.ensures.1 })

pub returns-in-Err : goal.returns-in-Err
returns-in-Err c = search (rules, says says_changed)
