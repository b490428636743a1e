use mathlib.Core.Path.{refl, ◌∙◌}
use Rattle.stores.proofs.Promises.{exit_err}
use Rattle.refresh.proofs.Putting.{rescore_bad, rescore_lost, rescore_done}
use Rattle.refresh.proofs.put.rescore.Goals as goal

-- `rescore`: by the score before, then by the change, then by the score after. Assumes nothing.

pub returns-in_err-before : goal.returns-in_err-before
returns-in_err-before c = rw (exit_err c.from_residual.ensures.1) (rescore_bad c.requires.sizes c.in_err-before.ensures refl)

pub returns-in_err-after : goal.returns-in_err-after
returns-in_err-after c =
    let cut = c.requires.sizes in
    let k = c.follow.auto in
    rw (exit_err c.from_residual-in_err-after.ensures.1) (rescore_lost cut c.in_ok-before.ensures c.in_ok-report.ensures
    (cut.0, cut.1, k.edges ∙ cut.2, k.routes ∙ cut.3, k.times ∙ cut.4) c.in_err-after.ensures refl refl)

pub returns : goal.returns
returns c =
    let cut = c.requires.sizes in
    let k = c.follow.auto in
    rescore_done cut c.in_ok-before.ensures c.in_ok-report.ensures
    (cut.0, cut.1, k.edges ∙ cut.2, k.routes ∙ cut.3, k.times ∙ cut.4) c.in_ok-after.ensures refl refl refl c.minus.ensures
