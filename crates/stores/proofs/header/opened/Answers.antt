use Rattle.stores.specs.Headers.{lens}
use mathlib.Core.Path.{sym, ◌∙◌}
use Rattle.stores.proofs.Openings.{open_long, open_short, long, opens}
use Rattle.stores.proofs.header.opened.Goals as goal

-- `opened`: by the lengths, then what the base tells. Assumes nothing.

pub returns-then-short : goal.returns-then-short
returns-then-short c = record { says = sym (open_short _ _ (sym c.short.ensures ∙ c.if-short.true)); opens = tt }

pub told-requires : goal.told-requires
told-requires c =
    let x = c.args in
    (long (lens _ x.spans x.edges x.routes x.times) (sym c.short.ensures ∙ c.if-short.false)).base

pub returns : goal.returns
returns c =
    let e = c.told.ensures ∙ sym (open_long _ _ (sym c.short.ensures ∙ c.if-short.false)) in
    record { says = e; opens = opens _ _ _ e }
