use native.Mathlib.Omega.{arith}
use mathlib.Core.Path.{sym, ◌∙◌}
use Rattle.stores.specs.Promise.{slices, lent_of}
use Rattle.stores.proofs.Openings.{long}
use Rattle.stores.proofs.Resets.{reset_short, reset_done}
use Rattle.stores.proofs.reset.reset.Goals as goal

-- `reset`: by the lengths, whatever the store holds. Assumes nothing.

pub returns-then-short : goal.returns-then-short
returns-then-short c = reset_short _ (sym c.short.ensures ∙ c.if-short.true)

pub bounds-base-0 : goal.bounds-base-0
bounds-base-0 c =
    let x = c.args in
    let s = slices x.base.now x.spans.now x.edges.now x.routes.now x.times.now in
    let l = long (lent_of s) (sym c.short.ensures ∙ c.if-short.false) in
    omega arith

pub returns : goal.returns
returns c = reset_done _ (sym c.short.ensures ∙ c.if-short.false)
