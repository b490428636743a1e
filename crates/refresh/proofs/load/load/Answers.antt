use mathlib.Core.Path.{refl}
use Rattle.stores.proofs.Promises.{exit_err}
use Rattle.refresh.proofs.Accepting.{load_short, load_refused, load_done}
use Rattle.refresh.proofs.load.load.Goals as goal

-- `load`: by the lengths, then by the checks, whatever the store holds. Assumes nothing.

pub returns-then-short : goal.returns-then-short
returns-then-short c = load_short _ _ c.short.ensures c.if-short.true

pub returns-in_err-check : goal.returns-in_err-check
returns-in_err-check c = rw (exit_err c.from_residual.ensures.1) (load_refused _ _ c.short.ensures c.if-short.false c.in_err-check.ensures refl)

pub returns : goal.returns
returns c = load_done _ _ c.short.ensures c.if-short.false c.in_ok-check.ensures refl c.fill.ensures
