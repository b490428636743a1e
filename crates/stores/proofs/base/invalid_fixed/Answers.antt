use mathlib.Core.Path.{◌≡◌, sym, ◌∙◌}
use lib.Dec.{leb}
use borrow.Author.Rules.{rules}
use Rattle.std.specs.List.{count_by}
use Rattle.stores.proofs.Laying.{strays_count}
use Rattle.stores.proofs.base.invalid_fixed.Goals as goal

-- `invalid_fixed`: those that a filter lets pass, counted. Assumes nothing.

pub returns : goal.returns
returns c =
    let counted : c.count.result ≡ count_by (leb c.args.n) c.args.to.now = search rules in
    counted ∙ sym (strays_count c.args.n c.args.to.now)
