use mathlib.Core.Path.{◌≡◌}
use native.Mathlib.Omega.{arith}
use borrow.Author.Rules.{rules}
use Rattle.std.specs.List.{sum}
use Rattle.stores.proofs.Summing.{summed}
use Rattle.stores.proofs.score.sum_of.Goals as goal

-- `sum_of`: the sum of the words, each below 2^16. Assumes nothing.

pub returns : goal.returns
returns c =
    let summing : c.sum.result ≡ sum c.args.s.now = search rules in
    summed c.args.s.now summing (λ i. omega (arith, c.type_inv.s i))
