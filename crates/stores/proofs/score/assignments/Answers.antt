use Prim.Native.Nat.{◌<◌, ◌^◌}
use native.Mathlib.Omega.{arith}
use mathlib.Core.Path.{◌≡◌}
use lib.ListN.{take}
use borrow.Author.Rules.{rules}
use Rattle.std.specs.List.{sum_by}
use Rattle.rules.specs.Scores.{assignment}
use Rattle.stores.proofs.Summing.{assignments_few, tallied}
use Rattle.stores.proofs.score.assignments.Goals as goal

-- `assignments`: the sum of the first n jobs' penalties, each below 2^16. Assumes nothing.

pub sum-requires-clause-fits : goal.sum-requires-clause-fits
sum-requires-clause-fits c =
    let x = assignments_few c.args.a.now c.args.n c.requires.0 (λ i. omega (arith, c.type_inv.a i)) in
    let few : sum_by assignment (take c.args.n c.args.a.now) < 2 ^ 64 = omega arith in
    search rules

pub returns : goal.returns
returns c =
    let summing : c.sum.result ≡ sum_by assignment (take c.args.n c.args.a.now) = search rules in
    tallied c.args.a.now c.args.n c.requires.0 (λ i. omega (arith, c.type_inv.a i)) summing
