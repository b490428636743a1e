use native.Mathlib.Omega.{arith}
use mathlib.Core.Path.{◌≡◌}
use lib.ListN.{length}
use Rattle.std.proofs.lemmas.Bool.Decides.{nat_tests}
use Rattle.text.proofs.Namings.{name_other, name_end, name_space}
use Rattle.text.proofs.vocabulary.begins.Goals as goal

-- `begins`: what is left behind the name begins with a space, or is nothing. Assumes nothing.

pub returns-in-None : goal.returns-in-None
returns-in-None c = name_other c.in-None.ensures.cases

pub returns-then-is_empty : goal.returns-then-is_empty
returns-then-is_empty c =
    let (e, d, l) = c.in-Some.ensures.cases in
    let k : length c.in-Some.rest.now ≡ 0 = grind (arith, nat_tests, c.if-is_empty.ensures) in
    rw c.if-is_empty.true (name_end c.args.line.now c.args.name.now c.in-Some.rest.now e d k)

pub returns-else-is_empty : goal.returns-else-is_empty
returns-else-is_empty c =
    let (e, d, l) = c.in-Some.ensures.cases in
    name_space c.args.line.now c.args.name.now c.in-Some.rest.now e d (grind (arith, nat_tests, c.if-is_empty.ensures))
