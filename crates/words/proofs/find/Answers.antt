use Rattle.std.proofs.Common.{rules, sym, ◌∙◌, ◌-◌, ◌≡◌, ◌==◌, drop, position, take}
use Rattle.std.proofs.lemmas.Iterator.{YieldsList-from_slice}
use Rattle.std.proofs.lemmas.Iterator.Search.{position_from_yields_List}
use borrow.Author.Tests.{tests}
use Rattle.words.proofs.Searches.{found}
use Rattle.words.proofs.find.Goals as goal

pub returns-in_err-k : goal.returns-in_err-k
returns-in_err-k c =
    let row = take (c.args.to - c.args.from) (drop c.args.from c.args.a.now) in
    let e : c.position.result ≡ position (λ y. y == c.args.x) row =
    position_from_yields_List (λ y. y == c.args.x) _ _ c.position.result c.position.ensures.ran
    (YieldsList-from_slice row c.iter.ensures.rest) (λ x b q k. search (rules, tests)) in
    c.from_residual.ensures ∙ found _ _ _ _ c.requires.0 (sym e ∙ c.in_err-k.was)

pub returns : goal.returns
returns c =
    let row = take (c.args.to - c.args.from) (drop c.args.from c.args.a.now) in
    let e : c.position.result ≡ position (λ y. y == c.args.x) row =
    position_from_yields_List (λ y. y == c.args.x) _ _ c.position.result c.position.ensures.ran
    (YieldsList-from_slice row c.iter.ensures.rest) (λ x b q k. search (rules, tests)) in
    found _ _ _ _ c.requires.0 (sym e ∙ c.in_ok-k.was)
