-- What a put is refused for before the routes are looked at: the rules' 5, then their 6. Assumes nothing.
use Rattle.std.proofs.Common.{◌≡◌, ℕ, Bool, true, false, not, ltb, leb, List, [], ◌∷◌, length, sym, ap, ◌∙◌, rules, ltb-false, ltb-true, le-leb, Result, Ok, Err}
use mathlib.Core.Option.{Option, none, some}
use borrow.Author.Tests.{lt-leb}
use Rattle.rules.specs.declared.Refusal.{Refusal}
use Rattle.rules.specs.declared.Refusal.TheVariants.{NoSuchOwner, TooManyEntries}
use Rattle.rules.specs.Sizes.{most_entries}
use Rattle.rules.specs.Routes.{Plan}
use Rattle.rules.specs.Refusals.{first_of, no_owner, too_many}
use Rattle.rules.proofs.Ranges.{pass, fail, test}
use Rattle.routes.specs.Asks.{ask_of}

abbrev pub refusal_of : Result Unit Refusal → Option Refusal
refusal_of (Ok u) = none
refusal_of (Err k) = some k

pub ask_is : (p : Plan) (o : ℕ) (l : List ℕ)
    → refusal_of (ask_of p.base.owners o (length l)) ≡ first_of (no_owner p o ∷ too_many l ∷ [])
ask_is p o l = elim (test (leb p.base.owners o)) [
  | pass z ↦ rw z
  | fail z ↦ rw z (elim (test (ltb most_entries (length l))) [
    | pass y ↦ rw y
    | fail y ↦ rw y
  ])
]

back : (has : Bool) {b : Bool} → not has ≡ b → has ≡ not b
back true q = ap not q
back false q = ap not q

module _ (n o k : ℕ) {has : Bool} (e : has ≡ ltb o n) where
  pub ask_owner : not has ≡ true → Err NoSuchOwner ≡ ask_of n o k
  ask_owner h = rw (le-leb n o (ltb-false o n (sym e ∙ back has h)))

  pub ask_many : not has ≡ false → {many : Bool} → many ≡ ltb most_entries k → many ≡ true → Err TooManyEntries ≡ ask_of n o k
  ask_many h q j = rw (lt-leb n o (ltb-true o n (sym e ∙ back has h)), ← q, j)

  pub ask_fine : not has ≡ false → {many : Bool} → many ≡ ltb most_entries k → many ≡ false → Ok tt ≡ ask_of n o k
  ask_fine h q j = rw (lt-leb n o (ltb-true o n (sym e ∙ back has h)), ← q, j)

pub ruleset asking = (rules, ask_owner, ask_many, ask_fine)
