use Prim.Native.Nat.{ℕ, zero, suc}
use mathlib.Core.Path.{◌≡◌, refl, sym, ◌∙◌}
use mathlib.Core.Bool.{not}
use native.Mathlib.Omega.{arith}
use lib.IntN.{pos, neg_ℤ, ◌-ℤ◌, neg_ℤ-neg_ℤ}
use lib.Signed.{lt_z}
use mir.Syntax.{w64}
use mir.Val.{to_z, of_z}
use Rattle.rules.specs.declared.Score.{Score}
use Rattle.rules.specs.Lists.{is_zero}
use Rattle.rules.specs.Scores.{Within}
use Rattle.rules.proofs.Ints.{back_is, neg_fits, neg_is}
use Rattle.rules.proofs.Scoring.{mild_hard, mild_soft, matches_within}
use Rattle.rules.proofs.Score.match_count.Goals as goal

-- Zero less the hard part is the penalty, and the soft part is below zero exactly where the makespan is above it. Assumes nothing.

neg_below : (n : ℕ) → lt_z (neg_ℤ (pos n)) (pos 0) ≡ not (is_zero n)
neg_below zero = refl
neg_below (suc n) = refl

module _ {s : Score} (w : Within s) where
  penalty_is : to_z w64 (of_z w64 (pos 0 -ℤ to_z w64 (of_z w64 s.hard))) ≡ pos w.hard
  penalty_is = neg_is (mild_hard w) ∙ rw w.is_hard (neg_ℤ-neg_ℤ (pos w.hard))

  test_is : lt_z (to_z w64 (of_z w64 s.soft)) (pos 0) ≡ not (is_zero w.span)
  test_is = rw (back_is (mild_soft w), w.is_soft) (neg_below w.span)

pub overflow_sub-penalty : goal.overflow_sub-penalty
overflow_sub-penalty c = neg_fits (mild_hard c.requires)

pub overflow_cast-penalty : goal.overflow_cast-penalty
overflow_cast-penalty c = rw (penalty_is c.requires) (tt, record { fits = omega arith })

pub overflow_add-result : goal.overflow_add-result
overflow_add-result c =
    let the_pre = c.requires in
    rw (penalty_is the_pre) (record { fits = omega arith })

pub returns-then-self-lt0 : goal.returns-then-self-lt0
returns-then-self-lt0 c =
    let the_pre = c.requires in
    rw (penalty_is the_pre, matches_within the_pre, sym (test_is the_pre) ∙ c.if-self-lt0.true)

pub returns : goal.returns
returns c =
    let the_pre = c.requires in
    rw (penalty_is the_pre, matches_within the_pre, sym (test_is the_pre) ∙ c.if-self-lt0.false) (omega arith)
