-- A score holds the penalty and the makespan that it is made of. Assumes nothing.
use Prim.Native.Nat.{ℕ, zero, suc, ◌≤◌}
use native.Mathlib.Omega.{arith}
use mathlib.Core.Path.{◌≡◌, refl}
use lib.IntN.{pos, neg_ℤ, +ℤ_invr}
use Rattle.rules.specs.declared.Score.{Score}
use Rattle.rules.specs.Scores.{Within, limit, match_count, matches_of, minus_of, no_change, part_of, score_of}
use Rattle.rules.proofs.Ints.{Mild, mild_neg}

pub within_score : (hard span : ℕ) → hard ≤ limit → span ≤ limit → Within (score_of hard span)
within_score hard span h k = record { hard = hard; span = span; is_hard = refl; is_soft = refl; hard_fits = h; span_fits = k }

part_neg : (n : ℕ) → part_of (neg_ℤ (pos n)) ≡ n
part_neg zero = refl
part_neg (suc n) = refl

pub matches_score : (hard span : ℕ) → matches_of (score_of hard span) ≡ match_count hard span
matches_score hard span = rw (part_neg hard, part_neg span)

-- "the score change is zero" where a call is refused
pub minus_self : (s : Score) → minus_of s s ≡ no_change
minus_self s = simp +ℤ_invr

module _ {s : Score} (w : Within s) where
  pub mild_hard : Mild s.hard
  mild_hard = rw w.is_hard (mild_neg w.hard (omega arith))

  pub mild_soft : Mild s.soft
  mild_soft = rw w.is_soft (mild_neg w.span (omega arith))

  pub matches_within : matches_of s ≡ match_count w.hard w.span
  matches_within = rw (w.is_hard, w.is_soft) (matches_score w.hard w.span)
