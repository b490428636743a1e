-- Sums of words. Assumes nothing.
use Prim.Native.Nat.{ℕ, zero, suc, ◌+◌, ◌-◌, ◌*◌, ◌≤◌, ◌<◌}
use native.Mathlib.Omega.{arith}
use mathlib.Core.Path.{◌≡◌, refl, ap, ◌∙◌}
use mathlib.Core.List.{List, [], ◌∷◌}
use lib.ListN.{length, get_or, take}
use Rattle.std.specs.List.{sum, sum_by}
use Rattle.std.proofs.lemmas.List.Sums.{sum_by-cons, sum_by_more}
use Rattle.rules.specs.Scores.{assignment}
use Rattle.stores.specs.Sums.{total, assignments_in, Summed, Tallied}

-- ── a row ──

sum_total : (l : List ℕ) → sum l ≡ total l
sum_total [] = refl
sum_total (x ∷ l) = sum_by-cons (λ (x : ℕ). x) x l ∙ ap (λ (k : ℕ). x + k) (sum_total l)

total_few : (l : List ℕ) → ((i : ℕ) → get_or l i 0 < 65536) → total l ≤ 65535 * length l
total_few [] h = omega arith
total_few (x ∷ l) h = let a = h 0 in let b = total_few l (λ i. h (suc i)) in omega arith

pub summed : (l : List ℕ) {r : ℕ} → r ≡ sum l → ((i : ℕ) → get_or l i 0 < 65536) → Summed l r
summed l e h = record { is = e ∙ sum_total l; few = let a = total_few l h in omega (arith, e, sum_total l) }

-- ── the first n jobs ──

assignments_sum : (a : List ℕ) (n : ℕ) → n ≤ length a → sum_by assignment (take n a) ≡ assignments_in a n
unfolding assignments_in
assignments_sum a zero h = refl
assignments_sum a (suc n) h =
    let x = sum_by_more assignment a n 0 (omega arith) in
    let y = assignments_sum a n (omega arith) in
    let q : suc n ≡ n + 1 = omega arith in
    rw q (x ∙ ap (λ (k : ℕ). k + assignment (get_or a n 0)) y)

one_few : (c : ℕ) → c < 65536 → assignment c ≤ 65535
one_few zero h = omega arith
one_few (suc c) h = omega arith

pub assignments_few : (a : List ℕ) (n : ℕ) → n ≤ length a → ((i : ℕ) → get_or a i 0 < 65536) → sum_by assignment (take n a) ≤ 65535 * n
assignments_few a zero h w = omega arith
assignments_few a (suc n) h w =
    let x = sum_by_more assignment a n 0 (omega arith) in
    let y = assignments_few a n (omega arith) w in
    let z = one_few (get_or a n 0) (w n) in
    let q : suc n ≡ n + 1 = omega arith in
    rw q (omega arith)

pub tallied : (a : List ℕ) (n : ℕ) {r : ℕ} → n ≤ length a → ((i : ℕ) → get_or a i 0 < 65536) → r ≡ sum_by assignment (take n a) → Tallied a n r
tallied a n h w e = record {
  is = e ∙ assignments_sum a n h;
  few = let x = assignments_few a n h w in omega (arith, e);
}

-- a job in force more than once counts each time but the first
pub assigned_more : (c : ℕ) → (c ≡ 0 → ⊥) → c - 1 ≡ assignment c
assigned_more zero h = absurd (h refl)
assigned_more (suc c) h = omega arith
