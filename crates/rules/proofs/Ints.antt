-- Signed arithmetic at 64 bits: a difference of two numbers that are far from the ends is exact. Assumes nothing.
use Prim.Native.Nat.{ℕ, zero, suc, ◌+◌, ◌-◌, ◌≤◌, ◌<◌, ◌^◌}
use native.Mathlib.Omega.{arith}
use mathlib.Core.Path.{◌≡◌, ◌∙◌}
use mathlib.Core.Bool.{Bool, true, false, cond}
use lib.Dec.{ltb}
use lib.IntN.{ℤ, pos, negsuc, neg_ℤ, sub_ℕ, ◌-ℤ◌, +ℤ_idl}
use lib.Signed.{mag}
use mir.Syntax.{w64}
use mir.Val.{SFits, to_z, of_z}
use mir.Facts.{to_z-of_z}

mag_cond : (t : Bool) (a b n : ℕ) → a ≤ n → b ≤ n → mag (cond t (negsuc a) (pos b)) ≤ n
mag_cond true a b n p q = p
mag_cond false a b n p q = q

mag_sub : (a b n : ℕ) → a ≤ n → b ≤ n → mag (sub_ℕ a b) ≤ n
mag_sub a b n p q = mag_cond (ltb a b) (b - suc a) (a - b) n (omega arith) (omega arith)

mag_minus : (x y : ℤ) → mag (x -ℤ y) ≤ mag x + mag y + 1
mag_minus (pos a) (pos zero) = omega arith
mag_minus (pos a) (pos (suc b)) = mag_sub a (suc b) _ (omega arith) (omega arith)
mag_minus (pos a) (negsuc b) = omega arith
mag_minus (negsuc a) (pos zero) = mag_sub 0 (suc a) _ (omega arith) (omega arith)
mag_minus (negsuc a) (pos (suc b)) = omega arith
mag_minus (negsuc a) (negsuc b) = mag_sub (suc b) (suc a) _ (omega arith) (omega arith)

-- far from the ends: no difference of two such numbers wraps
pub record Mild (z : ℤ) : Type 0 where
  pub far : mag z < 2 ^ 62

pub mild_neg : (n : ℕ) → n < 2 ^ 62 → Mild (neg_ℤ (pos n))
mild_neg zero h = record { far = h }
mild_neg (suc n) h = record { far = omega arith }

minus_fits : {x y : ℤ} → Mild x → Mild y → SFits w64 (x -ℤ y)
minus_fits {x} {y} p q = record { sfits = omega (arith, mag_minus x y) }

-- what the machine reads back from a number's bits
pub back_is : {z : ℤ} → Mild z → to_z w64 (of_z w64 z) ≡ z
back_is p = to_z-of_z {w = w64} (record { sfits = omega arith })

pub sub_fits : {x y : ℤ} → Mild x → Mild y → SFits w64 (to_z w64 (of_z w64 x) -ℤ to_z w64 (of_z w64 y))
sub_fits p q = rw (back_is p, back_is q) (minus_fits p q)

pub sub_is : {x y : ℤ} → Mild x → Mild y → to_z w64 (of_z w64 (to_z w64 (of_z w64 x) -ℤ to_z w64 (of_z w64 y))) ≡ x -ℤ y
sub_is p q = rw (back_is p, back_is q) (to_z-of_z {w = w64} (minus_fits p q))

mild_zero : Mild (pos 0)
mild_zero = record { far = omega arith }

pub neg_fits : {z : ℤ} → Mild z → SFits w64 (pos 0 -ℤ to_z w64 (of_z w64 z))
neg_fits p = sub_fits mild_zero p

pub neg_is : {z : ℤ} → Mild z → to_z w64 (of_z w64 (pos 0 -ℤ to_z w64 (of_z w64 z))) ≡ neg_ℤ z
neg_is {z} p = sub_is mild_zero p ∙ +ℤ_idl (neg_ℤ z)
