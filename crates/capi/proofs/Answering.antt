-- How an answer of the layers beneath is told in numbers. Assumes nothing.
use Prim.Native.Nat.{ℕ}
use mathlib.Core.Path.{◌≡◌, sym, subst}
use mathlib.Core.List.{List}
use lib.IntN.{ℤ}
use mir.Val.{bool_byte}
use Rattle.std.specs.Prelude.{Bool, true, false}
use mathlib.Core.Path.{refl}
use Rattle.rules.specs.declared.Report.{Report}
use Rattle.rules.specs.declared.Report.TheVariants.{Skipped, Full, CycleFound, Incremental}
use Rattle.rules.specs.Reports.{kind_of}
use Rattle.rules.specs.Calls.{Reply}
use Rattle.capi.specs.Numbers.{Written, mark, report_in}

-- the answer x is y, and f says what reply an answer means: so it is enough to tell the case y
pub says : {Y : Type 0} (f : Y → Reply) {sc sc' : List ℤ} {td td' : List ℕ} {c : ℕ} {x y : Y} → x ≡ y → Written sc sc' td td' c (f y)
    → Written sc sc' td td' c (f x)
says {Y} f {sc} {sc'} {td} {td'} {c} e W = subst (λ (z : Y). Written sc sc' td td' c (f z)) (sym e) W

-- a report's number is what rules tells it by
pub kind_is : (r : Report) → kind_of r ≡ report_in r
kind_is Skipped = refl
kind_is Full = refl
kind_is CycleFound = refl
kind_is (Incremental v) = refl

-- a truth value's number
pub mark_is : (b : Bool) → bool_byte b ≡ mark b
mark_is true = refl
mark_is false = refl
