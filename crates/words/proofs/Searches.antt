-- A search: what `position` finds in a row is what `find_from` finds, counted from the row's place. Assumes nothing.
use Prim.Native.Nat.{ℕ, suc, ◌+◌, ◌-◌, ◌≤◌, ◌<◌}
use native.Mathlib.Nat.{add-zero}
use native.Mathlib.Omega.{arith}
use mathlib.Core.Path.{◌≡◌, refl, sym, ap, ◌∙◌}
use mathlib.Core.Bool.{Bool, true, false, cond}
use mathlib.Core.List.{List, [], ◌∷◌}
use lib.ListN.{length, take, drop}
use lib.Seq.{slice, length-slice}
use lib.Dec.{eqb}
use borrow.Author.Tests.{eq-eqb, eqb-false, eqb-true, ne_eqb}
use Rattle.std.specs.Prelude.{Option, Some, position}
use Rattle.std.specs.List.{position_from}
use Rattle.std.proofs.lemmas.List.{drop-take}
use Rattle.std.specs.Option.{option_map}
use Rattle.std.proofs.lemmas.Iterator.Adapters.{position_from-zero}
use Rattle.words.specs.Words.{find_from}

from_row : (x at i : ℕ) (l : List ℕ) → find_from x (at + i) l ≡ option_map (λ k. at + k) (position_from (λ y. eqb y x) i l)
unfolding find_from
from_row x at i [] = refl
from_row x at i (y ∷ l) = go (eqb y x) refl (from_row x at (i + 1) l)
  where
    go : (b : Bool) → eqb y x ≡ b
        → find_from x (at + (i + 1)) l ≡ option_map (λ k. at + k) (position_from (λ y. eqb y x) (i + 1) l)
        → cond (eqb x y) (Some (at + i)) (find_from x (suc (at + i)) l)
        ≡ option_map (λ k. at + k) (cond b (Some i) (position_from (λ y. eqb y x) (i + 1) l))
    go true e ih = rw (eq-eqb x y (sym (eqb-true y x e)))
    go false e ih =
        let z : suc (at + i) ≡ at + (i + 1) = omega arith in
        rw (ne_eqb x y (λ k. eqb-false y x e (sym k)), z) ih

pub found : (x from to : ℕ) (a : List ℕ) {r : Option ℕ} → from ≤ to → position (λ y. eqb y x) (take (to - from) (drop from a)) ≡ r
    → option_map (λ k. from + k) r ≡ find_from x from (slice from to a)
found x from to a h e =
    let z : from + (to - from) ≡ to = omega arith in
    let row : slice from to a ≡ take (to - from) (drop from a)
    = ap (λ (k : ℕ). drop from (take k a)) (sym z) ∙ drop-take from (to - from) a in
    sym (ap (find_from x from) row
    ∙ ap (λ (k : ℕ). find_from x k (take (to - from) (drop from a))) (sym (add-zero from))
    ∙ from_row x from 0 (take (to - from) (drop from a))
    ∙ ap (option_map (λ k. from + k)) (sym (position_from-zero (λ y. eqb y x) (take (to - from) (drop from a))) ∙ e))

-- what is found lies in the list
find_below : (x at p : ℕ) (l : List ℕ) → find_from x at l ≡ Some p → p < at + length l
unfolding find_from
find_below x at p [] q = let z : ◌≡◌ {A = ℕ} 0 1 = cc in absurd (omega arith)
find_below x at p (y ∷ l) q = go (eqb x y) q (find_below x (suc at) p l)
  where
    go : (b : Bool) → cond b (Some at) (find_from x (suc at) l) ≡ Some p → (find_from x (suc at) l ≡ Some p → p < suc at + length l)
        → p < at + suc (length l)
    go true q ih = let e : at ≡ p = cc in omega arith
    go false q ih = omega (arith, ih q)

pub find_within : (r : Option ℕ) (a : List ℕ) (x from to p : ℕ) → r ≡ find_from x from (slice from to a) → r ≡ Some p → from ≤ to
    → to ≤ length a → p < to
find_within r a x from to p q e h k = omega (arith, find_below x from p (slice from to a) (sym q ∙ e), length-slice from to a k)
