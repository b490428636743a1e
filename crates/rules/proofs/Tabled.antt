-- Laws of `table n f`, the list of f 0 to f (n - 1). Assumes nothing.
use Prim.Native.Nat.{ℕ, zero, suc, ◌≤◌, ◌<◌}
use mathlib.Core.Path.{◌≡◌, refl, sym, ap, ◌∙◌}
use mathlib.Core.Bool.{Bool, cond}
use mathlib.Core.Logic.{◌⊎◌, inl, inr}
use mathlib.Core.List.{List, [], ◌∷◌, map}
use native.Mathlib.Omega.{arith}
use native.Mathlib.Nat.{not-suc-le-zero}
use lib.Dec.{eqb}
use lib.ListN.{length, get_or, set}
use borrow.Author.Tests.{eq-eqb, ne_eqb}
use Rattle.rules.specs.Lists.{table}
use Rattle.rules.proofs.Ranges.{same}

module _ {A : Type 0} where
  pub table_length : (n : ℕ) (f : ℕ → A) → length (table n f) ≡ n
  table_length zero f = refl
  table_length (suc n) f = ap suc (table_length n (λ v. f (suc v)))

  pub table_at : (n : ℕ) (f : ℕ → A) (d : A) (v : ℕ) → v < n → get_or (table n f) v d ≡ f v
  table_at zero f d v h = absurd (not-suc-le-zero h)
  table_at (suc n) f d zero h = refl
  table_at (suc n) f d (suc v) h = table_at n (λ v. f (suc v)) d v (omega arith)

  pub table_past : (n : ℕ) (f : ℕ → A) (d : A) (v : ℕ) → n ≤ v → get_or (table n f) v d ≡ d
  table_past zero f d v h = refl
  table_past (suc n) f d zero h = absurd (not-suc-le-zero h)
  table_past (suc n) f d (suc v) h = table_past n (λ v. f (suc v)) d v (omega arith)

  -- tables that agree at each place are one
  pub table_same : (n : ℕ) (f g : ℕ → A) → ((v : ℕ) → v < n → f v ≡ g v) → table n f ≡ table n g
  table_same zero f g h = refl
  table_same (suc n) f g h =
      ap {B = List A} (λ (a : A). a ∷ table n (λ v. f (suc v))) (h 0 (omega arith))
      ∙ ap {B = List A} (λ (l : List A). g 0 ∷ l) (table_same n (λ v. f (suc v)) (λ v. g (suc v)) (λ v k. h (suc v) (omega arith)))

  -- every list is one
  pub list_table : (d : A) (l : List A) → l ≡ table (length l) (λ v. get_or l v d)
  list_table d [] = refl
  list_table d (a ∷ l) = ap {B = List A} (λ (m : List A). a ∷ m) (list_table d l)

  pub table_set : (n : ℕ) (f : ℕ → A) (v : ℕ) (a : A) → v < n → set (table n f) v a ≡ table n (λ w. cond (eqb w v) a (f w))
  table_set zero f v a h = absurd (not-suc-le-zero h)
  table_set (suc n) f zero a h =
      ap {B = List A} (λ (l : List A). a ∷ l) (table_same n (λ w. f (suc w)) (λ w. cond (eqb (suc w) 0) a (f (suc w)))
      (λ w k. sym (ap (λ (b : Bool). cond b a (f (suc w))) (ne_eqb (suc w) 0 (λ q. omega arith)))))
  table_set (suc n) f (suc v) a h =
      let zero_other = ne_eqb 0 (suc v) (λ q. omega arith) in
      ap {B = List A} (λ (l : List A). f 0 ∷ l) (table_set n (λ w. f (suc w)) v a (omega arith)
      ∙ table_same n (λ w. cond (eqb w v) a (f (suc w))) (λ w. cond (eqb (suc w) (suc v)) a (f (suc w))) (λ w k. ap (λ (b : Bool). cond b a (f (suc w))) (shift w)))
      ∙ ap {B = List A} (λ (x : A). x ∷ table n (λ w. cond (eqb (suc w) (suc v)) a (f (suc w)))) (sym (ap (λ (b : Bool). cond b a (f 0)) zero_other))
    where
      shift : (w : ℕ) → eqb w v ≡ eqb (suc w) (suc v)
      shift w = go (same w v)
        where
          go : (w ≡ v) ⊎ (w ≡ v → ⊥) → eqb w v ≡ eqb (suc w) (suc v)
          go (inl q) = eq-eqb w v q ∙ sym (eq-eqb (suc w) (suc v) (ap suc q))
          go (inr q) = ne_eqb w v q ∙ sym (ne_eqb (suc w) (suc v) (λ e. q (omega arith)))

pub map_table : {A B : Type 0} (g : A → B) (n : ℕ) (f : ℕ → A) → map g (table n f) ≡ table n (λ v. g (f v))
map_table g zero f = refl
map_table {A} {B} g (suc n) f = ap {B = List B} (λ (l : List B). g (f 0) ∷ l) (map_table g n (λ v. f (suc v)))
