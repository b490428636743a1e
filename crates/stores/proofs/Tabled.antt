-- Tables of what a function gives, and sums over them. Assumes nothing.
use Prim.Native.Nat.{ℕ, zero, suc, ◌+◌, ◌≤◌, ◌<◌}
use native.Mathlib.Omega.{arith}
use native.Mathlib.Nat.{not-suc-le-zero, add-zero}
use mathlib.Core.Path.{◌≡◌, refl, ap}
use mathlib.Core.Logic.{◌⊎◌, inl, inr}
use mathlib.Core.List.{List, [], ◌∷◌}
use lib.ListN.{length, get_or, take, drop}
use lib.Seq.{sets, sets-eq, take_at}
use Rattle.stores.specs.Says.{places}
use Rattle.rules.specs.Lists.{table, sum_of, sum_below}
use Rattle.rules.specs.Sizes.{Base}
use Rattle.rules.specs.Routes.{Route, empty_route, violations_of}
use Rattle.rules.specs.Scores.{violations_from}
use Rattle.rules.proofs.Bounds.{sum_front}
use Rattle.rules.proofs.Checks.{sum_same}
use Rattle.rules.proofs.Ranges.{lt_or_le}
use Rattle.rules.proofs.Tabled.{table_length}

module _ {A : Type 0} where
  pub sum_table : (n : ℕ) (f : ℕ → A) (g : A → ℕ) → sum_of g (table n f) ≡ sum_below n (λ v. g (f v))
  sum_table zero f g = refl
  sum_table (suc n) f g =
      let x = sum_table n (λ v. f (suc v)) g in
      let y = sum_front n (λ v. g (f v)) in
      omega arith

-- beyond n there is nothing to sum
pub sum_beyond : (n k : ℕ) (f : ℕ → ℕ) → n ≤ k → ((v : ℕ) → n ≤ v → f v ≡ 0) → sum_below k f ≡ sum_below n f
sum_beyond zero zero f h g = refl
sum_beyond (suc n) zero f h g = absurd (not-suc-le-zero h)
sum_beyond n (suc k) f h g = go (lt_or_le k n) (λ l. sum_beyond n k f l g)
  where
    go : (k < n) ⊎ (n ≤ k) → (n ≤ k → sum_below k f ≡ sum_below n f) → sum_below (suc k) f ≡ sum_below n f
    go (inl l) ih = let q : suc k ≡ n = omega arith in ap (λ (m : ℕ). sum_below m f) q
    go (inr l) ih = let x = ih l in let y = g k l in omega arith

-- violations by places
pub violations_places : (b : Base) (o : ℕ) (l : List Route)
    → violations_from b o l ≡ sum_below (length l) (λ u. violations_of b (o + u) (get_or l u empty_route))
violations_places b o [] = refl
violations_places b o (r ∷ l) =
    let x = violations_places b (suc o) l in
    let y = sum_front (length l) (λ u. violations_of b (o + u) (get_or (r ∷ l) u empty_route)) in
    let z = ap (λ (k : ℕ). violations_of b k r) (add-zero o) in
    let w = sum_same (length l) (λ u. violations_of b (suc o + u) (get_or l u empty_route))
    (λ u. violations_of b (o + suc u) (get_or l u empty_route)) (λ u h. ap (λ (k : ℕ). violations_of b k (get_or l u empty_route)) (shift o u)) in
    omega arith
  where
    shift : (o u : ℕ) → suc o + u ≡ o + suc u
    shift o u = omega arith

module _ {A : Type 0} where
  pub table_take : (n k : ℕ) (f : ℕ → A) → n ≤ k → take n (table k f) ≡ table n f
  table_take zero k f h = refl
  table_take (suc n) zero f h = absurd (not-suc-le-zero h)
  table_take (suc n) (suc k) f h = ap (λ (l : List A). f 0 ∷ l) (table_take n k (λ v. f (suc v)) (omega arith))

-- n places of a buffer that has them
pub places_take : (n : ℕ) (l : List ℕ) → n ≤ length l → places n l ≡ take n l
unfolding places
places_take zero l h = refl
places_take (suc n) [] h = absurd (not-suc-le-zero h)
places_take (suc n) (x ∷ l) h = ap (λ (k : List ℕ). x ∷ k) (places_take n l (omega arith))

pub places_length : (n : ℕ) (l : List ℕ) → length (places n l) ≡ n
unfolding places
places_length n l = table_length n (λ v. get_or l v 0)

-- what was written from the front on stands there
pub taken_sets : (out l : List ℕ) (n : ℕ) → length l ≡ n → n ≤ length out → take n (sets out 0 l) ≡ l
taken_sets out l n q h = rw (sets-eq l out 0 (omega arith)) (take_at l (drop (0 + length l) out) n q)
