-- `place_of`, `insert_at` and `seat_in`: where a number stands first, and how another one joins it there. Assumes nothing.
use Rattle.std.proofs.Common.{◌≡◌, ℕ, suc, ◌+◌, ◌<◌, ◌≤◌, Bool, true, false, cond, eqb, List, [], ◌∷◌, ◌++◌, length, get_or, take, drop, sym, refl, ap, ◌∙◌, ◌==◌, not, ltb, Option, unwrap_or, position, ltb-false, add-one, arith, length-take-le, take-suc, rules, eq-eqb, ne_eqb}
use Rattle.std.specs.List.{position_or_len}
use Rattle.std.proofs.lemmas.List.Sums.{prefix_len-le-length}
use Rattle.rules.proofs.Ranges.{pass, fail, test}
use Rattle.words.specs.Words.{insert_at}
use Rattle.routes.specs.Differs.{place_of, seat}

-- ── the first place ──

first_is : (x : ℕ) (l : List ℕ) → position_or_len (λ z. z == x) l ≡ place_of x l
unfolding place_of
first_is x [] = refl
first_is x (y ∷ l) = let h = first_is x l in elim (test (eqb y x)) [ pass z ↦ rw z | fail z ↦ rw z (omega arith) ]

-- what a search finds, or the length
place_is : (x k : ℕ) (l : List ℕ) → length l ≡ k → unwrap_or (position (λ z. z == x) l) k ≡ place_of x l
place_is x k l e = rw (sym e) (
    let n : ℕ = position_or_len (λ z. z == x) l in
    let h : n ≤ length l = prefix_len-le-length (λ z. not (z == x)) l in
    elim (test (ltb n (length l))) [
      | pass z ↦ rw z (first_is x l)
      | fail z ↦ let k = ltb-false n (length l) z in rw z (omega (arith, first_is x l))
    ])

place_few : (x : ℕ) (l : List ℕ) → place_of x l ≤ length l
unfolding place_of
place_few x [] = omega arith
place_few x (y ∷ l) = let h = place_few x l in elim (test (eqb y x)) [ pass z ↦ rw z (omega arith) | fail z ↦ rw z (omega arith) ]

-- ── a seat there ──

pub seat_length : (x : ℕ) (l : List ℕ) → length (seat x l) ≡ suc (length l)
unfolding seat
seat_length x [] = refl
seat_length x (y ∷ l) = go (eqb y x) (seat_length x l)
  where
    go : (b : Bool) → length (seat x l) ≡ suc (length l) → length (cond b (x ∷ y ∷ l) (y ∷ seat x l)) ≡ suc (suc (length l))
    go true e = refl
    go false e = ap suc e

-- what stood at the end falls off
insert_seat : (x y : ℕ) (l : List ℕ) → insert_at (place_of x l) x (l ++ y ∷ []) ≡ seat x l
unfolding seat place_of insert_at
insert_seat x y [] = refl
insert_seat x y (z ∷ l) = go (eqb z x) (insert_seat x y l)
  where
    shift : (z : ℕ) (l : List ℕ) → insert_at 0 z (l ++ y ∷ []) ≡ z ∷ l
    shift z [] = refl
    shift z (w ∷ l) = ap (λ (r : List ℕ). z ∷ r) (shift w l)

    go : (b : Bool) → insert_at (place_of x l) x (l ++ y ∷ []) ≡ seat x l
        → insert_at (cond b 0 (suc (place_of x l))) x (z ∷ (l ++ y ∷ [])) ≡ cond b (x ∷ z ∷ l) (z ∷ seat x l)
    go true e = ap (λ (r : List ℕ). x ∷ r) (shift z l)
    go false e = ap (λ (r : List ℕ). z ∷ r) e

-- the place among the first n
module _ (x n : ℕ) (a : List ℕ) (h : n < length a) {p : ℕ} {o : Option ℕ} (e : p ≡ unwrap_or o n)
    (q : o ≡ position (λ z. z == x) (take n a)) where
  placed : p ≡ place_of x (take n a)
  placed =
      e ∙ ap (λ (z : Option ℕ). unwrap_or z n) q ∙ place_is x n (take n a) (length-take-le n a (omega arith))

  pub seat_in_front : p < length (take (n + 1) a)
  seat_in_front =
      let k = place_few x (take n a) in
      let i = placed in
      omega (arith, length-take-le n a (omega arith), length-take-le (n + 1) a (omega arith))

  pub seated : (b : List ℕ) → b ≡ insert_at p x (take (n + 1) a) → b ++ drop (n + 1) a ≡ seat x (take n a) ++ drop (n + 1) a
  seated b i = rw (i, placed, add-one n, take-suc a n 0 h, insert_seat)

pub ruleset seating = (rules, seat_in_front, seated)
