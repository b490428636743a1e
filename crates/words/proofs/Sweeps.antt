-- A list rewritten in place: by a copy within it, or by a loop, whose invariant is that what is still to do, done to the list at hand, gives
-- the whole. Assumes nothing.
use Prim.Native.Nat.{ℕ, zero, suc, ◌+◌, ◌-◌, ◌≤◌, ◌<◌}
use native.Mathlib.Nat.{le_of_suc-le-suc, not-suc-le-zero}
use native.Mathlib.Omega.{arith}
use native.Mathlib.Numerals.{add-one}
use mathlib.Core.Path.{◌≡◌, refl, sym, ap, ◌∙◌}
use mathlib.Core.List.{List, [], ◌∷◌, ◌++◌, append-nil}
use lib.ListN.{length, get_or, set, take, drop, length-set, drop_of_length-le}
use Rattle.std.specs.List.{AllZip, copy_within}
use Rattle.std.proofs.lemmas.List.{take_all}
use Rattle.words.specs.Words.{Mapped, insert_at, remove_at, swap_remove, map_from}

-- ── insert_at: a copy within the list, one place up, and x in the place that is left ──

module _ {X : Type 0} where
  pushed : (n : ℕ) (x : X) (l : List X) → n ≡ length l → take n (x ∷ l) ≡ insert_at 0 x l
  unfolding insert_at
  pushed zero x [] e = refl
  pushed (suc n) x [] e = absurd (omega arith)
  pushed zero x (y ∷ l) e = absurd (omega arith)
  pushed (suc n) x (y ∷ l) e = ap (λ (r : List X). x ∷ r) (pushed n y l (omega arith))

  moved_up : (k n : ℕ) (x : X) (a : List X) → k + suc n ≡ length a → set (take (suc k) a ++ take n (drop k a)) k x ≡ insert_at k x a
  unfolding insert_at
  moved_up k n x [] e = absurd (omega arith)
  moved_up zero n x (y ∷ a) e = ap (λ (r : List X). x ∷ r) (pushed n y a (omega arith))
  moved_up (suc k) n x (y ∷ a) e = ap (λ (r : List X). y ∷ r) (moved_up k n x a (omega arith))

  pub inserted : (k : ℕ) (x : X) (a : List X) → k < length a → set (copy_within a k (length a - 1) (k + 1)) k x ≡ insert_at k x a
  inserted k x a h =
      let z : k + 1 + (length a - 1 - k) ≡ length a = omega arith in
      rw (z, drop_of_length-le a {i = length a} (omega arith), append-nil, add-one) (moved_up k (length a - 1 - k) x a (omega arith))

-- ── remove_at: a copy one place down, and 0 at the end ──

zero_last : (y : ℕ) (l : List ℕ) → set (l ++ drop (length l) (y ∷ l)) (length l) 0 ≡ l ++ 0 ∷ []
zero_last y [] = refl
zero_last y (z ∷ l) = ap (λ (r : List ℕ). z ∷ r) (zero_last z l)

moved_down : (k n last : ℕ) (a : List ℕ) → k + n ≡ last → suc last ≡ length a
    → set ((take k a ++ take n (drop (suc k) a)) ++ drop last a) last 0 ≡ remove_at k a
unfolding remove_at
moved_down k n last [] p e = absurd (omega arith)
moved_down zero n last (y ∷ a) p e =
    let i : n ≡ length a = omega arith in
    let j : last ≡ length a = omega arith in
    rw (i, j, take_all (length a) a (omega arith)) (zero_last y a)
moved_down (suc k) n zero (y ∷ a) p e = absurd (omega arith)
moved_down (suc k) n (suc last) (y ∷ a) p e = ap (λ (r : List ℕ). y ∷ r) (moved_down k n last a (omega arith) (omega arith))

pub removed : (k : ℕ) (a : List ℕ) → k < length a
    → set (copy_within a (k + 1) (length a) k) (length a - 1) 0 ≡ remove_at k a
removed k a h =
    let z : k + (length a - (k + 1)) ≡ length a - 1 = omega arith in
    rw (z, add-one) (moved_down k (length a - suc k) (length a - 1) a (omega arith) (omega arith))

pub swap_done : (p t : ℕ) (l : List ℕ) {a : List ℕ} → a ≡ remove_at (t - 1) (set l p (get_or l (t - 1) 0)) → a ≡ swap_remove p t l
unfolding swap_remove
swap_done p t l e = e

-- ── up_from and down_from ──

map_step : (f : ℕ → ℕ) (i : ℕ) (a : List ℕ) → i < length a → map_from f (suc i) (set a i (f (get_or a i 0))) ≡ map_from f i a
unfolding map_from
map_step f i [] h = refl
map_step f zero (y ∷ a) h = refl
map_step f (suc i) (y ∷ a) h = ap (λ (l : List ℕ). y ∷ l) (map_step f i a (le_of_suc-le-suc h))

map_past : (f : ℕ → ℕ) (i : ℕ) (a : List ℕ) → length a ≤ i → map_from f i a ≡ a
unfolding map_from
map_past f i [] h = refl
map_past f zero (y ∷ a) h = absurd (not-suc-le-zero h)
map_past f (suc i) (y ∷ a) h = ap (λ (l : List ℕ). y ∷ l) (map_past f i a (le_of_suc-le-suc h))

pub record Mapping (f : ℕ → ℕ) (k : ℕ) (a₀ a : List ℕ) (i : ℕ) : Type 0 where
  pub long : length a ≡ length a₀
  pub left : map_from f i a ≡ map_from f k a₀

module _ {f : ℕ → ℕ} {k : ℕ} {a₀ a : List ℕ} {i : ℕ} (S : Mapping f k a₀ a i) where
  pub map_next : {v : ℕ} → v ≡ f (get_or a i 0) → i < length a → Mapping f k a₀ (set a i v) (i + 1)
  map_next {v} e h = record { long = length-set a i v ∙ S.long; left = rw (e, add-one i) (map_step f i a h ∙ S.left) }

  -- what is answered for is read at a place j, and that is place i
  pub map_next_at : {j v : ℕ} → v ≡ f (get_or a j 0) → j ≡ i → i < length a → Mapping f k a₀ (set a i v) (i + 1)
  map_next_at e q h = map_next (rw q at e) h

  pub map_done : length a ≤ i → a ≡ map_from f k a₀
  map_done h = sym (map_past f i a h) ∙ S.left

-- ── the same of whatever a call may answer ──

module _ (R : ℕ → ℕ → Type 0) (v : ℕ) where
  answer_stays : (i : ℕ) (a b : List ℕ) → i < length a → take (suc i) b ≡ take (suc i) (set a i v) → take i b ≡ take i a
  answer_stays i [] b h e = absurd (omega arith)
  answer_stays zero (x ∷ a) b h e = refl
  answer_stays (suc i) (x ∷ a) [] h e = absurd (let l = ap length e in omega arith)
  answer_stays (suc i) (x ∷ a) (y ∷ b) h e =
      let p : y ≡ x = ap (λ (l : List ℕ). get_or l 0 0) e in
      rw p (ap (λ (l : List ℕ). x ∷ l) (answer_stays i a b (le_of_suc-le-suc h) (ap (drop 1) e)))

  answer_met : (i : ℕ) (a b : List ℕ) → i < length a → R (get_or a i 0) v → take (suc i) b ≡ take (suc i) (set a i v)
      → AllZip R (drop (suc i) (set a i v)) (drop (suc i) b) → AllZip R (drop i a) (drop i b)
  answer_met i [] b h r e Z = absurd (omega arith)
  answer_met zero (x ∷ a) [] h r e Z = absurd (let l = ap length e in omega arith)
  answer_met zero (x ∷ a) (y ∷ b) h r e Z = (rw (ap (λ (l : List ℕ). get_or l 0 0) e) r, Z)
  answer_met (suc i) (x ∷ a) [] h r e Z = absurd (let l = ap length e in omega arith)
  answer_met (suc i) (x ∷ a) (y ∷ b) h r e Z = answer_met i a b (le_of_suc-le-suc h) r (ap (drop 1) e) Z

-- the calls that are still to come, made on the list at hand, give the whole
pub record Calling (R : ℕ → ℕ → Type 0) (k : ℕ) (a₀ a : List ℕ) (i : ℕ) : Type 0 where
  pub left : (b : List ℕ) → Mapped R i a b → Mapped R k a₀ b

module _ {R : ℕ → ℕ → Type 0} {k : ℕ} {a₀ a : List ℕ} {i : ℕ} (S : Calling R k a₀ a i) where
  pub calling_next : {j v : ℕ} → R (get_or a j 0) v → j ≡ i → i < length a → Calling R k a₀ (set a i v) (i + 1)
  calling_next {v = v} r q h = record {
    left = λ b M.
        let e : take (suc i) b ≡ take (suc i) (set a i v) = rw (← add-one i) M.stays in
        let Z : AllZip R (drop (suc i) (set a i v)) (drop (suc i) b) = rw (← add-one i) M.answers in
        S.left b (record { stays = answer_stays R v i a b h e; answers = answer_met R v i a b h (rw q at r) e Z });
  }

  pub calling_done : length a ≤ i → Mapped R k a₀ a
  calling_done h = S.left a (record { stays = refl; answers = rw (drop_of_length-le a h) tt })
