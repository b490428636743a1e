-- A list holds each number below k once: the test with a mark for each number. Assumes nothing.
use Prim.Native.Nat.{ℕ, zero, suc, ◌+◌, ◌≤◌, ◌<◌}
use native.Mathlib.Numerals.{add-one}
use native.Mathlib.Omega.{arith}
use mathlib.Core.Path.{◌≡◌, refl, sym, ap, ◌∙◌}
use mathlib.Core.Bool.{Bool, true, false, not, ◌&&◌, ◌||◌}
use mathlib.Core.List.{List, [], ◌∷◌}
use mathlib.Core.Logic.{◌⊎◌, inl, inr}
use lib.Dec.{eqb, ltb}
use lib.ListN.{length, get_or, set, drop, drop_of_length-le, length-set, replicate, length-replicate}
use lib.Seq.{drop-cons, get_or-set_same, get_or-set_other}
use borrow.Author.Tests.{eq-eqb, ne_eqb, le-ltb, lt-ltb, ltb-true}
use Rattle.rules.specs.Lists.{all_below, distinct, memb}
use Rattle.rules.proofs.Ranges.{Test, fail, pass, same, test}

bare : (m i : ℕ) → get_or {A = Bool} (replicate m false) i false ≡ false
bare zero i = refl
bare (suc m) zero = refl
bare (suc m) (suc i) = bare m i

-- each number of l is below k, has no mark in s, and is marked then
abbrev pub fresh : ℕ → List Bool → List ℕ → Bool
fresh k s [] = true
fresh k s (x ∷ l) = ltb x k && (not (get_or s x false) && fresh k (set s x true) l)

-- no number of l has a mark
abbrev none : List Bool → List ℕ → Bool
none s [] = true
none s (x ∷ l) = not (get_or s x false) && none s l

behind : (z m n : Bool) → z && (m && n) ≡ m && (z && n)
behind true m n = refl
behind false true n = refl
behind false false n = refl

none_set : (s : List Bool) (l : List ℕ) (x : ℕ) → x < length s → none (set s x true) l ≡ not (memb x l) && none s l
none_set s [] x h = refl
none_set s (y ∷ l) x h = look (same x y) (none_set s l x h)
  where
    look : (x ≡ y) ⊎ (x ≡ y → ⊥) → none (set s x true) l ≡ not (memb x l) && none s l
        → not (get_or (set s x true) y false) && none (set s x true) l ≡ not (eqb x y || memb x l) && (not (get_or s y false) && none s l)
    look (inl e) ih = rw (eq-eqb x y e, ← e, get_or-set_same s x true false h)
    look (inr e) ih =
        rw (ne_eqb x y e, get_or-set_other s x y true false (λ q. e (sym q)), ih) (behind (not (get_or s y false)) (not (memb x l)) (none s l))

shuffle : (z a d m n : Bool) → z && (a && (d && (m && n))) ≡ a && ((m && d) && (z && n))
shuffle true true true true n = refl
shuffle true true true false n = refl
shuffle true true false true n = refl
shuffle true true false false n = refl
shuffle true false d m n = refl
shuffle false true true true n = refl
shuffle false true true false n = refl
shuffle false true false true n = refl
shuffle false true false false n = refl
shuffle false false d m n = refl

fresh_is : (k : ℕ) (s : List Bool) (l : List ℕ) → k ≤ length s → fresh k s l ≡ all_below k l && (distinct l && none s l)
fresh_is k s [] h = refl
fresh_is k s (x ∷ l) h = look (test (ltb x k)) (fresh_is k (set s x true) l (rw length-set h))
  where
    look : Test (ltb x k) → fresh k (set s x true) l ≡ all_below k l && (distinct l && none (set s x true) l)
        → ltb x k && (not (get_or s x false) && fresh k (set s x true) l)
        ≡ (ltb x k && all_below k l) && ((not (memb x l) && distinct l) && (not (get_or s x false) && none s l))
    look (fail e) ih = rw e
    look (pass e) ih =
        rw (e, ih, none_set s l x (omega (arith, ltb-true x k e)))
        (shuffle (not (get_or s x false)) (all_below k l) (distinct l) (not (memb x l)) (none s l))

none_bare : (m : ℕ) (l : List ℕ) → none (replicate m false) l ≡ true
none_bare m [] = refl
none_bare m (x ∷ l) = rw (bare m x, none_bare m l)

and_one : (b : Bool) → b && true ≡ b
and_one true = refl
and_one false = refl

-- where no number has a mark yet
pub fresh_start : (m k : ℕ) (l : List ℕ) → k ≤ m → fresh k (replicate m false) l ≡ all_below k l && distinct l
fresh_start m k l h = fresh_is k (replicate m false) l (rw length-replicate h) ∙ rw (none_bare m l, and_one (distinct l))

-- the test has come to place i, with the marks s
pub record Tested (list : List ℕ) (k : ℕ) (s : List Bool) (i : ℕ) : Type 0 where
  pub within : i ≤ k
  pub all : length list ≡ k
  pub room : k ≤ length s
  pub is : fresh k s (drop i list) ≡ all_below k list && distinct list

pub tested_start : {list : List ℕ} {k : ℕ} (m : ℕ) → length list ≡ k → k ≤ m → Tested list k (replicate m false) 0
tested_start {list} {k} m e h = record { within = omega arith; all = e; room = rw length-replicate h; is = fresh_start m k list h }

-- the answer, where the length is right
answer : (n k : ℕ) {r b : Bool} → n ≡ k → r ≡ b → r ≡ eqb n k && b
answer n k e q = rw (eq-eqb n k e) q

module _ {list : List ℕ} {s : List Bool} {k i : ℕ} (t : Tested list k s i) (x : ℕ) (h : i < k) (at : x ≡ get_or list i 0) where
  here : ltb x k && (not (get_or s x false) && fresh k (set s x true) (drop (suc i) list)) ≡ all_below k list && distinct list
  here = rw at (ap (fresh k s) (sym (drop-cons list i 0 (omega (arith, t.all)))) ∙ t.is)

  pub tested_far : k ≤ x → false ≡ eqb (length list) k && (all_below k list && distinct list)
  tested_far l = answer (length list) k t.all (rw (le-ltb x k l) at here)

  pub tested_seen : x < k → get_or s x false ≡ true → false ≡ eqb (length list) k && (all_below k list && distinct list)
  tested_seen l m = answer (length list) k t.all (rw (lt-ltb x k l, m) at here)

  pub tested_next : x < k → get_or s x false ≡ false → Tested list k (set s x true) (i + 1)
  tested_next l m =
      record { within = omega arith; all = t.all; room = rw length-set t.room; is = rw add-one (rw (lt-ltb x k l, m) at here) }

pub tested_end : {list : List ℕ} {s : List Bool} {k i : ℕ} → Tested list k s i → k ≤ i → true ≡ eqb (length list) k && (all_below k list && distinct list)
tested_end {list} {s} {k} {i} t h =
    answer (length list) k t.all (ap (fresh k s) (sym (drop_of_length-le list {i = i} (omega (arith, t.all)))) ∙ t.is)

pub tested_short : (list : List ℕ) (k : ℕ) → (length list ≡ k → ⊥) → false ≡ eqb (length list) k && (all_below k list && distinct list)
tested_short list k h = rw (ne_eqb (length list) k h)
