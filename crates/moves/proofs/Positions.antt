-- Whether a move's positions are good, and the new route where they are. Assumes nothing.
use Prim.Native.Nat.{ℕ, ◌+◌, ◌-◌, ◌≤◌, ◌<◌}
use native.Mathlib.Omega.{arith}
use mathlib.Core.Path.{◌≡◌, refl, sym, ◌∙◌}
use mathlib.Core.Bool.{Bool, true, false, ◌&&◌}
use mathlib.Core.List.{List}
use lib.Dec.{eqb, leb}
use lib.ListN.{length}
use borrow.Author.Tests.{eqb-true, le-leb, le-ltb, lt-leb, lt-ltb}
use Rattle.rules.specs.Lists.{all_below, distinct}
use Rattle.rules.specs.Moves.{Move, good_positions, list_change, moved, permutation, sublist_change, sublist_swap}
use Rattle.rules.proofs.Ranges.{and_true, clash}
use Rattle.moves.specs.Calls.{Places}
use Rattle.moves.proofs.Laid.{change_one_at, swap_other}

module _ {m : Move} {old : List ℕ} where
  places_not : {new : List ℕ} → good_positions (length old) m ≡ false → Places m old false new
  places_not g = record { good = sym g; is = λ q. clash q refl }

  places_made : {new : List ℕ} → good_positions (length old) m ≡ true → new ≡ moved m old → Places m old true new
  places_made g e = record { good = sym g; is = λ q. e }

-- ── a range goes elsewhere ──

module _ {a b d : ℕ} {old new : List ℕ} where
  pub change_order : b < a → Places (sublist_change a b d) old false new
  unfolding good_positions
  change_order h = places_not (rw (lt-leb a b h))

  module _ (o : a ≤ b) where
    pub change_far : length old < b → Places (sublist_change a b d) old false new
    unfolding good_positions
    change_far h = places_not (rw (le-leb a b o, lt-leb b (length old) h))

    module _ (i : b ≤ length old) where
      pub change_dest : length old - (b - a) < d → Places (sublist_change a b d) old false new
      unfolding good_positions
      change_dest h = places_not (rw (le-leb a b o, le-leb b (length old) i, lt-leb d (length old - (b - a)) h))

      pub change_made : d ≤ length old - (b - a) → new ≡ moved (sublist_change a b d) old → Places (sublist_change a b d) old true new
      unfolding good_positions
      change_made h e = places_made (rw (le-leb a b o, le-leb b (length old) i, le-leb d (length old - (b - a)) h)) e

-- ── one job goes elsewhere ──

good_one : (k source dest : ℕ) → source < k → dest ≤ k → good_positions k (list_change source dest) ≡ true
unfolding good_positions
good_one k source dest h i = rw (lt-ltb source k h, le-leb dest k i)

module _ {s d : ℕ} {old new : List ℕ} where
  pub one_far : length old ≤ s → Places (list_change s d) old false new
  unfolding good_positions
  one_far h = places_not (rw (le-ltb s (length old) h))

  module _ (i : s < length old) where
    pub one_dest : length old < d → Places (list_change s d) old false new
    unfolding good_positions
    one_dest h = places_not (rw (lt-ltb s (length old) i, lt-leb d (length old) h))

    module _ (j : d ≤ length old) where
      pub one_on : s < d → new ≡ moved (sublist_change s (s + 1) (d - 1)) old → Places (list_change s d) old true new
      one_on h e = places_made (good_one (length old) s d i j) (rw (change_one_at s d old, lt-ltb s d h) e)

      pub one_back : d ≤ s → new ≡ moved (sublist_change s (s + 1) d) old → Places (list_change s d) old true new
      one_back h e = places_made (good_one (length old) s d i j) (rw (change_one_at s d old, le-ltb s d h) e)

-- ── two ranges change places ──

module _ {a b c d : ℕ} (left : a ≤ c) {old new : List ℕ} where
  pub swap_first : b < a → Places (sublist_swap a b c d) old false new
  unfolding good_positions
  swap_first x = places_not (rw (lt-leb a b x))

  module _ (p : a ≤ b) where
    pub swap_second : d < c → Places (sublist_swap a b c d) old false new
    unfolding good_positions
    swap_second x = places_not (rw (le-leb a b p, lt-leb c d x))

    module _ (q : c ≤ d) where
      pub swap_overlap : c < b → Places (sublist_swap a b c d) old false new
      unfolding good_positions
      swap_overlap x = places_not (rw (le-leb a b p, le-leb c d q, le-leb a c left, lt-leb b c x))

      module _ (r : b ≤ c) where
        pub swap_far : length old < d → Places (sublist_swap a b c d) old false new
        unfolding good_positions
        swap_far x = places_not (rw (le-leb a b p, le-leb c d q, le-leb a c left, le-leb b c r, lt-leb d (length old) x))

        pub swap_made : d ≤ length old → new ≡ moved (sublist_swap a b c d) old → Places (sublist_swap a b c d) old true new
        unfolding good_positions
        swap_made x e = places_made (rw (le-leb a b p, le-leb c d q, le-leb a c left, le-leb b c r, le-leb d (length old) x)) e

-- the first named is the right one
pub swap_turned : {a b c d : ℕ} {old new : List ℕ} {r : Bool} → c < a → Places (sublist_swap c d a b) old r new
    → Places (sublist_swap a b c d) old r new
unfolding good_positions
swap_turned {a} {b} {c} {d} {old} h P = record {
  good = P.good ∙ rw (lt-leb a c h, le-leb c a (omega arith)) (turn (leb c d) (leb a b) (leb d a && leb b (length old)));
  is = λ q. P.is q ∙ sym (swap_other a b c d old h);
}
  where
    turn : (x y z : Bool) → (x && y) && z ≡ (y && x) && z
    turn true true z = refl
    turn true false z = refl
    turn false true z = refl
    turn false false z = refl

-- ── another order ──

pub order_list : (list : List ℕ) (k : ℕ) {r : Bool} → r ≡ (eqb (length list) k && (all_below k list && distinct list)) → r ≡ true
    → (length list ≡ k) × (all_below k list ≡ true)
order_list list k is t =
    let (x, y) = and_true {a = eqb (length list) k} (sym is ∙ t) in
    let (z, w) = and_true {a = all_below k list} y in
    (eqb-true (length list) k x, z)

module _ {a b : ℕ} {list old new : List ℕ} where
  pub order_order : b < a → Places (permutation a b list) old false new
  unfolding good_positions
  order_order h = places_not (rw (lt-leb a b h))

  module _ (o : a ≤ b) where
    pub order_far : length old < b → Places (permutation a b list) old false new
    unfolding good_positions
    order_far h = places_not (rw (le-leb a b o, lt-leb b (length old) h))

    module _ (i : b ≤ length old) {r : Bool} (is : r ≡ (eqb (length list) (b - a) && (all_below (b - a) list && distinct list))) where
      pub order_not : r ≡ false → Places (permutation a b list) old false new
      unfolding good_positions
      order_not f = places_not (rw (le-leb a b o, le-leb b (length old) i) (sym is ∙ f))

      pub order_made : r ≡ true → new ≡ moved (permutation a b list) old → Places (permutation a b list) old true new
      unfolding good_positions
      order_made t e = places_made (rw (le-leb a b o, le-leb b (length old) i) (sym is ∙ t)) e
