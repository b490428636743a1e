-- Loops that fill a list from its front. Assumes nothing.
use Prim.Native.Nat.{ℕ, zero, suc, ◌+◌, ◌-◌, ◌≤◌, ◌<◌, min}
use native.Mathlib.Omega.{arith}
use native.Mathlib.Numerals.{add-one}
use mathlib.Core.Path.{◌≡◌, refl, sym, ap, ◌∙◌}
use mathlib.Core.List.{List, [], ◌∷◌, ◌++◌, map}
use borrow.Author.Rules.{rules}
use lib.ListN.{length, get_or, set, drop, take, length-set, drop_of_length-le, length-drop, length-map}
use lib.Seq.{sets, drop-cons, take-suc-set, take_all, take_at, sets-eq, length-sets}
use Rattle.rules.specs.Lists.{table}
use Rattle.rules.specs.Sizes.{most_owners}
use Rattle.lines.specs.Answers.{up_to}

-- g of one more number
map_turn : (g : ℕ → ℕ) (s a z : List ℕ) (i y : ℕ) → sets a i (map g (drop i s)) ≡ z → i < length s → y ≡ g (get_or s i 0)
    → sets (set a i y) (i + 1) (map g (drop (i + 1) s)) ≡ z
map_turn g s a z i y e h q = rw (add-one, q) (sym (ap (λ (l : List ℕ). sets a i (map g l)) (drop-cons s i 0 h)) ∙ e)

map_done : (g : ℕ → ℕ) (s a z : List ℕ) (i : ℕ) → sets a i (map g (drop i s)) ≡ z → length s ≤ i → a ≡ z
map_done g s a z i e h = sym (ap (λ (l : List ℕ). sets a i (map g l)) (drop_of_length-le s h)) ∙ e

-- the front of a list that was filled by g of all numbers but the first
pub map_front : (g : ℕ → ℕ) (s a l : List ℕ) → a ≡ sets l 0 (map g (take (length s - 1) (drop 1 s))) → length s ≤ length a
    → take (length s - 1) a ≡ map g (drop 1 s)
map_front g s a l e h =
    let n : length (drop 1 s) ≡ length s - 1 = length-drop 1 s in
    let whole : take (length s - 1) (drop 1 s) ≡ drop 1 s = take_all (length s - 1) (drop 1 s) (omega arith) in
    let vs = map g (drop 1 s) in
    let f : a ≡ sets l 0 vs = rw whole at e in
    let long = length-map (drop 1 s) g in
    let room = ap length f ∙ length-sets l 0 vs in
    ap (take (length s - 1)) (f ∙ sets-eq vs l 0 (omega arith)) ∙ take_at vs _ (length s - 1) (omega arith)

-- g of the first i numbers of s stands in front
pub record Mapping (g : ℕ → ℕ) (s a₀ a : List ℕ) (i : ℕ) : Type 0 where
  pub to : i ≤ length s
  pub long : length a ≡ length a₀
  pub left : sets a i (map g (drop i s)) ≡ sets a₀ 0 (map g s)

pub mapping_start : (g : ℕ → ℕ) (s a : List ℕ) → Mapping g s a a 0
mapping_start g s a = record { to = omega arith; long = refl; left = refl }

module _ {g : ℕ → ℕ} {s a₀ a : List ℕ} {i : ℕ} (M : Mapping g s a₀ a i) where
  pub mapping_turn : {y : ℕ} → y ≡ g (get_or s i 0) → i < length s → Mapping g s a₀ (set a i y) (i + 1)
  mapping_turn {y} q h =
      record { to = omega arith; long = length-set a i y ∙ M.long; left = map_turn g s a (sets a₀ 0 (map g s)) i y M.left h q }

  pub mapping_done : length s ≤ i → a ≡ sets a₀ 0 (map g s)
  mapping_done h = map_done g s a (sets a₀ 0 (map g s)) i M.left h

-- a table's last
table_last : {A : Type 0} (n : ℕ) (f : ℕ → A) → table (suc n) f ≡ table n f ++ (f n ∷ [])
table_last zero f = refl
table_last {A} (suc n) f = ap {B = List A} (λ (l : List A). f 0 ∷ l) (table_last n (λ v. f (suc v)))

-- of so many owners the first i stand in front
pub record Rising (all : ℕ) (a : List ℕ) (i : ℕ) : Type 0 where
  pub to : i ≤ all
  pub few : all ≤ most_owners
  pub long : length a ≡ most_owners
  pub front : take i a ≡ up_to i

pub rise_start : (all n : ℕ) (a : List ℕ) → all ≡ min n most_owners → length a ≡ most_owners → Rising all a 0
rise_start all n a e h = record { to = omega arith; few = omega arith; long = h; front = refl }

module _ {all : ℕ} {a : List ℕ} {i : ℕ} (R : Rising all a i) where
  pub rise_turn : i < all → Rising all (set a i i) (i + 1)
  rise_turn h =
      let f = R.few in
      let l = R.long in
      let k : i < length a = omega arith in
      record {
        to = omega arith;
        few = f;
        long = length-set a i i ∙ l;
        front = rw add-one (take-suc-set a i i k ∙ ap (λ (l : List ℕ). l ++ (i ∷ [])) R.front ∙ sym (table_last i (λ v. v)));
      }

  pub rise_done : all ≤ i → take all a ≡ up_to all
  rise_done h = let t = R.to in let e : i ≡ all = omega arith in rw e at R.front

pub ruleset filling = (rules, mapping_start, mapping_turn, mapping_done, rise_start, rise_turn, rise_done)
