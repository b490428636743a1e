-- The pieces of a route, written one behind the other: what each move puts together. Assumes nothing.
use Prim.Native.Nat.{ℕ, zero, suc, ◌+◌, ◌-◌, ◌≤◌, ◌<◌}
use native.Mathlib.Nat.{add-zero}
use native.Mathlib.Omega.{arith}
use mathlib.Core.Path.{◌≡◌, refl, sym, ap, ◌∙◌}
use mathlib.Core.Bool.{true, cond}
use mathlib.Core.List.{List, [], ◌∷◌, ◌++◌, map, append_assoc}
use Rattle.std.proofs.Common.{append-nil}
use lib.Dec.{ltb}
use lib.ListN.{length, get_or, set, take, drop, drop_of_length-le, length-append, length-take, length-drop, length-map, length-set}
use lib.Seq.{sets, sets-eq, take_at, drop-drop, take-take, take_all, take-append-le, drop-append-le, take-append-add, drop-append-add, slice as between, get_or-take, get_or-drop, take-nil, drop-cons}
use native.Mathlib.Numerals.{add-one}
use borrow.Author.Tests.{le-leb, lt-leb, ltb-true}
use Rattle.rules.specs.Lists.{all_below}
use Rattle.rules.specs.Moves.{list_change, moved, permutation, slice, sublist_change, sublist_swap}
use Rattle.rules.proofs.Ranges.{and_true}
use Rattle.probes.proofs.Chaining.{below_at}
use Rattle.moves.specs.Pieces.{Order, Piece, Ranges}

-- the first words of a list are p, and behind them it is as `new` is
pub record Laid (p : List ℕ) (at : ℕ) (new l : List ℕ) : Type 0 where
  pub is : l ≡ p ++ drop at new
  pub size : length p ≡ at

-- one piece more
pub lay : {p new l : List ℕ} {at : ℕ} (x : List ℕ) (to : ℕ) → Laid p at new l → to ≡ at + length x → to ≤ length new
    → Laid (p ++ x) to new (sets l at x)
lay {p} {new} {l} {at} x to h e k =
    let m : at + length x ≤ length (p ++ drop at new) = simp (length-append, length-drop) (omega (arith, h.size)) in
    let d : drop (at + length x) (p ++ drop at new) ≡ drop (at + length x) new =
    ap (λ (n : ℕ). drop (n + length x) (p ++ drop at new)) (sym h.size)
    ∙ drop-append-add p (drop at new) (length x)
    ∙ drop-drop (length x) at new in
    record {
      is =
          ap (λ (y : List ℕ). sets y at x) h.is
          ∙ sets-eq x (p ++ drop at new) at m
          ∙ ap (λ (y : List ℕ). (y ++ x) ++ drop (at + length x) (p ++ drop at new)) (take_at p (drop at new) at h.size)
          ∙ ap (λ (y : List ℕ). (p ++ x) ++ y) (d ∙ ap (λ (n : ℕ). drop n new) (sym e));
      size = simp length-append (omega (arith, h.size));
    }

-- places f up to t, cut from the back first or from the front first
pub cut : (f t : ℕ) (l : List ℕ) → between f t l ≡ slice f t l
cut zero t l = ap (λ (k : ℕ). take k l) (let e : t ≡ t - 0 = omega arith in e)
cut (suc f) zero l = ap (λ (k : ℕ). take k (drop (suc f) l)) (let e : 0 ≡ 0 - suc f = omega arith in e)
cut (suc f) (suc t) [] = sym (take-nil (suc t - suc f))
cut (suc f) (suc t) (x ∷ l) = cut f t l ∙ ap (λ (k : ℕ). take k (drop f l)) (let e : t - f ≡ suc t - suc f = omega arith in e)

-- the places of a piece of old come next
lay_piece : {p new l m : List ℕ} {at : ℕ} (old : List ℕ) (f t to : ℕ) → Laid p at new l → m ≡ sets l at (slice f t old) → t ≤ length old
    → to ≡ at + (t - f) → to ≤ length new → Laid (p ++ slice f t old) to new m
lay_piece old f t to h is within e room =
    let s : length (slice f t old) ≡ t - f = simp (length-take, length-drop) (omega arith) in
    rw is (lay (slice f t old) to h (omega arith) room)

-- the last piece fills what is left
lay_rest : {p new l m : List ℕ} {at : ℕ} (old : List ℕ) → Laid p at new l → m ≡ sets l at (slice at (length old) old) → at ≤ length old
    → length new ≡ length old → m ≡ p ++ drop at old
lay_rest {p} {new} {at = at} old h is within e =
    let s : length (drop at old) ≡ length old - at = simp length-drop in
    let L = lay (drop at old) (length old) h (omega arith) (omega arith) in
    is ∙ ap (sets _ at) (take_all (length old - at) (drop at old) (omega arith)) ∙ L.is
    ∙ ap (λ (y : List ℕ). (p ++ drop at old) ++ y) (drop_of_length-le new {i = length old} (omega arith))
    ∙ append-nil (p ++ drop at old)

start : (new : List ℕ) → Laid [] 0 new new
start new = record { is = refl; size = refl }

whole : (a : ℕ) (l : List ℕ) → slice 0 a l ≡ take a l
whole a l = ap (λ (k : ℕ). take k l) (let e : a - 0 ≡ a = omega arith in e)

module _ {a b c d : ℕ} {old new : List ℕ} (h : Ranges a b c d old new) where
  -- the five pieces of a swap
  swap_pieces :
      (((slice 0 a old ++ slice c d old) ++ slice b c old) ++ slice a b old) ++ drop d old ≡ moved (sublist_swap a b c d) old
  unfolding moved
  swap_pieces =
      rw (whole a old, le-leb a c (omega (arith, h.left, h.apart))) (simp append_assoc)

  -- the five copies of a swap
  pub swap_laid : {x1 x2 x3 x4 x5 : List ℕ}
      → x1 ≡ sets new 0 (take a old)
      → x2 ≡ sets x1 a (slice c d old)
      → x3 ≡ sets x2 (a + (d - c)) (slice b c old)
      → x4 ≡ sets x3 (a + (d - b)) (slice a b old)
      → x5 ≡ sets x4 d (slice d (length old) old)
      → x5 ≡ moved (sublist_swap a b c d) old
  swap_laid e1 e2 e3 e4 e5 =
      let l = h.left in let m = h.apart in let r = h.right in let w = h.within in let q = h.room in
      let l1 = lay_piece old 0 a a (start new) (e1 ∙ ap (sets new 0) (sym (whole a old))) (omega arith) (omega arith) (omega arith) in
      let l2 = lay_piece old c d (a + (d - c)) l1 e2 (omega arith) (omega arith) (omega arith) in
      let l3 = lay_piece old b c (a + (d - b)) l2 e3 (omega arith) (omega arith) (omega arith) in
      let l4 = lay_piece old a b d l3 e4 (omega arith) (omega arith) (omega arith) in
      lay_rest old l4 e5 w q ∙ swap_pieces

-- ── a permutation ──

-- the places of a list are filled up to place i; new₀ are the words before
pub record Filling (old : List ℕ) (a : ℕ) (list new₀ new : List ℕ) (i : ℕ) : Type 0 where
  pub within : i ≤ length list
  pub long : length new ≡ length new₀
  pub is : sets new (a + i) (map (λ j. get_or old (a + j) 0) (drop i list)) ≡ sets new₀ a (map (λ j. get_or old (a + j) 0) list)

pub fill_start : {old list new₀ : List ℕ} {a : ℕ} → Filling old a list new₀ new₀ 0
fill_start = record { within = omega arith; long = refl; is = simp add-zero }

module _ {old list new₀ new : List ℕ} {a i : ℕ} (f : Filling old a list new₀ new i) where
  -- one word
  pub fill_next : {x : ℕ} → i < length list → x ≡ get_or list i 0 → Filling old a list new₀ (set new (a + i) (get_or old (a + x) 0)) (i + 1)
  fill_next {x} h q =
      let p : a + (i + 1) ≡ suc (a + i) = omega arith in
      record {
        within = omega arith;
        long = simp length-set f.long;
        is =
            rw (p, add-one, q)
            (ap (λ (y : List ℕ). sets new (a + i) (map (λ j. get_or old (a + j) 0) y)) (sym (drop-cons list i 0 h)) ∙ f.is);
      }

  pub fill_end : length list ≤ i → new ≡ sets new₀ a (map (λ j. get_or old (a + j) 0) list)
  fill_end h =
      ap (λ (y : List ℕ). sets new (a + i) (map (λ j. get_or old (a + j) 0) y)) (sym (drop_of_length-le list {i = i} h)) ∙ f.is

-- a place of the list lies in the old words
pub place_at : {a : ℕ} {list old new : List ℕ} → Order a list old new → (i : ℕ) {x : ℕ} → i < length list
    → x ≡ get_or list i 0 → a + x < length old
place_at {a} {list} o i h q = omega (arith, below_at (length list) list i o.low h, o.old_room)

map_same : (f g : ℕ → ℕ) (k : ℕ) (l : List ℕ) → all_below k l ≡ true → ((i : ℕ) → i < k → f i ≡ g i) → map f l ≡ map g l
map_same f g k [] e h = refl
map_same f g k (x ∷ l) e h = let (p, q) = and_true {a = ltb x k} e in rw (h x (ltb-true x k p), map_same f g k l q h)

module _ {a b : ℕ} {old new : List ℕ} (h : Piece a b old new) (list : List ℕ) (all : length list ≡ b - a)
    (low : all_below (b - a) list ≡ true) where
  picked : map (λ i. get_or old (a + i) 0) list ≡ map (λ i. get_or (slice a b old) i 0) list
  picked = map_same (λ i. get_or old (a + i) 0) (λ i. get_or (slice a b old) i 0) (b - a) list low
      (λ i k. sym (get_or-take (b - a) (drop a old) i 0 k ∙ get_or-drop a old i 0))

  pub permute_laid : {x1 x2 x3 : List ℕ}
      → x1 ≡ sets new 0 (take a old)
      → x2 ≡ sets x1 a (map (λ i. get_or old (a + i) 0) list)
      → x3 ≡ sets x2 b (slice b (length old) old)
      → x3 ≡ moved (permutation a b list) old
  unfolding moved
  permute_laid {x1} {x2} e1 e2 e3 =
      let o = h.order in let w = h.within in let q = h.room in
      let l1 = lay_piece old 0 a a (start new) (e1 ∙ ap (sets new 0) (sym (whole a old))) (omega arith) (omega arith) (omega arith) in
      let g : List ℕ = map (λ i. get_or (slice a b old) i 0) list in
      let l2 : Laid (slice 0 a old ++ g) b new x2 = rw (e2, picked) (lay g b l1 (simp length-map (omega arith)) (omega arith)) in
      lay_rest old l2 e3 w q ∙ append_assoc (slice 0 a old) g (drop b old) ∙ ap (λ (y : List ℕ). y ++ (g ++ drop b old)) (whole a old)

-- ── the same list ──

-- left and right in the other order
pub swap_other : (a b c d : ℕ) (l : List ℕ) → c < a → moved (sublist_swap a b c d) l ≡ moved (sublist_swap c d a b) l
unfolding moved
swap_other a b c d l h = rw (lt-leb a c h, le-leb c a (omega arith))

-- "Remove, then insert at dest - 1 if dest > source, else at dest."
pub change_one : (s d : ℕ) (l : List ℕ) → moved (list_change s d) l ≡ moved (sublist_change s (suc s) (cond (ltb s d) (d - 1) d)) l
unfolding moved
change_one s d l = refl

-- the same in the words of the code
pub change_one_at : (s d : ℕ) (l : List ℕ) → moved (list_change s d) l ≡ moved (sublist_change s (s + 1) (cond (ltb s d) (d - 1) d)) l
change_one_at s d l = rw add-one (change_one s d l)

none : (a : ℕ) (l : List ℕ) → slice a a l ≡ []
none a l = ap (λ (k : ℕ). take k (drop a l)) (let e : a - a ≡ 0 = omega arith in e)

-- to bring a range forward is to swap it with what it passes
pub change_back : (a b dest : ℕ) (l : List ℕ) → dest ≤ a → a ≤ b → b ≤ length l
    → moved (sublist_change a b dest) l ≡ moved (sublist_swap dest a a b) l
unfolding moved
change_back a b dest l h k m =
    let s : dest ≤ length (take a l) = simp length-take (omega arith) in
    rw (le-leb dest a h, none a l, take-append-le dest (take a l) (drop b l) s, drop-append-le dest (take a l) (drop b l) s)
    (rw (take-take dest a l h, ← cut dest a l))

pub change_on : (a b dest : ℕ) (l : List ℕ) → a < dest → a ≤ b → b ≤ length l
    → moved (sublist_change a b dest) l ≡ moved (sublist_swap a b b (b + (dest - a))) l
unfolding moved
change_on a b dest l h k m =
    let s : dest ≡ length (take a l) + (dest - a) = simp length-take (omega arith) in
    let t : take dest (take a l ++ drop b l) ≡ take a l ++ take (dest - a) (drop b l) =
    ap (λ (j : ℕ). take j (take a l ++ drop b l)) s ∙ take-append-add (take a l) (drop b l) (dest - a) in
    let u : drop dest (take a l ++ drop b l) ≡ drop (b + (dest - a)) l =
    ap (λ (j : ℕ). drop j (take a l ++ drop b l)) s ∙ drop-append-add (take a l) (drop b l) (dest - a) ∙ drop-drop (dest - a) b l in
    let e : b + (dest - a) - b ≡ dest - a = omega arith in
    rw (le-leb a b k, none b l, t, u, e) (simp append_assoc)

-- what a change leaves: the swap's words
module _ {a b : ℕ} {old new x : List ℕ} (h : Piece a b old new) (dest : ℕ) where
  pub back_laid : dest ≤ a → x ≡ moved (sublist_swap dest a a b) old → x ≡ moved (sublist_change a b dest) old
  back_laid k e = e ∙ sym (change_back a b dest old k h.order h.within)

  pub on_laid : a < dest → x ≡ moved (sublist_swap a b b (b + (dest - a))) old → x ≡ moved (sublist_change a b dest) old
  on_laid k e = e ∙ sym (change_on a b dest old k h.order h.within)
