-- Running sums, written one after the other; those of the rows' lengths are the places where the rows start. Assumes nothing.
use Prim.Native.Nat.{ℕ, suc, ◌+◌, ◌≤◌, ◌<◌}
use mathlib.Core.Path.{◌≡◌, refl, sym, ap, ◌∙◌}
use mathlib.Core.List.{List, [], ◌∷◌, ◌++◌, map, append-nil}
use native.Mathlib.Omega.{arith}
use native.Mathlib.Numerals.{add-one}
use lib.ListN.{length, get_or, set, drop, length-append, length-set, drop_of_length-le}
use lib.Seq.{sets, sets-eq, drop-cons}
use Rattle.edges.specs.Rows.{flat, offs}
use Rattle.edges.specs.Drafting.{running, sum}

-- every word written
pub sets_whole : (a l : List ℕ) → length l ≡ length a → sets a 0 l ≡ l
sets_whole a l q =
    sets-eq l a 0 (omega arith)
    ∙ ap (λ (x : List ℕ). l ++ x) (drop_of_length-le a {i = 0 + length l} (omega arith)) ∙ append-nil l

running_length : (b : ℕ) (d : List ℕ) → length (running b d) ≡ suc (length d)
unfolding running
running_length b [] = refl
running_length b (k ∷ d) = ap suc (running_length (b + k) d)

-- i sums are written over a₀, and s is the next
pub record Summing (a₀ d a : List ℕ) (s i : ℕ) : Type 0 where
  pub passed : i ≤ length d
  pub long : length a ≡ length a₀
  pub fits : s + sum (drop i d) ≤ 65535
  pub left : sets a i (running s (drop i d)) ≡ sets a₀ 0 (running 0 d)

module _ {a₀ d a : List ℕ} {s i : ℕ} (S : Summing a₀ d a s i) where
  pub one_more : i < length d → Summing a₀ d (set a i s) (s + get_or d i 0) (i + 1)
  unfolding running
  one_more h = record {
    passed = omega arith;
    long = length-set a i s ∙ S.long;
    fits = rw add-one (let x = rw (drop-cons d i 0 h) at S.fits in omega arith);
    left = rw add-one (sym (ap (λ (x : List ℕ). sets a i (running s x)) (drop-cons d i 0 h)) ∙ S.left);
  }

  pub summed : length d ≤ i → length a₀ ≡ length d + 1 → set a (length d) s ≡ running 0 d
  unfolding running
  summed h long =
      let at : i ≡ length d = (let z = S.passed in omega arith) in
      let q : length (running 0 d) ≡ length a₀ = running_length 0 d ∙ sym (add-one (length d)) ∙ sym long in
      ap (λ (k : ℕ). set a k s) (sym at)
      ∙ sym (ap (λ (x : List ℕ). sets a i (running s x)) (drop_of_length-le d h)) ∙ S.left ∙ sets_whole a₀ (running 0 d) q

-- of the rows' lengths: where the rows start
module _ {A : Type 0} where
  pub running_offs : (b : ℕ) (r : List (List A)) → running b (map length r) ≡ offs b r
  unfolding running offs
  running_offs b [] = refl
  running_offs b (x ∷ r) = ap {B = List ℕ} (λ y. b ∷ y) (running_offs (b + length x) r)

  pub sum_flat : (r : List (List A)) → sum (map length r) ≡ length (flat r)
  unfolding flat
  sum_flat [] = refl
  sum_flat (x ∷ r) = ap (λ (n : ℕ). length x + n) (sum_flat r) ∙ sym (length-append x (flat r))
