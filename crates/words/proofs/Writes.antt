-- Elements written one after the other: what is still to write, behind what is written, gives the whole. Assumes nothing.
use Prim.Native.Nat.{ℕ, suc, ◌+◌, ◌-◌, ◌≤◌, ◌<◌}
use native.Mathlib.Numerals.{add-one}
use native.Mathlib.Omega.{arith}
use mathlib.Core.Path.{◌≡◌, refl, sym, ap, ◌∙◌}
use mathlib.Core.List.{List, ◌++◌, append-nil}
use lib.ListN.{length, set, take, drop, replicate, length-replicate, length-set, length-drop, drop_of_length-le}
use borrow.Rule.Slice.PartMut.{put_mid}
use Rattle.std.proofs.lemmas.List.{take_all}
use Rattle.std.proofs.lemmas.Slice.{put_mid-paste}
use lib.Seq.{sets, sets-eq, length-take-le}

-- ── the words of l from place `at` on: i of them are there ──

pub record Copying {X : Type 0} (a₀ : List X) (at : ℕ) (l a : List X) (i : ℕ) : Type 0 where
  pub long : length a ≡ length a₀
  pub left : sets a (at + i) (drop i l) ≡ sets a₀ at l

-- ── all of s from place `at` on, written at once ──

pub written : {X : Type 0} (at k : ℕ) (a s ys : List X) → ys ≡ s → k ≡ length s → at + length s ≤ length a
    → put_mid at k a ys ≡ sets a at s
written at k a s ys e n h =
    put_mid-paste at k a ys s (length s) e (sym n) refl
    ∙ ap (λ l. (take at a ++ l) ++ drop (at + length s) a) (take_all (length s) s (omega arith)) ∙ sym (sets-eq s a at h)

-- ── x at each place: it is there up to i ──

pub record Filling {X : Type 0} (a₀ : List X) (x : X) (a : List X) (i : ℕ) : Type 0 where
  pub long : length a ≡ length a₀
  pub left : sets a i (replicate (length a₀ - i) x) ≡ sets a₀ 0 (replicate (length a₀ - 0) x)

module _ {X : Type 0} {a₀ : List X} {x : X} {a : List X} {i : ℕ} (S : Filling a₀ x a i) where
  pub fill_next : i < length a₀ → Filling a₀ x (set a i x) (i + 1)
  fill_next h =
      let p : length a₀ - i ≡ suc (length a₀ - (i + 1)) = omega arith in
      record {
        long = length-set a i x ∙ S.long;
        left = rw add-one
            (sym (ap (λ (k : ℕ). sets a i (replicate k x)) (p ∙ ap (λ (k : ℕ). suc (length a₀ - k)) (add-one i))) ∙ S.left);
      }

  pub all_filled : length a₀ ≤ i → a ≡ replicate (length a₀) x
  all_filled h =
      let n : length (replicate (length a₀) x) ≡ length a₀ = length-replicate (length a₀) x in
      let p : length a₀ - i ≡ 0 = omega arith in
      let q : length a₀ - 0 ≡ length a₀ = omega arith in
      sym (ap (λ (j : ℕ). sets a i (replicate j x)) p) ∙ S.left ∙ ap (λ (j : ℕ). sets a₀ 0 (replicate j x)) q
      ∙ sets-eq (replicate (length a₀) x) a₀ 0 (omega arith)
      ∙ ap (λ (l : List X). replicate (length a₀) x ++ l) (drop_of_length-le a₀ {i = 0 + length (replicate (length a₀) x)} (omega arith))
      ∙ append-nil (replicate (length a₀) x)

-- what stands from `from` up to `to` in b, every element x
pub filled : {X : Type 0} {x : X} {a : List X} {i : ℕ} (from to : ℕ) (b : List X) → from ≤ to → to ≤ length b
    → Filling (take (to - from) (drop from b)) x a i → length (take (to - from) (drop from b)) ≤ i
    → put_mid from (to - from) b a ≡ sets b from (replicate (to - from) x)
filled {X} {x} {a} from to b h k S all =
    let n : length (take (to - from) (drop from b)) ≡ to - from = length-take-le (to - from) (drop from b) (rw length-drop (omega arith)) in
    let r : length (replicate (to - from) x) ≡ to - from = length-replicate (to - from) x in
    written from (to - from) b (replicate (to - from) x) a (all_filled S all ∙ ap (λ (j : ℕ). replicate j x) n) (sym r) (omega arith)
