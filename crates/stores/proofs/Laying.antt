-- Lists laid one behind the other into a slice: what a load writes, and that these are a plan's words. Assumes nothing.
use Prim.Native.Nat.{ℕ, zero, suc, ◌+◌, ◌-◌, ◌≤◌}
use native.Mathlib.Omega.{arith}
use native.Mathlib.Nat.{add-zero, not-suc-le-zero}
use mathlib.Core.Path.{◌≡◌, refl, sym, ap, ◌∙◌}
use mathlib.Core.List.{List, [], ◌∷◌, ◌++◌, map, append_assoc}
use mathlib.Core.Logic.{inl, inr}
use lib.Dec.{leb}
use lib.ListN.{length, get_or, set, take, drop, replicate, length-append, length-replicate}
use lib.Seq.{sets, sets-eq}
use borrow.Author.Tests.{lt-ltb, le-ltb, lt-leb, le-leb}
use Rattle.std.specs.List.{count_by}
use Rattle.std.proofs.lemmas.List.Recursion.{is_count_by}
use Rattle.rules.proofs.Ranges.{lt_or_le}
use Rattle.rules.specs.Lists.{Pair, table, sum_of}
use Rattle.rules.specs.Sizes.{Loading, base_of, pair_up, nobodys, most_jobs, base_length, most_fixed, spans_length}
use Rattle.rules.specs.Scores.{invalid_fixed}
use Rattle.times.specs.Words.{span_words}
use Rattle.stores.specs.Words.{padded, base_words, from_at, to_at, expected_at, stray_of, strays, base_laid}

-- ── one list behind the other ──

pub sets_append : {A : Type 0} (a x y : List A) (i : ℕ) → sets (sets a i x) (i + length x) y ≡ sets a i (x ++ y)
sets_append a [] y i = rw add-zero
sets_append a (v ∷ x) y i =
    let q : i + suc (length x) ≡ suc i + length x = omega arith in
    rw q (sets_append (set a i v) x y (suc i))

-- a second list, written where the first ends
pub behind : {A : Type 0} (a x y : List A) (i j : ℕ) {b c : List A} → b ≡ sets a i x → c ≡ sets b j y → j ≡ i + length x → c ≡ sets a i (x ++ y)
behind a x y i j p q r = q ∙ rw (p, r) (sets_append a x y i)

-- all from the front on
pub in_front : (a x : List ℕ) (k : ℕ) {b : List ℕ} → b ≡ sets a 0 x → length x ≡ k → k ≤ length a → b ≡ x ++ drop k a
in_front a x k p q h = p ∙ sets-eq x a 0 (omega arith) ∙ ap (λ (n : ℕ). x ++ drop n a) (let z : 0 + length x ≡ k = omega arith in z)

-- ── a list, and one number up to a place ──

pub padded_length : (n : ℕ) (l : List ℕ) (x : ℕ) → length l ≤ n → length (l ++ replicate (n - length l) x) ≡ n
padded_length n l x h = rw (length-append, length-replicate) (omega arith)

pub spans_laid : (a s : List ℕ) {b : List ℕ} → b ≡ sets a 0 (s ++ replicate (spans_length - (0 + length s)) 0)
    → length s ≤ spans_length → spans_length ≤ length a → b ≡ padded spans_length s ++ drop spans_length a
spans_laid a s p h k =
    let e : spans_length - (0 + length s) ≡ spans_length - length s = omega arith in
    in_front a (padded spans_length s) spans_length (rw e at p) (padded_length spans_length s 0 h) k

-- ── the base ──

abbrev heading : ℕ → ℕ → ℕ → ℕ → List ℕ
heading jobs owners fixed invalid = 1 ∷ jobs ∷ owners ∷ fixed ∷ invalid ∷ []

module _ (jobs owners : ℕ) (expected from to b₀ : List ℕ) where
  pub base_written : {b₁ b₂ b₃ b₄ : List ℕ} {k : ℕ} → k ≡ strays jobs to
      → b₁ ≡ sets b₀ 0 (heading jobs owners (length from) k)
      → b₂ ≡ sets b₁ from_at (from ++ replicate (to_at - (from_at + length from)) 0)
      → b₃ ≡ sets b₂ to_at (to ++ replicate (expected_at - (to_at + length to)) 0)
      → b₄ ≡ sets b₃ expected_at (expected ++ replicate (base_length - (expected_at + length expected)) nobodys)
      → length from ≤ most_fixed → length to ≡ length from → length expected ≤ most_jobs → base_length ≤ length b₀
      → b₄ ≡ base_laid jobs owners expected from to ++ drop base_length b₀
  unfolding base_laid
  base_written {b₁} {b₂} {b₃} {b₄} e h f t x l m n w =
      let f' : to_at - (from_at + length from) ≡ most_fixed - length from = omega arith in
      let t' : expected_at - (to_at + length to) ≡ most_fixed - length to = omega arith in
      let x' : base_length - (expected_at + length expected) ≡ most_jobs - length expected = omega arith in
      let lf = padded_length most_fixed from 0 l in
      let lt = padded_length most_fixed to 0 (omega arith) in
      let lx = padded_length most_jobs expected nobodys n in
      let hd = heading jobs owners (length from) (strays jobs to) in
      let F = padded most_fixed from in
      let T = padded most_fixed to in
      let X = expected ++ replicate (most_jobs - length expected) nobodys in
      let s₁ : b₁ ≡ sets b₀ 0 hd = h ∙ rw e in
      let s₂ : b₂ ≡ sets b₀ 0 (hd ++ F) = behind b₀ hd F 0 from_at s₁ (f ∙ rw f') refl in
      let l₂ : length (hd ++ F) ≡ to_at = (let z = length-append hd F in omega arith) in
      let s₃ : b₃ ≡ sets b₀ 0 ((hd ++ F) ++ T) = behind b₀ (hd ++ F) T 0 to_at s₂ (t ∙ rw t') (omega arith) in
      let l₃ : length ((hd ++ F) ++ T) ≡ expected_at = (let z = length-append (hd ++ F) T in omega arith) in
      let s₄ : b₄ ≡ sets b₀ 0 (((hd ++ F) ++ T) ++ X) = behind b₀ ((hd ++ F) ++ T) X 0 expected_at s₃ (x ∙ rw x') (omega arith) in
      let l₄ : length (((hd ++ F) ++ T) ++ X) ≡ base_length = (let z = length-append ((hd ++ F) ++ T) X in omega arith) in
      in_front b₀ (((hd ++ F) ++ T) ++ X) base_length s₄ l₄ w
      ∙ ap (λ (y : List ℕ). y ++ drop base_length b₀) (append_assoc (hd ++ F) T X ∙ append_assoc hd F (T ++ X))

-- ── how many fixed pairs lead nowhere ──

pub strays_count : (n : ℕ) (l : List ℕ) → strays n l ≡ count_by (leb n) l
unfolding strays
strays_count n = is_count_by (strays n) (leb n) refl (λ v l. elim (lt_or_le v n) [
  | inl h ↦ rw (lt-ltb v n h, lt-leb n v h) (omega arith)
  | inr h ↦ rw (le-ltb v n h, le-leb n v h) (omega arith)
])

-- ── what is laid are the words of the base that is loaded ──

pairs_from : (f t : List ℕ) → length f ≡ length t → map (λ (e : Pair). e.0) (pair_up f t) ≡ f
pairs_from [] t q = refl
pairs_from (a ∷ f) [] q = absurd (not-suc-le-zero (let z : suc (length f) ≤ 0 = omega arith in z))
pairs_from (a ∷ f) (b ∷ t) q = ap (λ (l : List ℕ). a ∷ l) (pairs_from f t (omega arith))

pairs_to : (f t : List ℕ) → length f ≡ length t → map (λ (e : Pair). e.1) (pair_up f t) ≡ t
pairs_to [] [] q = refl
pairs_to [] (b ∷ t) q = absurd (not-suc-le-zero (let z : suc (length t) ≤ 0 = omega arith in z))
pairs_to (a ∷ f) [] q = absurd (not-suc-le-zero (let z : suc (length f) ≤ 0 = omega arith in z))
pairs_to (a ∷ f) (b ∷ t) q = ap (λ (l : List ℕ). b ∷ l) (pairs_to f t (omega arith))

pairs_length : (f t : List ℕ) → length f ≡ length t → length (pair_up f t) ≡ length f
pairs_length [] t q = refl
pairs_length (a ∷ f) [] q = absurd (not-suc-le-zero (let z : suc (length f) ≤ 0 = omega arith in z))
pairs_length (a ∷ f) (b ∷ t) q = ap suc (pairs_length f t (omega arith))

pairs_stray : (n : ℕ) (f t : List ℕ) → length f ≡ length t → sum_of (λ (e : Pair). stray_of n e.1) (pair_up f t) ≡ sum_of (stray_of n) t
pairs_stray n [] [] q = refl
pairs_stray n [] (b ∷ t) q = absurd (not-suc-le-zero (let z : suc (length t) ≤ 0 = omega arith in z))
pairs_stray n (a ∷ f) [] q = absurd (not-suc-le-zero (let z : suc (length f) ≤ 0 = omega arith in z))
pairs_stray n (a ∷ f) (b ∷ t) q = ap (λ (k : ℕ). stray_of n b + k) (pairs_stray n f t (omega arith))

-- a table of a list's numbers, d beyond it
table_padded : (n : ℕ) (l : List ℕ) (d : ℕ) → length l ≤ n → table n (λ v. get_or l v d) ≡ l ++ replicate (n - length l) d
table_padded zero [] d h = refl
table_padded zero (x ∷ l) d h = absurd (not-suc-le-zero h)
table_padded (suc n) [] d h =
    ap (λ (l : List ℕ). d ∷ l) (table_padded n [] d (omega arith) ∙ ap (λ (k : ℕ). replicate k d) (let z : n - 0 ≡ n = omega arith in z))
    ∙ ap (λ (k : ℕ). replicate k d) (let z : suc n ≡ suc n - 0 = omega arith in z)
table_padded (suc n) (x ∷ l) d h =
    let q : suc n - suc (length l) ≡ n - length l = omega arith in
    ap (λ (m : List ℕ). x ∷ m) (table_padded n l d (omega arith) ∙ ap (λ (k : ℕ). l ++ replicate k d) (sym q))

pub base_laid_lem : (l : Loading) → length l.from ≡ length l.to → length l.expected ≤ most_jobs
    → base_laid l.jobs l.owners l.expected l.from l.to ≡ base_words (base_of l)
unfolding base_laid base_words base_of invalid_fixed strays
base_laid_lem l q h = sym (rw (
  pairs_length l.from l.to q,
  pairs_stray l.jobs l.from l.to q,
  pairs_from l.from l.to q,
  pairs_to l.from l.to q,
  table_padded most_jobs l.expected nobodys h,
))

pub spans_words : (l : Loading) → length l.durations ≤ most_jobs → padded most_jobs l.durations ≡ span_words (base_of l)
unfolding span_words base_of
spans_words l h = sym (table_padded most_jobs l.durations 0 h)

-- ── a part of the base, handed out ──

pub part_front : (f k : ℕ) (l : List ℕ) → take (f + k - f) (drop f l) ≡ take k (drop f l)
part_front f k l = let e : f + k - f ≡ k = omega arith in rw e
