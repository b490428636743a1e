-- One piece of bytes behind the other, each where the one before it ends, and how far they go; pieces in turn. Assumes nothing.
use Prim.Native.Nat.{ℕ, suc, ◌+◌, ◌-◌, ◌*◌, ◌^◌, ◌≤◌, ◌<◌}
use native.Mathlib.Nat.{add-zero, mul-suc, mul-zero}
use native.Mathlib.Omega.{arith}
use native.Mathlib.Numerals.{add-one}
use mathlib.Core.Path.{◌≡◌, refl, sym, ap, subst, ◌∙◌}
use mathlib.Core.List.{List, [], ◌∷◌, ◌++◌, map-id}
use borrow.Author.Rules.{rules}
use lib.IntN.{ℤ, pos, negsuc}
use lib.ListN.{length, set, length-append, get_or, take, drop, drop_of_length-le}
use borrow.Rule.Slice.PartMut.{put_mid}
use Rattle.std.proofs.lemmas.List.{take_all}
use Rattle.std.proofs.lemmas.Slice.{put_mid-paste}
use lib.Seq.{take-suc, sets, sets-eq, length-sets, drop-cons}
use lib.Signed.{mag}
use mir.Syntax.{w64}
use mir.Val.{SFits, to_z, of_z}
use mir.Facts.{to_z-of_z}
use Rattle.rules.specs.declared.Refusal.{Refusal}
use Rattle.rules.specs.declared.Score.{Score}
use Rattle.rules.specs.Refusals.{number_of}
use Rattle.text.specs.Grammar.{digits_of, fields_of}
use Rattle.text.specs.Writes.{Wrote, Fills, signed_of, most_field, most_signed}
use Rattle.std.specs.List.{AllZip}
use Rattle.std.proofs.lemmas.Slice.Zip.{AllZip-map}
use Rattle.text.specs.Answers.{Told, no_word, no_line, line_of, line_length, score_line, score_length}
use Rattle.text.proofs.Decimals.{digits_twenty}
use Rattle.text.proofs.Gathers.{fields_snoc}

sets_append : (out a b : List ℕ) (at : ℕ) → sets (sets out at a) (at + length a) b ≡ sets out at (a ++ b)
sets_append out [] b at = rw add-zero
sets_append out (x ∷ a) b at =
    let q : at + suc (length a) ≡ suc at + length a = omega arith in
    rw q (sets_append (set out at x) a b (suc at))

pub wrote_none : (out : List ℕ) (at : ℕ) → Wrote out at [] at out
wrote_none out at = record { end = omega arith; is = refl }

pub wrote_behind : {out : List ℕ} {at : ℕ} {a : List ℕ} {p : ℕ} {o₁ b : List ℕ} {r : ℕ} {o₂ : List ℕ} → Wrote out at a p o₁
    → Wrote o₁ p b r o₂ → Wrote out at (a ++ b) r o₂
wrote_behind {out} {at} {a} {p} {o₁} {b} {r} {o₂} A B =
    let e = A.end in
    let f = B.end in
    let l = length-append a b in
    record { end = omega arith; is = B.is ∙ rw (A.is, e) (sets_append out a b at) }

-- all of s, written at once
pub wrote_whole : (out : List ℕ) (at : ℕ) (s : List ℕ) {ys : List ℕ} → ys ≡ s → at + length s ≤ length out
    → Wrote out at s (at + length s) (put_mid at (at + length s - at) out ys)
wrote_whole out at s {ys} e h =
    let n : length s ≡ at + length s - at = omega arith in
    record {
      end = refl;
      is = put_mid-paste at (at + length s - at) out ys s (length s) e n refl
          ∙ ap (λ (l : List ℕ). (take at out ++ l) ++ drop (at + length s) out) (take_all (length s) s (omega arith)) ∙ sym (sets-eq s out at h);
    }

pub wrote_length : {out : List ℕ} {at : ℕ} {a : List ℕ} {r : ℕ} {o : List ℕ} → Wrote out at a r o → length o ≡ length out
wrote_length {out} {at} {a} W = ap length W.is ∙ length-sets out at a

-- ── with how far they go at most ──

pub fills_of : {out : List ℕ} {at : ℕ} {a : List ℕ} {m r : ℕ} {o : List ℕ} → Wrote out at a r o → length a ≤ m → Fills out at a m r o
fills_of W h = let e = W.end in record { wrote = W; few = omega arith }

pub fills_behind : {out : List ℕ} {at : ℕ} {a : List ℕ} {m p : ℕ} {o₁ b : List ℕ} {n r : ℕ} {o₂ : List ℕ} → Fills out at a m p o₁
    → Fills o₁ p b n r o₂ → Fills out at (a ++ b) (m + n) r o₂
fills_behind A B =
    let h = A.few in
    let i = B.few in
    record { wrote = wrote_behind A.wrote B.wrote; few = omega arith }

pub fills_within : {out : List ℕ} {at : ℕ} {a : List ℕ} {m n r : ℕ} {o : List ℕ} → Fills out at a m r o → m ≤ n → Fills out at a n r o
fills_within P h = let i = P.few in record { wrote = P.wrote; few = omega arith }

-- a word, and what stands behind it
pub fills_word : {out : List ℕ} {at : ℕ} {word : List ℕ} {p : ℕ} {o₁ a : List ℕ} {m r : ℕ} {o₂ : List ℕ} → Wrote out at word p o₁
    → Fills o₁ p a m r o₂ → Fills out at (word ++ a) (length word + m) r o₂
fills_word W A = fills_behind (fills_of W (omega arith)) A

-- LF behind it
pub fills_end : {out : List ℕ} {at : ℕ} {a : List ℕ} {m p : ℕ} {o₁ : List ℕ} {r : ℕ} {o₂ : List ℕ} → Fills out at a m p o₁
    → Wrote o₁ p (10 ∷ []) r o₂ → Fills out at (a ++ (10 ∷ [])) (m + 1) r o₂
fills_end A L = fills_behind A (fills_of L (omega arith))

-- a word, the fields of numbers, and LF
fills_line : (k : ℕ) (ns : List ℕ) {out : List ℕ} {at : ℕ} {word : List ℕ} {p : ℕ} {o₁ : List ℕ} {q : ℕ} {o₂ : List ℕ} {r : ℕ} {o₃ : List ℕ} → Wrote out at word p o₁
    → Fills o₁ p (fields_of ns) (most_field * k) q o₂ → Wrote o₂ q (10 ∷ []) r o₃ → Fills out at (line_of word ns) (line_length (length word) k) r o₃
fills_line k ns W A L = fills_within (fills_word W (fills_end A L)) (omega arith)

-- of any width
pub told_line : {A : Type 0} (R : A → ℕ → Type 0) (list : List A) {out : List ℕ} {at : ℕ} {word : List ℕ} {p : ℕ} {o₁ : List ℕ} {q : ℕ} {o₂ : List ℕ} {r : ℕ}
    {o₃ : List ℕ} → Wrote out at word p o₁ → Told R list (λ ns. Fills o₁ p (fields_of ns) (most_field * length list) q o₂) → Wrote o₂ q (10 ∷ []) r o₃
    → Told R list (λ ns. Fills out at (line_of word ns) (line_length (length word) (length list)) r o₃)
told_line R list W (ns, Z, F) L = (ns, Z, fills_line (length list) ns W F L)

-- what numbers convert to is they
pub told_is : (l : List ℕ) (P : List ℕ → Type 0) → Told (λ x y. y ≡ x) l P → P l
told_is l P (ns, Z, H) = subst P (AllZip-map (λ x. x) l ns Z ∙ map-id l) H

-- a space, and digits
pub fills_number : (x : ℕ) {out : List ℕ} {at p : ℕ} {o₁ : List ℕ} {r : ℕ} {o₂ : List ℕ} → Wrote out at (32 ∷ []) p o₁ → Wrote o₁ p (digits_of x) r o₂ → x < 2 ^ 64
    → Fills out at (32 ∷ digits_of x) most_field r o₂
fills_number x A B h = let d = digits_twenty x h in fills_of (wrote_behind A B) (omega arith)

-- and with a sign
signed_length : (x : ℤ) → SFits w64 x → length (signed_of x) ≤ most_field
signed_length (pos n) f = let h = f.sfits in let d = digits_twenty n (omega arith) in omega arith
signed_length (negsuc n) f = let h = f.sfits in let d = digits_twenty (suc n) (omega arith) in omega arith

pub fills_signed : (x : ℤ) {out : List ℕ} {at p : ℕ} {o₁ : List ℕ} {r : ℕ} {o₂ : List ℕ} → Wrote out at (32 ∷ []) p o₁
    → Wrote o₁ p (signed_of (to_z w64 (of_z w64 x))) r o₂ → SFits w64 x → Fills out at (32 ∷ signed_of x) most_signed r o₂
fills_signed x A B f = let d = signed_length x f in fills_of (wrote_behind A (rw (to_z-of_z f) at B)) (omega arith)

-- a word, two numbers with their signs, and LF
pub fills_score : (s : Score) {out : List ℕ} {at : ℕ} {word : List ℕ} {p : ℕ} {o₁ : List ℕ} {q : ℕ} {o₂ : List ℕ} {r : ℕ} {o₃ : List ℕ} {e : ℕ} {o₄ : List ℕ}
    → Wrote out at word p o₁ → Fills o₁ p (32 ∷ signed_of (to_z w64 (of_z w64 s.hard))) most_signed q o₂
    → Fills o₂ q (32 ∷ signed_of (to_z w64 (of_z w64 s.soft))) most_signed r o₃ → Wrote o₃ r (10 ∷ []) e o₄
    → mag s.hard < 2 ^ 63 → mag s.soft < 2 ^ 63 → Fills out at (score_line word s) (score_length (length word)) e o₄
fills_score s W A B L h k =
    let hard = to_z-of_z {w = w64} {z = s.hard} (record { sfits = h }) in
    let soft = to_z-of_z {w = w64} {z = s.soft} (record { sfits = k }) in
    fills_within (fills_word W (fills_behind (rw hard at A) (fills_end (rw soft at B) L))) (omega arith)

-- the line of a refusal
pub fills_no : (k : ℕ) (q : Refusal) {out : List ℕ} {at m p : ℕ} {o : List ℕ} → Fills out at (line_of no_word (k ∷ [])) m p o → k ≡ number_of q
    → Fills out at (no_line q) m p o
fills_no k q F e = rw e at F

pub ruleset pieces = (rules, fills_no, told_is, fills_number, fills_signed, fills_score)

-- the rest, written from place p on, leaves the whole at its place
pub record Turning (whole out₀ : List ℕ) (at : ℕ) (rest out : List ℕ) (p : ℕ) : Type 0 where
  pub long : length out ≡ length out₀
  pub left : {r : ℕ} {o : List ℕ} → Wrote out p rest r o → Wrote out₀ at whole r o

pub turning_start : (whole out : List ℕ) (at : ℕ) → Turning whole out at whole out at
turning_start whole out at = record { long = refl; left = λ W. W }

pub turning_by : {whole out₀ : List ℕ} {at : ℕ} {a rest out : List ℕ} {p q : ℕ} {o : List ℕ} → Turning whole out₀ at (a ++ rest) out p
    → Wrote out p a q o → Turning whole out₀ at rest o q
turning_by T A = record { long = wrote_length A ∙ T.long; left = λ W. T.left (wrote_behind A W) }

pub turning_done : {whole out₀ : List ℕ} {at : ℕ} {out : List ℕ} {p : ℕ} → Turning whole out₀ at [] out p → Wrote out₀ at whole p out
turning_done {out = out} {p = p} T = T.left (wrote_none out p)

-- rows of a list, each of at most m bytes, of which i are written
pub record Rows {X : Type 0} (rows : List X → List ℕ) (m : ℕ) (list : List X) (out₀ : List ℕ) (at : ℕ) (out : List ℕ) (p i : ℕ)
    : Type 0 where
  pub to : i ≤ length list
  pub few : p ≤ at + m * i
  pub long : length out ≡ length out₀
  pub turning : Turning (rows list) out₀ at (rows (drop i list)) out p

module _ {X : Type 0} (rows : List X → List ℕ) (m : ℕ) where
  pub rows_start : (list : List X) (out : List ℕ) (at : ℕ) → Rows rows m list out at out at 0
  rows_start list out at =
      record { to = omega arith; few = omega (arith, mul-zero m); long = refl; turning = turning_start (rows list) out at }

module _ {X : Type 0} {rows : List X → List ℕ} {m : ℕ} {list : List X} {out₀ : List ℕ} {at : ℕ} {out : List ℕ} {p i : ℕ}
    (R : Rows rows m list out₀ at out p i) where
  pub rows_turn : {a : List ℕ} {q : ℕ} {o : List ℕ} (d : X) → ((l : List X) → rows (get_or list i d ∷ l) ≡ a ++ rows l) → i < length list
      → Fills out p a m q o → Rows rows m list out₀ at o q (i + 1)
  rows_turn {a} d step h P =
      let f = P.few in
      let g = R.few in
      let T : Turning (rows list) out₀ at (a ++ rows (drop (suc i) list)) out p =
      rw (drop-cons list i d h, step (drop (suc i) list)) at R.turning in
      let U = turning_by T P.wrote in
      record { to = omega arith; few = rw add-one (omega (arith, mul-suc m i)); long = U.long; turning = rw add-one U }

  pub rows_done : rows [] ≡ [] → length list ≤ i → Fills out₀ at (rows list) (m * length list) p out
  rows_done none h =
      let j = R.to in
      let f = R.few in
      let e : i ≡ length list = omega arith in
      record { wrote = turning_done (rw (drop_of_length-le list h, none) at R.turning); few = rw (← e) R.few }

-- ── fields of numbers of any width, of which i are written ──

zip_push : {A : Type 0} (R : A → ℕ → Type 0) (xs : List A) (ns : List ℕ) (x : A) (v : ℕ) → AllZip R xs ns → R x v → AllZip R (xs ++ (x ∷ [])) (ns ++ (v ∷ []))
zip_push R [] [] x v Z h = (h, tt)
zip_push R [] (n ∷ ns) x v Z h = absurd Z
zip_push R (y ∷ xs) [] x v Z h = absurd Z
zip_push R (y ∷ xs) (n ∷ ns) x v (k, Z) h = (k, zip_push R xs ns x v Z h)

pub record Fielding {A : Type 0} (R : A → ℕ → Type 0) (list : List A) (out₀ : List ℕ) (at : ℕ) (out : List ℕ) (p i : ℕ) : Type 0 where
  pub numbers : List ℕ
  pub told : AllZip R (take i list) numbers
  pub to : i ≤ length list
  pub long : length out ≡ length out₀
  pub fills : Fills out₀ at (fields_of numbers) (most_field * i) p out

module _ {A : Type 0} (R : A → ℕ → Type 0) (list : List A) where
  pub fields_start : (out : List ℕ) (at : ℕ) → Fielding R list out at out at 0
  fields_start out at = record {
    numbers = [];
    told = tt;
    to = omega arith;
    long = refl;
    fills = record { wrote = wrote_none out at; few = omega (arith, mul-zero most_field) };
  }

  module _ {out₀ : List ℕ} {at : ℕ} {out : List ℕ} {p i : ℕ} (F : Fielding R list out₀ at out p i) where
    pub fields_turn : {x : A} {v q : ℕ} {o : List ℕ} → i < length list → x ≡ get_or list i x → R x v → Fills out p (32 ∷ digits_of v) most_field q o
        → Fielding R list out₀ at o q (i + 1)
    fields_turn {x} {v} h e r W =
        let t : take (i + 1) list ≡ take i list ++ (x ∷ []) =
        rw add-one (take-suc list i x h ∙ ap {B = List A} (λ y. take i list ++ (y ∷ [])) (sym e)) in
        record {
          numbers = F.numbers ++ (v ∷ []);
          told = rw t (zip_push R (take i list) F.numbers x v F.told r);
          to = omega arith;
          long = wrote_length W.wrote ∙ F.long;
          fills = rw fields_snoc (fills_within (fills_behind F.fills W) (omega arith));
        }

    pub fields_done : length list ≤ i → Told R list (λ ns. Fills out₀ at (fields_of ns) (most_field * length list) p out)
    fields_done h =
        let k = F.to in
        let e : i ≡ length list = omega arith in
        (F.numbers, rw (take_all i list h) at F.told, rw e at F.fills)
