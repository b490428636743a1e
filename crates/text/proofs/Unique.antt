-- Two replies that keep a promise are one. Assumes nothing.
use Prim.Native.Nat.{ℕ, suc, ◌+◌, ◌-◌, ◌≤◌, ◌<◌}
use native.Mathlib.Nat.{suc_inj}
use native.Mathlib.Omega.{arith}
use mathlib.Core.Path.{◌≡◌, refl, sym, ap, subst, ◌∙◌}
use mathlib.Core.Bool.{true}
use mathlib.Core.Logic.{◌⊎◌, inl, inr}
use mathlib.Core.List.{List, [], ◌∷◌, ◌++◌}
use lib.ListN.{length, take, drop, replicate, length-append, length-drop}
use lib.Seq.{length-take-le, take_at}
use Rattle.std.specs.Prelude.{Option, Some, None}
use Rattle.std.specs.List.{AllZip}
use Rattle.std.specs.Io.KnownBytes.{Consumes, IsAtEnd}
use Rattle.std.proofs.lemmas.List.{take-append-drop}
use Rattle.rules.proofs.Ranges.{lt_or_le}
use Rattle.text.specs.declared.vocabulary.Word.{Word}
use Rattle.text.specs.Grammar.{fits_of}
use Rattle.text.specs.Reads.{other, Every, Ended, Ends, Reads, Fronts, none, more, Leaves, Parsed, Means, Left, Parses}
use Rattle.text.specs.Writes.{Wrote, Fills}
use Rattle.text.specs.Answers.{Told, line_of}
use Rattle.text.proofs.Runs.{unlike, tail_is, every_at, cut_same}
use Rattle.text.proofs.LineEnds.{other_self}
use Rattle.text.proofs.Gathers.{field_same}
use Rattle.text.proofs.Namings.{named_same, text_same}

-- equal ends of a list begin at one place
place_same : (l : List ℕ) (a b : ℕ) → a ≤ length l → b ≤ length l → drop a l ≡ drop b l → a ≡ b
place_same l a b h k e = let q = simp length-drop at (ap length e) in omega arith

-- ── where a byte stands first ──

module _ (byte : ℕ) (input : List ℕ) (from : ℕ) where
  never_ended : {e : ℕ} {A : Type 0} → Ended byte input from e → Every (other byte) (drop from input) → A
  never_ended {e} E k =
      unlike (every_at (other byte) (take (e - from) (drop from input)) byte (drop (suc e) input) (rw E.text at k)) (other_self byte)

  pub ends_same : (r s : Option ℕ) → Ends byte input from r → Ends byte input from s → r ≡ s
  ends_same (Some e) (Some d) E D =
      let (f, g) = cut_same (other byte) (take (e - from) (drop from input)) (take (d - from) (drop from input))
      {r = byte ∷ drop (suc e) input} {s = byte ∷ drop (suc d) input} E.line D.line (other_self byte) (other_self byte)
      (sym E.text ∙ D.text) in
      let q = place_same input (suc e) (suc d) E.within D.within (tail_is g) in
      ap Some (suc_inj q)
  ends_same (Some e) None E k = never_ended E k
  ends_same None (Some d) k D = never_ended D k
  ends_same None None k j = refl

-- ── a number ──

pub reads_same : (t line : List ℕ) (from : ℕ) (r s : Option (ℕ × ℕ)) → Reads t line from r → Reads t line from s → r ≡ s
reads_same t line from (Some (x, e)) (Some (y, d)) (h, R) (k, S) =
    let (f, g) = field_same x y R.stops S.stops (sym R.text ∙ S.text) in
    let q = place_same line e d R.within S.within g in
    cc
reads_same t line from (Some (x, e)) None (h, R) u = absurd (u x _ R.below R.stops R.text)
reads_same t line from None (Some (y, d)) u (k, S) = absurd (u y _ S.below S.stops S.text)
reads_same t line from None None u v = refl

-- ── what is written ──

leads_same : {t ns ms : List ℕ} → Fronts t ns → Fronts t ms → ns ≡ ms
leads_same (none f) (none g) = refl
leads_same (none f) (more {rest = l} {v = y} b s e L) = absurd (f y l b s e)
leads_same (more {rest = l} {v = x} b s e L) (none f) = absurd (f x l b s e)
leads_same (more {rest = l} {v = x} b s e L) (more {rest = m} {v = y} c u f M) =
    let (p, q) = field_same x y s u (tail_is (sym e ∙ f)) in
    let h = leads_same L (rw (← q) at M) in
    cc

pub leaves_same : {t out o₁ o₂ : List ℕ} → Leaves t out o₁ → Leaves t out o₂ → o₁ ≡ o₂
leaves_same {t} {out} L M = L.is ∙ ap (λ (l : List ℕ). l ++ drop (length l) out) (leads_same L.leads M.leads) ∙ sym M.is

front_length : (out o : List ℕ) (k : ℕ) → length o ≡ length out → k ≤ length out → length (take k o) ≡ k
front_length out o k e h = length-take-le k o (omega arith)

-- ── a line ──

module _ {line out o : List ℕ} {w : Word} {k : ℕ} (P : Parsed line out o w k) where
  parsed_length : length (take k o) ≡ k
  parsed_length = front_length out o k P.same P.within

  parsed_fits : fits_of w (length (take k o)) ≡ true
  parsed_fits = ap (fits_of w) parsed_length ∙ P.fits

module _ (line out o₁ o₂ : List ℕ) where
  means_same : (r s : Option (Word × ℕ)) → Means line out o₁ r → Means line out o₂ s → r ≡ s
  means_same (Some (w, k)) (Some (v, n)) P Q =
      let (e, f) = text_same w v (take k o₁) (take n o₂) (sym P.text ∙ Q.text) in
      let q : k ≡ n = sym (parsed_length P) ∙ ap length f ∙ parsed_length Q in
      cc
  means_same (Some (w, k)) None P u = absurd (u w (take k o₁) P.below (parsed_fits P) P.text)
  means_same None (Some (v, n)) u Q = absurd (u v (take n o₂) Q.below (parsed_fits Q) Q.text)
  means_same None None u v = refl

  left_same : Left line out o₁ → Left line out o₂ → o₁ ≡ o₂
  left_same (inl (u, e)) (inl (v, f)) = e ∙ sym f
  left_same (inl (u, e)) (inr (w, N, L)) = absurd (u w N)
  left_same (inr (w, N, L)) (inl (u, e)) = absurd (u w N)
  left_same (inr (w, N, L)) (inr (v, M, K)) = leaves_same L (rw (named_same line w v N M) K)

  pub parses_same : (r s : Option (Word × ℕ)) → Parses line out o₁ r → Parses line out o₂ s → (r ≡ s) × (o₁ ≡ o₂)
  parses_same r s P Q = (means_same r s P.means Q.means, left_same P.left Q.left)

-- ── what is written at a place ──

module _ {out : List ℕ} {at : ℕ} {bytes : List ℕ} {r s : ℕ} {o₁ o₂ : List ℕ} where
  pub wrote_same : Wrote out at bytes r o₁ → Wrote out at bytes s o₂ → (r ≡ s) × (o₁ ≡ o₂)
  wrote_same A B = (A.end ∙ sym B.end, A.is ∙ sym B.is)

  pub fills_same : {m n : ℕ} → Fills out at bytes m r o₁ → Fills out at bytes n s o₂ → (r ≡ s) × (o₁ ≡ o₂)
  fills_same A B = wrote_same A.wrote B.wrote

-- ── a line of numbers of any width, each of which is one number ──

module _ {A : Type 0} (converts : A → ℕ → Type 0) (one : (x : A) (a b : ℕ) → converts x a → converts x b → a ≡ b) where
  zipped_same : (l : List A) (ns ms : List ℕ) → AllZip converts l ns → AllZip converts l ms → ns ≡ ms
  zipped_same [] [] [] Z Y = refl
  zipped_same [] [] (b ∷ ms) Z Y = absurd Y
  zipped_same [] (a ∷ ns) ms Z Y = absurd Z
  zipped_same (x ∷ l) [] ms Z Y = absurd Z
  zipped_same (x ∷ l) (a ∷ ns) [] Z Y = absurd Y
  zipped_same (x ∷ l) (a ∷ ns) (b ∷ ms) (p, Z) (q, Y) =
      let e = one x a b p q in
      let f = zipped_same l ns ms Z Y in
      cc

  pub told_same : (l : List A) (word : List ℕ) {out : List ℕ} {at m n r s : ℕ} {o₁ o₂ : List ℕ}
      → Told converts l (λ ns. Fills out at (line_of word ns) m r o₁) → Told converts l (λ ns. Fills out at (line_of word ns) n s o₂)
      → (r ≡ s) × (o₁ ≡ o₂)
  told_same l word {out} {at} {n = n} {s = s} {o₂ = o₂} (ns, Z, F) (ms, Y, G) =
      fills_same F (subst (λ (x : List ℕ). Fills out at (line_of word x) n s o₂) (sym (zipped_same l ns ms Z Y)) G)

-- of 64 and of 32 bits alike, a number converts to itself
pub line_same : (l word : List ℕ) {out : List ℕ} {at m n r s : ℕ} {o₁ o₂ : List ℕ}
    → Told (λ x y. y ≡ x) l (λ ns. Fills out at (line_of word ns) m r o₁) → Told (λ x y. y ≡ x) l (λ ns. Fills out at (line_of word ns) n s o₂)
    → (r ≡ s) × (o₁ ≡ o₂)
line_same = told_same (λ x y. y ≡ x) (λ x a b p q. p ∙ sym q)

-- ── an input, of a reader whose bytes are known ──

-- of k places the first n are of the bytes xs, all of them if there is room, and the others are 0
pub record FullyRead (xs : List ℕ) (k n : ℕ) (a : List ℕ) : Type 0 where
  pub left : List ℕ
  pub long : length a ≡ k
  pub within : n ≤ k
  pub bytes : xs ≡ take n a ++ left
  pub end : n < k → left ≡ []
  pub rest : drop n a ≡ replicate (k - n) 0

-- what `read_full` promises where it answers a number
pub fully_read : {xs a : List ℕ} {n : ℕ} (after : Option (List ℕ)) → n ≤ length a → Consumes (Some xs) after (take n a)
    → (n < length a → IsAtEnd after) → drop n a ≡ replicate (length a - n) 0 → FullyRead xs (length a) n a
fully_read (Some ys) w c e r = record { left = ys; long = refl; within = w; bytes = c; end = e; rest = r }
fully_read None w c e r = absurd c

module _ {xs a : List ℕ} {k n : ℕ} (F : FullyRead xs k n a) where
  front_long : length (take n a) ≡ n
  front_long = let l = F.long in let w = F.within in length-take-le n a (omega arith)

  pub fully_counts : length xs ≡ n + length F.left
  fully_counts = ap length F.bytes ∙ length-append (take n a) F.left ∙ ap (λ (j : ℕ). j + length F.left) front_long

  pub fully_is : a ≡ take n xs ++ replicate (k - n) 0
  fully_is =
      let u : take n xs ≡ take n a = ap (take n) F.bytes ∙ take_at (take n a) F.left n front_long in
      sym (take-append-drop n a) ∙ ap (λ (l : List ℕ). l ++ drop n a) (sym u) ∙ ap (λ (l : List ℕ). take n xs ++ l) F.rest

module _ {xs a b : List ℕ} {k n m : ℕ} (F : FullyRead xs k n a) (G : FullyRead xs k m b) where
  counts_same : (n < k) ⊎ (k ≤ n) → (m < k) ⊎ (k ≤ m) → n ≡ m
  counts_same (inl p) (inl q) =
      let c = fully_counts F in
      let d = fully_counts G in
      let e = ap length (F.end p) in
      let f = ap length (G.end q) in
      omega arith
  counts_same (inl p) (inr q) = let c = fully_counts F in let d = fully_counts G in let e = ap length (F.end p) in omega arith
  counts_same (inr p) (inl q) = let c = fully_counts F in let d = fully_counts G in let f = ap length (G.end q) in omega arith
  counts_same (inr p) (inr q) = let v = F.within in let w = G.within in omega arith

  pub full_same : (n ≡ m) × (a ≡ b)
  full_same =
      let e = counts_same (lt_or_le n k) (lt_or_le m k) in
      (e, fully_is F ∙ ap (λ (j : ℕ). take j xs ++ replicate (k - j) 0) e ∙ sym (fully_is G))
