-- Two replies that keep a promise are one. Assumes nothing.
use Prim.Native.Nat.{ℕ}
use mathlib.Core.Path.{◌≡◌, refl, sym, ap, ◌∙◌}
use mathlib.Core.List.{List, [], ◌∷◌, ◌++◌}
use lib.ListN.{take, drop}
use Rattle.std.specs.List.{All, AllZip}
use Rattle.std.proofs.lemmas.List.{take-append-drop}
use Rattle.std.proofs.lemmas.List.Elements.{All-head, All-tail}
use Rattle.words.specs.Words.{Mapped}

-- of x, a call has one answer at most
abbrev pub HasOne : (ℕ → ℕ → Type 0) → ℕ → Type 0
HasOne R x = (y z : ℕ) → R x y → R x z → y ≡ z

-- ── `map_from`, where a call has one answer for each word from place k on ──

module _ (R : ℕ → ℕ → Type 0) where
  zipped_same : (l b c : List ℕ) → All (HasOne R) l → AllZip R l b → AllZip R l c → b ≡ c
  zipped_same [] [] [] H Z Y = refl
  zipped_same [] [] (z ∷ c) H Z Y = absurd Y
  zipped_same [] (y ∷ b) c H Z Y = absurd Z
  zipped_same (x ∷ l) [] c H Z Y = absurd Z
  zipped_same (x ∷ l) (y ∷ b) [] H Z Y = absurd Y
  zipped_same (x ∷ l) (y ∷ b) (z ∷ c) H (p, Z) (q, Y) =
      let e = All-head (HasOne R) x l H y z p q in
      let f = zipped_same l b c (All-tail (HasOne R) x l H) Z Y in
      cc

  pub mapped_same : {k : ℕ} {a b c : List ℕ} → All (HasOne R) (drop k a) → Mapped R k a b → Mapped R k a c → b ≡ c
  mapped_same {k} {a} {b} {c} H M N =
      sym (take-append-drop k b)
      ∙ ap (λ (l : List ℕ). l ++ drop k b) (M.stays ∙ sym N.stays)
      ∙ ap (λ (l : List ℕ). take k c ++ l) (zipped_same (drop k a) (drop k b) (drop k c) H M.answers N.answers)
      ∙ take-append-drop k c
