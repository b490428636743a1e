-- The promise decides the whole of a call for C: two answers that keep it give one number, and leave the same in every lent place. Assumes nothing.
use Prim.Native.Nat.{ℕ}
use mathlib.Core.Path.{◌≡◌, sym, ap, ◌∙◌}
use mathlib.Core.List.{List}
use lib.IntN.{ℤ}
use lib.Seq.{sets}
use Rattle.rules.specs.declared.Block.{Block}
use Rattle.rules.specs.Calls.{Ask, Reply, to_load, to_reset, to_retract, to_put, to_score, to_verdict, to_starts, to_blocks, to_move}
use Rattle.rules.specs.Routes.{State}
use Rattle.stores.specs.Promise.{Slices, StandsFor}
use Rattle.refresh.specs.History.{Kept}
use Rattle.refresh.proofs.Unique.{unique, unique_any}
use Rattle.blocks.proofs.Unique.{decided_unique}
use Rattle.capi.specs.Numbers.{code_of, score_in, told_in, AnswersBy, Answers, AnswersBlocks}

-- the answer buffers are the same; load and reset are lent none
abbrev SameBuffer : Ask → List ℕ → List ℕ → Type 0
SameBuffer (to_load l) o₁ o₂ = Unit {0}
SameBuffer to_reset o₁ o₂ = Unit {0}
SameBuffer (to_retract o) o₁ o₂ = o₁ ≡ o₂
SameBuffer (to_put o l) o₁ o₂ = o₁ ≡ o₂
SameBuffer to_score o₁ o₂ = o₁ ≡ o₂
SameBuffer (to_verdict k) o₁ o₂ = o₁ ≡ o₂
SameBuffer (to_starts k) o₁ o₂ = o₁ ≡ o₂
SameBuffer (to_blocks os k) o₁ o₂ = o₁ ≡ o₂
SameBuffer (to_move o m k) o₁ o₂ = o₁ ≡ o₂

-- a reply has one number for each place
told_unique : {K₁ K₂ : Reply → Type 0} {sc sc₁ sc₂ : List ℤ} {td td₁ td₂ : List ℕ} {c₁ c₂ : ℕ} (A : AnswersBy K₁ sc sc₁ td td₁ c₁)
    (B : AnswersBy K₂ sc sc₂ td td₂ c₂) → A.reply ≡ B.reply → (c₁ ≡ c₂) × (sc₁ ≡ sc₂) × (td₁ ≡ td₂)
told_unique {sc = sc} {td = td} A B e = (
  A.written.code ∙ ap code_of e ∙ sym B.written.code,
  A.written.score ∙ ap (λ (r : Reply). sets sc 0 (score_in r)) e ∙ sym B.written.score,
  A.written.told ∙ ap (λ (r : Reply). sets td 0 (told_in r)) e ∙ sym B.written.told,
)

module _ (s s₁ s₂ : Slices) (t : State) (stands : StandsFor s t) where
  module _ (out o₁ o₂ : List ℕ) where
    kept_unique : (a : Ask) (r₁ r₂ : Reply) → Kept a s s₁ out o₁ r₁ → Kept a s s₂ out o₂ r₂ → (r₁ ≡ r₂) × (s₁ ≡ s₂) × SameBuffer a o₁ o₂
    kept_unique (to_load l) r₁ r₂ p q = let (e, f) = unique_any p q in (e, f, tt)
    kept_unique to_reset r₁ r₂ p q = let (e, f) = unique_any p q in (e, f, tt)
    kept_unique (to_retract o) r₁ r₂ p q = unique t stands p q
    kept_unique (to_put o l) r₁ r₂ p q = unique t stands p q
    kept_unique to_score r₁ r₂ p q = unique t stands p q
    kept_unique (to_verdict k) r₁ r₂ p q = unique t stands p q
    kept_unique (to_starts k) r₁ r₂ p q = unique t stands p q
    kept_unique (to_blocks os k) r₁ r₂ p q = unique t stands p q
    kept_unique (to_move o m k) r₁ r₂ p q = unique t stands p q

    -- every call but blocks
    pub answers_unique : {sc sc₁ sc₂ : List ℤ} {td td₁ td₂ : List ℕ} {c₁ c₂ : ℕ} (a : Ask) → Answers a s s₁ out o₁ sc sc₁ td td₁ c₁
        → Answers a s s₂ out o₂ sc sc₂ td td₂ c₂ → (c₁ ≡ c₂) × (sc₁ ≡ sc₂) × (td₁ ≡ td₂) × (s₁ ≡ s₂) × SameBuffer a o₁ o₂
    answers_unique a A B =
        let (e, f, g) = kept_unique a A.reply B.reply A.keeps B.keeps in
        let (c, n, d) = told_unique A B e in
        (c, n, d, f, g)

  pub blocks_unique : {os : List ℕ} {out o₁ o₂ : List Block} {td td₁ td₂ : List ℕ} {c₁ c₂ : ℕ} → AnswersBlocks os s s₁ out o₁ td td₁ c₁
      → AnswersBlocks os s s₂ out o₂ td td₂ c₂ → (c₁ ≡ c₂) × (td₁ ≡ td₂) × (s₁ ≡ s₂) × (o₁ ≡ o₂)
  blocks_unique A B =
      let (e, f, g) = decided_unique (A.keeps.decides t stands) (B.keeps.decides t stands) in
      let (c, n, d) = told_unique A B e in
      (c, d, f, g)
