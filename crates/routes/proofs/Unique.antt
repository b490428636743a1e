-- Two replies that keep a promise are one: words that hold a plan decide the words afterwards. Assumes nothing.
use Rattle.std.proofs.Common.{◌≡◌, ℕ, ◌<◌, List, sym, ◌∙◌, Result}
use Rattle.rules.specs.Sizes.{Base}
use Rattle.rules.specs.Routes.{Plan}
use Rattle.rules.specs.Sound.{Sound}
use Rattle.rules.specs.declared.Senseless.{Senseless}
use Rattle.routes.specs.declared.snap.Snap.{Snap}
use Rattle.routes.specs.Store.{Model, Holds}
use Rattle.routes.specs.Desks.{routes_of}
use Rattle.routes.specs.Promises.{Retracted}
use Rattle.routes.specs.Snapped.{Stated, Snapped}

-- a model is held by one list of words
pub one_words : {l l' : List ℕ} {m : Model} → Holds l m → Holds l' m → l ≡ l'
one_words h k = h.words ∙ sym k.words

module _ (l : List ℕ) (o : ℕ) (p : Plan) (S : Sound p) (h : Holds l (routes_of p)) (low : o < p.base.owners) where
  pub retract_once : {l₁ l₂ : List ℕ} {d₁ d₂ : Result Unit Senseless} → Retracted l o l₁ d₁ → Retracted l o l₂ d₂ → (d₁ ≡ d₂) × (l₁ ≡ l₂)
  retract_once a b =
      let (c, x) = a p S h low in
      let (d, y) = b p S h low in
      (c ∙ sym d, one_words x y)

module _ (n : ℕ) (entries expected : List ℕ) (o : ℕ) (out : List ℕ) (base : Base) (s : Stated n expected base) where
  pub snapshot_once : {out₁ out₂ : List ℕ} {r₁ r₂ : Snap} → Snapped n entries expected o out out₁ r₁ → Snapped n entries expected o out out₂ r₂
      → (r₁.valid ≡ r₂.valid) × (r₁.invalid ≡ r₂.invalid) × (r₁.violations ≡ r₂.violations) × (out₁ ≡ out₂)
  snapshot_once a b = (
    a.valid ∙ sym b.valid,
    a.invalid ∙ sym b.invalid,
    a.violations base s ∙ sym (b.violations base s),
    a.written ∙ sym b.written,
  )
