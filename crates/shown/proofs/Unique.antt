-- Two replies that keep a promise are one: any words decide what `meet` leaves, those of a model what is shown. Assumes nothing.
use Rattle.std.proofs.Common.{◌≡◌, ℕ, zero, suc, ◌≤◌, Bool, true, false, List, length, take, drop, sym, refl, ap, ◌∙◌, arith, take-append-drop, length-take-le}
use Rattle.rules.specs.Sizes.{most_jobs}
use Rattle.edges.specs.Edges.{Model, Holds}
use Rattle.graphs.specs.Graph.{Below}
use Rattle.shown.specs.Distances.{Met, Meets}
use Rattle.shown.specs.Cycles.{Looped, Cycles}
use Rattle.shown.specs.Lowests.{Shown, Written, Lowest}

pub meet_once : {vs : List ℕ} {y n tail : ℕ} {q d : List ℕ} {r₁ r₂ : ℕ} {q₁ q₂ d₁ d₂ : List ℕ} → Meets vs y n tail q d r₁ q₁ d₁
    → Meets vs y n tail q d r₂ q₂ d₂ → (r₁ ≡ r₂) × (q₁ ≡ q₂) × (d₁ ≡ d₂)
meet_once A B =
    let s = A.is ∙ sym B.is in
    (ap (λ (s : Met). s.tail) s, ap (λ (s : Met). s.queue) s, ap (λ (s : Met). s.dist) s)

joined : (n : ℕ) {a b : List ℕ} → take n a ≡ take n b → drop n a ≡ drop n b → a ≡ b
joined n {a} {b} p q = sym (take-append-drop n a) ∙ rw (p, q) (take-append-drop n b)

module _ (e : List ℕ) (n : ℕ) (m : Model) (H : Holds e m) (b : Below n m) {o o₁ o₂ : List ℕ} where
  pub lowest_once : {r₁ r₂ : Bool} → Lowest e n o r₁ o₁ → Lowest e n o r₂ o₂ → (r₁ ≡ r₂) × (o₁ ≡ o₂)
  lowest_once {r₁} {r₂} A B = go r₁ r₂ (A.is m H b) (B.is m H b) A.beyond B.beyond
    where
      go : (r₁ r₂ : Bool) → Shown m n o₁ r₁ → Shown m n o₂ r₂ → Written n o r₁ o₁ → Written n o r₂ o₂ → (r₁ ≡ r₂) × (o₁ ≡ o₂)
      go true true p q x y = (refl, joined n (cc) (x ∙ sym y))
      go true false p q x y = absurd (let z : ◌≡◌ {A = ℕ} 0 1 = cc in omega arith)
      go false true p q x y = absurd (let z : ◌≡◌ {A = ℕ} 0 1 = cc in omega arith)
      go false false p q x y = (refl, x ∙ sym y)

  pub cycle_once : n ≤ most_jobs → length o₁ ≡ most_jobs → length o₂ ≡ most_jobs → {r₁ r₂ : ℕ} → Cycles e n o r₁ o₁ → Cycles e n o r₂ o₂
      → (r₁ ≡ r₂) × (o₁ ≡ o₂)
  cycle_once hn l₁ l₂ {r₁} {r₂} A B = go r₁ r₂ A.within B.within (A.is m H b) (B.is m H b) A.beyond B.beyond
    where
      go : (r₁ r₂ : ℕ) → r₁ ≤ n → r₂ ≤ n → Looped m n o₁ r₁ → Looped m n o₂ r₂ → drop r₁ o₁ ≡ drop r₁ o → drop r₂ o₂ ≡ drop r₂ o
          → (r₁ ≡ r₂) × (o₁ ≡ o₂)
      go zero zero h i p q x y = (refl, x ∙ sym y)
      go zero (suc k) h i p q x y = absurd (let z : ◌≡◌ {A = ℕ} 0 1 = cc in omega arith)
      go (suc j) zero h i p q x y = absurd (let z : ◌≡◌ {A = ℕ} 0 1 = cc in omega arith)
      go (suc j) (suc k) h i p q x y =
          let s : take (suc j) o₁ ≡ take (suc k) o₂ = cc in
          let t : suc j ≡ suc k =
          sym (length-take-le (suc j) o₁ (omega arith)) ∙ ap length s ∙ length-take-le (suc k) o₂ (omega arith) in
          (t, joined (suc k) (rw t at s) (rw t at x ∙ sym y))
