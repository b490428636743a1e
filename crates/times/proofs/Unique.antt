-- Two replies that keep a promise are one, and leave the same words. Assumes nothing.
use Rattle.std.proofs.Common.{◌≡◌, ℕ, List, [], map, sym, ◌∙◌}
use Rattle.rules.specs.declared.Report.{Report}
use Rattle.rules.specs.Routes.{Plan, own_stage}
use Rattle.rules.specs.Reports.{head_of, push, seeds}
use Rattle.times.specs.Words.{time_words}
use Rattle.times.specs.Settles.{Given, Renews, Putting, Refreshes}

pub anew_unique : {e sp : List ℕ} {n : ℕ} {r₁ r₂ : Report} {ts₁ ts₂ : List ℕ} (p : Plan) → Given p e sp n
    → Renews e sp n r₁ ts₁ → Renews e sp n r₂ ts₂ → (r₁ ≡ r₂) × (ts₁ ≡ ts₂)
anew_unique p G x y =
    let a = x.is p G in
    let b = y.is p G in
    (a.report ∙ sym b.report, a.times ∙ sym b.times)

pub refresh_unique : {e sp ts heads new : List ℕ} {n : ℕ} {r₁ r₂ : Report} {ts₁ ts₂ : List ℕ} (p : Plan) (o : ℕ) (l : List ℕ)
    → Putting p o l e sp n → ts ≡ time_words p → push [] heads ≡ seeds p o l → push [] new ≡ push [] (map head_of (own_stage p o l).came)
    → Refreshes e sp ts heads new n r₁ ts₁ → Refreshes e sp ts heads new n r₂ ts₂ → (r₁ ≡ r₂) × (ts₁ ≡ ts₂)
refresh_unique p o l P t q k x y =
    let a = x.is p o l P t q k in
    let b = y.is p o l P t q k in
    (a.report ∙ sym b.report, a.times ∙ sym b.times)
