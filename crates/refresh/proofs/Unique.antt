-- A promise decides the whole of a call: two replies that keep it are one, and leave the same in every lent place. Assumes nothing.
use Prim.Native.Nat.{ℕ}
use native.Mathlib.Omega.{arith}
use mathlib.Core.Path.{◌≡◌, refl, sym, ap, ◌∙◌}
use mathlib.Core.Option.{none}
use mathlib.Core.List.{List, []}
use lib.ListN.{length}
use lib.Seq.{sets}
use Rattle.rules.specs.declared.Refusal.{Refusal}
use Rattle.rules.specs.declared.Score.{Score}
use Rattle.rules.specs.Sizes.{Loading}
use Rattle.rules.specs.Routes.{State}
use Rattle.rules.specs.Calls.{Ask, Reply, refused, scored, counted, started, changed, to_load, to_score, to_reset, to_put, to_starts, to_verdict, to_retract}
use Rattle.std.specs.Prelude.{Result, Ok, Err}
use Rattle.rules.specs.Scores.{no_change}
use Rattle.refresh.specs.declared.verdict.Judged.{Judged}
use Rattle.refresh.specs.declared.verdict.Judged.TheVariants.{LineUp, Cycle}
use Rattle.refresh.specs.declared.put.Change.{Change}
use Rattle.stores.specs.Promise.{Slices, StandsFor, answer_of, Decided, Promise, AnyPromise, Reads}
use Rattle.stores.specs.Says.{says, says_scored, says_counted, says_ended, says_started, places}
use Rattle.refresh.specs.Shows.{shown_as, says_verdict}
use Rattle.refresh.specs.Changes.{says_changed}
use Rattle.stores.proofs.Tabled.{places_length}
use Rattle.refresh.proofs.Showing.{never_refused}

-- ── as the rules have replies ──

pub decided_unique : {t : State} {a : Ask} {s s₁ s₂ : Slices} {out o₁ o₂ : List ℕ} {r₁ r₂ : Reply}
    → Decided t a s s₁ out o₁ r₁ → Decided t a s s₂ out o₂ r₂ → (r₁ ≡ r₂) × (s₁ ≡ s₂) × (o₁ ≡ o₂)
decided_unique {out = out} d e =
    let q = d.says ∙ sym e.says in
    (q, d.leaves ∙ sym e.leaves, d.answers ∙ ap (λ (r : Reply). sets out 0 (answer_of r)) q ∙ sym e.answers)

-- of a store that stands for something
pub unique : {a : Ask} {s s₁ s₂ : Slices} {out o₁ o₂ : List ℕ} {r₁ r₂ : Reply} (t : State) → StandsFor s t
    → Promise a s s₁ out o₁ r₁ → Promise a s s₂ out o₂ r₂ → (r₁ ≡ r₂) × (s₁ ≡ s₂) × (o₁ ≡ o₂)
unique t h p q = decided_unique (p.decides t h) (q.decides t h)

-- of any store
pub unique_any : {a : Ask} {s s₁ s₂ : Slices} {r₁ r₂ : Reply} → AnyPromise a s s₁ r₁ → AnyPromise a s s₂ r₂ → (r₁ ≡ r₂) × (s₁ ≡ s₂)
unique_any p q = let (a, b, c) = decided_unique (p.decides none) (q.decides none) in (a, b)

-- ── as the calls answer: no two answers mean the same ──

module _ {A : Type 0} (f : A → Reply) (one : (a b : A) → f a ≡ f b → a ≡ b) (no : (a : A) (r : Refusal) → f a ≡ refused r → ⊥) where
  says_same : (x y : Result A Refusal) → says f x ≡ says f y → x ≡ y
  says_same (Ok a) (Ok b) e = ap Ok (one a b e)
  says_same (Ok a) (Err r) e = absurd (no a r e)
  says_same (Err r) (Ok b) e = absurd (no b r (sym e))
  says_same (Err r) (Err q) e = cc

never : ◌≡◌ {A = ℕ} 0 1 → ⊥
never e = omega arith

pub scored_same : (x y : Result Score Refusal) → says_scored x ≡ says_scored y → x ≡ y
scored_same = says_same scored (λ a b e. cc) (λ a r e. never cc)

pub counted_same : (x y : Result (Score × ℕ) Refusal) → says_counted x ≡ says_counted y → x ≡ y
counted_same = says_same (λ a. counted a.0 a.1) one (λ a r e. never cc)
  where
    one : (a b : Score × ℕ) → counted a.0 a.1 ≡ counted b.0 b.1 → a ≡ b
    one a b e =
        let p : a.0 ≡ b.0 = cc in
        let q : a.1 ≡ b.1 = cc in
        λ i. (p i, q i)

pub ended_same : (x y : Result (Unit {0}) Refusal) → says_ended x ≡ says_ended y → x ≡ y
ended_same = says_same (λ _. scored no_change) (λ a b e. refl) (λ a r e. never cc)

pub started_same : (out : List ℕ) (x y : Result ℕ Refusal) → says_started out x ≡ says_started out y → x ≡ y
started_same out = says_same (λ n. started (places n out)) one (λ a r e. never cc)
  where
    one : (n m : ℕ) → started (places n out) ≡ started (places m out) → n ≡ m
    one n m e =
        let q : places n out ≡ places m out = cc in
        sym (places_length n out) ∙ ap length q ∙ places_length m out

pub judged_same : (out : List ℕ) (x y : Result Judged Refusal) → says_verdict out x ≡ says_verdict out y → x ≡ y
judged_same out = says_same (shown_as out) one (never_refused out)
  where
    one : (v w : Judged) → shown_as out v ≡ shown_as out w → v ≡ w
    one (LineUp n) (LineUp m) e =
        let q : places n out ≡ places m out = cc in
        ap LineUp (sym (places_length n out) ∙ ap length q ∙ places_length m out)
    one (Cycle n) (Cycle m) e =
        let q : places n out ≡ places m out = cc in
        ap Cycle (sym (places_length n out) ∙ ap length q ∙ places_length m out)
    one (LineUp n) (Cycle m) e = absurd (never cc)
    one (Cycle n) (LineUp m) e = absurd (never cc)

pub changed_same : (x y : Result Change Refusal) → says_changed x ≡ says_changed y → x ≡ y
changed_same = says_same (λ c. changed c.score c.report) one (λ a r e. never cc)
  where
    one : (a b : Change) → changed a.score a.report ≡ changed b.score b.report → a ≡ b
    one a b e =
        let p : a.score ≡ b.score = cc in
        let q : a.report ≡ b.report = cc in
        λ i. record { score = p i; report = q i }

-- ── call by call ──

pub score_unique : {s : Slices} (t : State) → StandsFor s t → (x y : Result (Score × ℕ) Refusal) → Reads to_score s (says_counted x)
    → Reads to_score s (says_counted y) → x ≡ y
score_unique t h x y p q = counted_same x y (unique t h p q).0

pub load_unique : {l : Loading} {s s₁ s₂ : Slices} (x y : Result Score Refusal) → AnyPromise (to_load l) s s₁ (says_scored x)
    → AnyPromise (to_load l) s s₂ (says_scored y) → (x ≡ y) × (s₁ ≡ s₂)
load_unique x y p q = let (a, b) = unique_any p q in (scored_same x y a, b)

pub reset_unique : {s s₁ s₂ : Slices} (x y : Result (Unit {0}) Refusal) → AnyPromise to_reset s s₁ (says_ended x) → AnyPromise to_reset s s₂ (says_ended y)
    → (x ≡ y) × (s₁ ≡ s₂)
reset_unique x y p q = let (a, b) = unique_any p q in (ended_same x y a, b)

pub starts_unique : {k : ℕ} {s s₁ s₂ : Slices} {out o₁ o₂ : List ℕ} (t : State) → StandsFor s t → (x y : Result ℕ Refusal)
    → Promise (to_starts k) s s₁ out o₁ (says_started o₁ x) → Promise (to_starts k) s s₂ out o₂ (says_started o₂ y)
    → (x ≡ y) × (s₁ ≡ s₂) × (o₁ ≡ o₂)
starts_unique {o₁ = o₁} t h x y p q =
    let (a, b, c) = unique t h p q in
    (started_same o₁ x y (a ∙ ap (λ (o : List ℕ). says_started o y) (sym c)), b, c)

pub verdict_unique : {k : ℕ} {s s₁ s₂ : Slices} {out o₁ o₂ : List ℕ} (t : State) → StandsFor s t → (x y : Result Judged Refusal)
    → Promise (to_verdict k) s s₁ out o₁ (says_verdict o₁ x) → Promise (to_verdict k) s s₂ out o₂ (says_verdict o₂ y)
    → (x ≡ y) × (s₁ ≡ s₂) × (o₁ ≡ o₂)
verdict_unique {o₁ = o₁} t h x y p q =
    let (a, b, c) = unique t h p q in
    (judged_same o₁ x y (a ∙ ap (λ (o : List ℕ). says_verdict o y) (sym c)), b, c)

pub retract_unique : {o : ℕ} {s s₁ s₂ : Slices} (t : State) → StandsFor s t → (x y : Result (Unit {0}) Refusal)
    → Promise (to_retract o) s s₁ [] [] (says_ended x) → Promise (to_retract o) s s₂ [] [] (says_ended y) → (x ≡ y) × (s₁ ≡ s₂)
retract_unique t h x y p q = let (a, b, c) = unique t h p q in (ended_same x y a, b)

pub put_unique : {o : ℕ} {l : List ℕ} {s s₁ s₂ : Slices} (t : State) → StandsFor s t → (x y : Result Change Refusal)
    → Promise (to_put o l) s s₁ [] [] (says_changed x) → Promise (to_put o l) s s₂ [] [] (says_changed y) → (x ≡ y) × (s₁ ≡ s₂)
put_unique t h x y p q = let (a, b, c) = unique t h p q in (changed_same x y a, b)
