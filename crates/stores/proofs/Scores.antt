-- The score that the words tell: of any words, and of a store that stands for a plan. Assumes nothing.
use Prim.Native.Nat.{ℕ, ◌+◌, ◌≤◌, ◌<◌, ◌^◌}
use native.Mathlib.Omega.{arith}
use mathlib.Core.Path.{◌≡◌, sym, ap, ◌∙◌}
use mathlib.Core.Bool.{Bool, cond, false, not, true}
use mathlib.Core.List.{List, ◌∷◌}
use lib.ListN.{get_or, take}
use lib.Seq.{get_or-take}
use lib.Dec.{eqb}
use borrow.Author.Tests.{lt-ltb, le-ltb}
use Rattle.rules.specs.declared.Score.{Score}
use Rattle.rules.specs.declared.Refusal.{Refusal}
use Rattle.rules.specs.declared.Refusal.TheVariants.{BadStore}
use Rattle.rules.specs.Lists.{tick}
use Rattle.rules.specs.Routes.{Plan}
use Rattle.rules.specs.Scores.{score_of, limit, score, hard_penalty, invalid_fixed, invalid_entries, violations, assignment_penalty, cycle_penalty, is_cyclic, makespan}
use Rattle.rules.proofs.Bounds.{makespan_few}
use Rattle.rules.proofs.Scoring.{within_score}
use Rattle.rules.specs.Sizes.{most_jobs, routes_length, times_length}
use Rattle.std.specs.Prelude.{Result, Ok, Err}
use Rattle.routes.specs.Handing.{Faults, Assigned}
use Rattle.routes.specs.Desks.{routes_of}
use Rattle.stores.specs.Sums.{Summed, Tallied, Penal, ScoredBy, total, penalty_in, scored_in, assignments_in}
use Rattle.times.specs.Words.{cyclic_in, makespan_in, time_words}
use Rattle.stores.specs.Promise.{Slices, Held}
use Rattle.stores.proofs.Openings.{base_headed}
use Rattle.stores.proofs.Penalties.{counts_sum, assigned_sum}

never : {r : Refusal} {c : Score} {A : Type 0} → ◌≡◌ {A = Result Score Refusal} (Ok c) (Err r) → A
never e = absurd (let z : ◌≡◌ {A = ℕ} 0 1 = cc in omega arith)

-- ── of any words ──

cycle_few : (b : Bool) (n : ℕ) → cond b n 0 ≤ n
cycle_few true n = omega arith
cycle_few false n = omega arith

pub penal_of : {base routes f g : List ℕ} {n m' a b : ℕ} → get_or base 4 0 < 2 ^ 32 → Faults routes f → Summed f a → Assigned routes g
    → Tallied g m' b → m' ≡ n → n ≤ most_jobs → Penal base routes n (get_or base 4 0 + a + b)
unfolding penalty_in
penal_of {base} {n = n} {m'} h F s A j q k = record {
  is = λ m H.
      let x = s.is ∙ ap total (F.is m H) in
      let y = j.is ∙ ap (λ (l : List ℕ). assignments_in l m') (A.is m H) ∙ ap (assignments_in m.assigned) q in
      omega arith;
  few = let x = s.few in let y = j.few in let z = F.long in omega arith;
}

module _ {base routes times : List ℕ} {n span : ℕ} (es : span ≡ makespan_in times) where
  pub scored_wide : limit < span → ScoredBy base routes times n (Err BadStore)
  unfolding scored_in
  scored_wide k = record { is = λ m H. rw (← es, lt-ltb limit _ k); twelve = λ k e. cc; within = tt }

  pub scored_told : {x y : ℕ} → Penal base (take routes_length routes) n x → n ≤ most_jobs → span ≤ limit → {b : Bool} → b ≡ cyclic_in times
      → y ≡ cond b n 0 → {s : Score} → s ≡ score_of (x + y) span → ScoredBy base routes times n (Ok s)
  unfolding scored_in
  scored_told {x} {y} p few wide {b} eb c q = record {
    is = λ m H. rw (← es, le-ltb limit _ wide, ← eb, ← c, ← p.is m H) (ap Ok q);
    twelve = λ k e. never e;
    within = rw q (within_score (x + y) _ (let z = p.few in let k = cycle_few b n in omega arith) wide);
  }

-- ── of a store that stands for a plan ──

-- the first two words of the times
timed_by : (p : Plan) (l m : List ℕ) → take times_length l ≡ tick (is_cyclic p) 0 ∷ makespan p ∷ m
    → (get_or l 0 0 ≡ tick (is_cyclic p) 0) × (get_or l 1 0 ≡ makespan p)
timed_by p l m e = (
  sym (get_or-take times_length l 0 0 (omega arith)) ∙ ap (λ (x : List ℕ). get_or x 0 0) e,
  sym (get_or-take times_length l 1 0 (omega arith)) ∙ ap (λ (x : List ℕ). get_or x 1 0) e,
)

pub timed : (p : Plan) (l : List ℕ) → take times_length l ≡ time_words p → (get_or l 0 0 ≡ tick (is_cyclic p) 0) × (get_or l 1 0 ≡ makespan p)
unfolding time_words
timed p l e = timed_by p l _ e

module _ (s : Slices) (p : Plan) (H : Held s p) where
  penalty_held : penalty_in s.base (routes_of p) p.base.jobs
      ≡ invalid_fixed p.base + (invalid_entries p + violations p) + assignment_penalty p
  unfolding penalty_in
  penalty_held = rw ((base_headed p.base s.base H.base).invalid, counts_sum p H.desk.sound, assigned_sum p H.desk.sound)

  penalty_whole : penalty_in s.base (routes_of p) p.base.jobs + cond (not (eqb (tick (is_cyclic p) 0) 0)) p.base.jobs 0 ≡ hard_penalty p
  unfolding hard_penalty cycle_penalty
  penalty_whole = go (is_cyclic p)
    where
      go : (b : Bool) → penalty_in s.base (routes_of p) p.base.jobs + cond (not (eqb (tick b 0) 0)) p.base.jobs 0
          ≡ invalid_fixed p.base + (invalid_entries p + (violations p + (assignment_penalty p + cond b p.base.jobs 0)))
      go true = let x = penalty_held in omega arith
      go false = let x = penalty_held in omega arith

  scored_plan : scored_in s.base (routes_of p) s.times p.base.jobs ≡ Ok (score p)
  unfolding scored_in score
  scored_plan =
      let (a, b) = timed p s.times H.times in
      let c : makespan p ≤ limit = (let x = makespan_few p H.desk.sound in omega arith) in
      rw (a, b, le-ltb limit (makespan p) c, penalty_whole)

  pub scored_held : {n : ℕ} {r : Result Score Refusal} → ScoredBy s.base s.routes s.times n r → n ≡ p.base.jobs → r ≡ Ok (score p)
  scored_held S q = S.is (routes_of p) H.desk.routes ∙ ap (scored_in s.base (routes_of p) s.times) q ∙ scored_plan
