-- What the functions promise that set the times. Assumes nothing.
use Rattle.std.specs.Prelude.{◌≡◌, ℕ, ◌+◌, ◌%◌, ◌^◌, ◌<◌, ◌≤◌, true, false, List, [], map, length, slice_index}
use Rattle.rules.specs.declared.Report.{Report}
use Rattle.rules.specs.declared.Report.TheVariants.{Full}
use Rattle.rules.specs.Lists.{greatest, is_empty}
use Rattle.rules.specs.Sizes.{most_entries}
use Rattle.rules.specs.Routes.{Plan, put_plan, in_force, own_stage}
use Rattle.rules.specs.Scores.{is_cyclic}
use Rattle.rules.specs.Reports.{head_of, push, seeds, put_report}
use Rattle.rules.specs.Sound.{Sound}
use Rattle.edges.specs.Edges.{Holds}
use Rattle.edges.specs.Plans.{edges_of}
use Rattle.times.specs.Words.{span_words, time_words}

-- ── the makespan ──

-- when job v ends; ends of 2^64 and more wrap around
abbrev pub end_of : List ℕ → List ℕ → ℕ → ℕ
end_of sp st v = (slice_index st v + slice_index sp v) % 2 ^ 64

-- the latest end of the first n jobs
unfoldable pub latest_of : List ℕ → List ℕ → ℕ → ℕ
latest_of sp st n = greatest n (λ v. true) (end_of sp st)

-- ── all anew ──

-- the words e and sp are those of a plan
pub record Given (p : Plan) (e sp : List ℕ) (n : ℕ) : Type 0 where
  pub sound : Sound p
  pub edges : Holds e (edges_of p)
  pub spans : sp ≡ span_words p.base
  pub jobs : n ≡ p.base.jobs

pub record Renewed (p : Plan) (r : Report) (ts' : List ℕ) : Type 0 where
  pub report : r ≡ Full
  pub times : ts' ≡ time_words p

pub record Renews (e sp : List ℕ) (n : ℕ) (r : Report) (ts' : List ℕ) : Type 0 where
  pub is : (p : Plan) → Given p e sp n → Renewed p r ts'

-- ── a put ──

-- owner o puts the entries l: the words sp are those of the plan p, the edges e those after the put
pub record Putting (p : Plan) (o : ℕ) (l e sp : List ℕ) (n : ℕ) : Type 0 where
  pub sound : Sound p
  pub owner : o < p.base.owners
  pub few : length l ≤ most_entries
  pub room : in_force (put_plan p o l).desk.routes ≤ most_entries
  pub edges : Holds e (edges_of (put_plan p o l))
  pub spans : sp ≡ span_words p.base
  pub jobs : n ≡ p.base.jobs

-- the put's report, and the times after it
pub record Refreshed (p : Plan) (o : ℕ) (l : List ℕ) (r : Report) (ts' : List ℕ) : Type 0 where
  pub report : r ≡ put_report p o l
  pub times : ts' ≡ time_words (put_plan p o l)

-- without a cycle before and after, from the heads of the edges that came and went
pub record Mends (e sp ts heads : List ℕ) (n : ℕ) (r : Report) (ts' : List ℕ) : Type 0 where
  pub is : (p : Plan) (o : ℕ) (l : List ℕ) → Putting p o l e sp n → ts ≡ time_words p → push [] heads ≡ seeds p o l
      → is_empty (seeds p o l) ≡ false → is_cyclic p ≡ false → is_cyclic (put_plan p o l) ≡ false → Refreshed p o l r ts'

-- from the heads of the edges that came and went, and of those that came
pub record Refreshes (e sp ts heads new : List ℕ) (n : ℕ) (r : Report) (ts' : List ℕ) : Type 0 where
  pub is : (p : Plan) (o : ℕ) (l : List ℕ) → Putting p o l e sp n → ts ≡ time_words p → push [] heads ≡ seeds p o l
      → push [] new ≡ push [] (map head_of (own_stage p o l).came) → Refreshed p o l r ts'
