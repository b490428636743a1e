-- What a put answers and leaves. Assumes nothing.
use Rattle.std.specs.Prelude.{ℕ, ◌≤◌, ◌<◌, ◌≡◌, ◌⊎◌, List, length, take, Result, Ok, Err}
use Rattle.rules.specs.declared.Refusal.{Refusal}
use Rattle.rules.specs.declared.Report.{Report}
use Rattle.rules.specs.declared.Refusal.TheVariants.{NoRoom, BadStore}
use Rattle.rules.specs.Sizes.{most_entries, base_length}
use Rattle.rules.specs.Routes.{Plan, put_plan, in_force}
use Rattle.rules.specs.Scores.{score, minus_of}
use Rattle.rules.specs.Reports.{put_report}
use Rattle.rules.specs.Calls.{Reply, changed}
use Rattle.routes.specs.Desks.{Desked}
use Rattle.times.specs.Words.{span_words, time_words}
use Rattle.refresh.specs.declared.put.Change.{Change}
use Rattle.stores.specs.Words.{base_words}
use Rattle.stores.specs.Promise.{Slices}
use Rattle.stores.specs.Says.{says}

-- put: the score change and the report
abbrev pub says_changed : Result Change Refusal → Reply
says_changed = says (λ c. changed c.score c.report)

-- slices cut to their constants hold the words of the plan p; the base may be longer
pub record Worded (s : Slices) (p : Plan) : Type 0 where
  pub base : take base_length s.base ≡ base_words p.base
  pub spans : s.spans ≡ span_words p.base
  pub desk : Desked s.routes s.edges p
  pub times : s.times ≡ time_words p

-- owner o may put the entries l, unless there is no room for them
pub record Puts (s : Slices) (n o : ℕ) (l : List ℕ) (p : Plan) : Type 0 where
  pub worded : Worded s p
  pub jobs : n ≡ p.base.jobs
  pub owner : o < p.base.owners
  pub few : length l ≤ most_entries

-- with room: the report, and the words of the plan after the put
pub record FollowDone (s' : Slices) (o : ℕ) (l : List ℕ) (x : Result Report Refusal) (p : Plan) : Type 0 where
  pub reports : x ≡ Ok (put_report p o l)
  pub worded : Worded s' (put_plan p o l)

pub record Follows (s s' : Slices) (n o : ℕ) (l : List ℕ) (x : Result Report Refusal) : Type 0 where
  pub done : (p : Plan) → Puts s n o l p → in_force (put_plan p o l).desk.routes ≤ most_entries → FollowDone s' o l x p
  pub full : (p : Plan) → Puts s n o l p → most_entries < in_force (put_plan p o l).desk.routes → (x ≡ Err NoRoom) × (s' ≡ s)
  -- of any words: 12, or 7 and nothing was written
  pub stays : (k : Refusal) → x ≡ Err k → (k ≡ BadStore) ⊎ ((k ≡ NoRoom) × (s' ≡ s))

-- "Returns score after minus score before, part by part."
pub record ChangeDone (s' : Slices) (o : ℕ) (l : List ℕ) (x : Result Change Refusal) (p : Plan) : Type 0 where
  pub says : x ≡ Ok (record { score = minus_of (score (put_plan p o l)) (score p); report = put_report p o l })
  pub worded : Worded s' (put_plan p o l)

pub record Changes (s s' : Slices) (n o : ℕ) (l : List ℕ) (x : Result Change Refusal) : Type 0 where
  pub done : (p : Plan) → Puts s n o l p → in_force (put_plan p o l).desk.routes ≤ most_entries → ChangeDone s' o l x p
  pub full : (p : Plan) → Puts s n o l p → most_entries < in_force (put_plan p o l).desk.routes → (x ≡ Err NoRoom) × (s' ≡ s)
  pub stays : (k : Refusal) → x ≡ Err k → (k ≡ BadStore) ⊎ ((k ≡ NoRoom) × (s' ≡ s))
