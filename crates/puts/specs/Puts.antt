-- What a put promises: of the words for any contents, and of the plan that they stand for. Assumes nothing.
use Rattle.std.specs.Prelude.{ℕ, ◌≤◌, ◌<◌, ◌≡◌, Bool, cond, List, [], ◌++◌, map, eqb, ltb, length, take, Result, Ok, Err, ◌⊎◌}
use Rattle.rules.specs.Sizes.{most_entries}
use Rattle.rules.specs.Routes.{Plan, Route, empty_route, route_of, violations_of, in_force, read, emptied, own_stage, put_plan}
use Rattle.rules.specs.Reports.{push, head_of, seeds}
use Rattle.rules.specs.Sound.{Sound}
use Rattle.rules.specs.Steps.{staging, turning, amid, unwaited}
use Rattle.rules.specs.declared.Refusal.{Refusal}
use Rattle.rules.specs.declared.Refusal.TheVariants.{NoRoom, BadStore}
use Rattle.rules.specs.declared.Senseless.{Senseless}
use Rattle.puts.specs.declared.put.Heads.{Heads}
use Rattle.routes.specs.Stops.{words}
use Rattle.routes.specs.Store.{Holds}
use Rattle.routes.specs.Snapped.{Stated}
use Rattle.routes.specs.Desks.{routes_of, Desked}
use Rattle.routes.specs.Promises.{Gives, Queues, EdgesTurned}

-- ── an owner's route ──

-- both slices stand for the plan with x as owner o's route; the heads of what vanished and appeared are listed
pub record Turned (p : Plan) (o : ℕ) (x : Route) (r' e' went' came' : List ℕ) (a : Result (ℕ × ℕ) Senseless) : Type 0 where
  pub edges : EdgesTurned p o x e' went' came' a
  pub desked : Desked r' e' (turning p o x)
  pub few : length edges.gone ≤ length (route_of p o).stops

-- s are the stops, with i invalid entries and v violations
pub record RouteTurn (r e : List ℕ) (o : ℕ) (s : List ℕ) (i v : ℕ) (r' e' went went' came' : List ℕ) (a : Result (ℕ × ℕ) Senseless)
    : Type 0 where
  pub short : (h c : ℕ) → a ≡ Ok (h, c) → (h ≤ length went) × (c ≤ length s)
  pub turned : (p : Plan) (x : Route) → Desked r e p → Gives p o s x → i ≡ x.invalid → v ≡ violations_of p.base o x
      → length (route_of p o).stops ≤ length went → Turned p o x r' e' went' came' a

-- ── the waiting owners ──

-- however the words are, the heads fit
abbrev pub Within : Result ℕ Senseless → List ℕ → Type 0
Within a went = (h : ℕ) → a ≡ Ok h → h ≤ length went

-- the waiting owner w was emptied, unless it is o
pub record Emptier (p : Plan) (o w : ℕ) (r' e' went' : List ℕ) (a : Result ℕ Senseless) : Type 0 where
  pub gone : List ℕ
  pub answer : a ≡ Ok (length gone)
  pub listed : take (length gone) went' ≡ gone
  pub desked : Desked r' e' (cond (eqb w o) p (turning p w empty_route))
  pub queues : Queues gone (cond (eqb w o) [] (staging p w empty_route).went)
  pub few : length gone ≤ cond (eqb w o) 0 (length (route_of p w).stops)

pub record OneEmptied (r e : List ℕ) (w o : ℕ) (r' e' went went' : List ℕ) (a : Result ℕ Senseless) : Type 0 where
  pub within : Within a went
  pub emptier : (p : Plan) → Desked r e p → w < p.base.owners → length (route_of p w).stops ≤ length went → Emptier p o w r' e' went' a

-- all were emptied, which leaves the plan q
pub record Freely (p : Plan) (o : ℕ) (q : Plan) (r' e' went' : List ℕ) (a : Result ℕ Senseless) : Type 0 where
  pub count : ℕ
  pub answer : a ≡ Ok count
  pub desked : Desked r' e' q
  pub queues : Queues (take count went') (emptied p o).went
  pub few : count ≤ most_entries

pub record EachEmptied (r e row : List ℕ) (o : ℕ) (r' e' went went' : List ℕ) (a : Result ℕ Senseless) : Type 0 where
  pub within : Within a went
  pub freely : (p : Plan) → Desked r e p → row ≡ p.desk.waiting → Freely p o (amid p (emptied p o)) r' e' went' a

-- and nobody waits any more
pub record AllEmptied (r e : List ℕ) (o : ℕ) (r' e' went went' : List ℕ) (a : Result ℕ Senseless) : Type 0 where
  pub within : Within a went
  pub freely : (p : Plan) → Desked r e p → Freely p o (unwaited (amid p (emptied p o))) r' e' went' a

-- ── the put ──

-- with k valid entries for owner o there is no room
abbrev pub Crowded : List ℕ → ℕ → ℕ → Bool → Type 0
Crowded r o k b = (p : Plan) (l : List ℕ) → Sound p → Holds r (routes_of p) → o < p.base.owners → k ≡ length (read p.base.jobs l).stops
    → b ≡ ltb most_entries (in_force (put_plan p o l).desk.routes)

abbrev pub PutWithin : {E : Type 0} → Result Heads E → ℕ → ℕ → ℕ → Type 0
PutWithin (Ok h) i j k = (h.came ≤ i) × (h.went ≤ j) × (h.gone ≤ k)
PutWithin (Err x) i j k = Unit {0}

-- owner o's route is the entries l, and so many heads are listed
pub record PutDone {E : Type 0} (p : Plan) (o : ℕ) (l r' e' came' went' gone' : List ℕ) (a : Result Heads E) : Type 0 where
  pub heads : Heads
  pub answer : a ≡ Ok heads
  pub desked : Desked r' e' (put_plan p o l)
  pub queued : push [] (take heads.came came' ++ (take heads.went went' ++ take heads.gone gone')) ≡ seeds p o l
  pub few_came : heads.came ≤ most_entries
  pub few_went : heads.went ≤ most_entries
  pub few_gone : heads.gone ≤ most_entries
  pub came_queued : push [] (take heads.came came') ≡ push [] (map head_of (own_stage p o l).came)

-- the entries l as the stops s, i invalid ones and v violations
pub record Entered (p : Plan) (o : ℕ) (s : List ℕ) (i v : ℕ) (l : List ℕ) : Type 0 where
  pub owner : o < p.base.owners
  pub entries : length l ≤ most_entries
  pub stops : s ≡ words (read p.base.jobs l).stops
  pub invalid : i ≡ (read p.base.jobs l).invalid
  pub violations : v ≡ violations_of p.base o (read p.base.jobs l)
  pub room : in_force (put_plan p o l).desk.routes ≤ most_entries

pub record StopsPut (r e : List ℕ) (o : ℕ) (s : List ℕ) (i v : ℕ) (r' e' came came' went went' gone gone' : List ℕ)
    (a : Result Heads Senseless) : Type 0 where
  pub within : PutWithin a (length came) (length went) (length gone)
  pub done : (p : Plan) (l : List ℕ) → Desked r e p → Entered p o s i v l → PutDone p o l r' e' came' went' gone' a

-- what a put is asked of a plan
pub record Asked (r e : List ℕ) (p : Plan) (expected : List ℕ) (n o : ℕ) : Type 0 where
  pub desked : Desked r e p
  pub owner : o < p.base.owners
  pub jobs : n ≡ p.base.jobs
  pub stated : Stated n expected p.base

pub record PutPromised (r e expected : List ℕ) (n o : ℕ) (l r' e' came came' went went' gone gone' : List ℕ)
    (a : Result Heads Refusal) : Type 0 where
  pub within : PutWithin a (length came) (length went) (length gone)
  pub done : (p : Plan) → Asked r e p expected n o → in_force (put_plan p o l).desk.routes ≤ most_entries
      → PutDone p o l r' e' came' went' gone' a
  pub full : (p : Plan) → Asked r e p expected n o → most_entries < in_force (put_plan p o l).desk.routes
      → (a ≡ Err NoRoom) × (r' ≡ r) × (e' ≡ e)
  -- of any words: without room nothing was written
  pub stays : a ≡ Err NoRoom → (r' ≡ r) × (e' ≡ e)
  -- and there is one other refusal
  pub refuses : (k : Refusal) → a ≡ Err k → (k ≡ BadStore) ⊎ (k ≡ NoRoom)
