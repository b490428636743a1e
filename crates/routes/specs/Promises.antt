-- What the writers promise of the plan that the words stand for. Assumes nothing.
use Rattle.std.specs.Prelude.{◌≡◌, ℕ, ◌<◌, ◌≤◌, Bool, true, false, List, map, length, take, ◌≢◌, slice_set, Result, Ok}
use Rattle.rules.specs.Lists.{Pair}
use Rattle.rules.specs.Sizes.{most_entries}
use Rattle.rules.specs.Routes.{Plan, Route, route_of, violations_of, in_force, wait}
use Rattle.rules.specs.Reports.{push, head_of}
use Rattle.rules.specs.Sound.{Read, Sound}
use Rattle.rules.specs.Steps.{staging, turning, unwaited}
use Rattle.edges.specs.Edges.{Holds as EdgesHold}
use Rattle.rules.specs.declared.Senseless.{Senseless}
use Rattle.routes.specs.Stops.{words}
use Rattle.routes.specs.Store.{Holds}
use Rattle.routes.specs.Raw.{Lies}
use Rattle.routes.specs.Desks.{routes_of, edges_of}

-- ── who waits ──

abbrev pub Retracted : List ℕ → ℕ → List ℕ → Result Unit Senseless → Type 0
Retracted r o r' d = (p : Plan) → Sound p → Holds r (routes_of p) → o < p.base.owners → (d ≡ Ok tt) × Holds r' (routes_of (wait o p))

abbrev pub Cleared : List ℕ → List ℕ → Type 0
Cleared r r' = (p : Plan) → Sound p → Holds r (routes_of p) → Holds r' (routes_of (unwaited p))

-- ── an owner's route ──

-- s are the words of a route x that owner o of p may get
pub record Gives (p : Plan) (o : ℕ) (s : List ℕ) (x : Route) : Type 0 where
  pub owner : o < p.base.owners
  pub reads : Read p.base.jobs x
  pub stops : s ≡ words x.stops
  pub room : in_force (slice_set p.desk.routes o x) ≤ most_entries

-- k stops have room in the place of owner o's; or of no plan can o get so many
abbrev pub Fits : List ℕ → ℕ → ℕ → Bool → Type 0
Fits r o k true = Lies r o k
Fits r o k false = (p : Plan) (s : List ℕ) (x : Route) → Sound p → Holds r (routes_of p) → Gives p o s x → k ≢ length s

-- the routes' words follow: i invalid entries, v violations
abbrev pub RoutesTurn : List ℕ → ℕ → List ℕ → ℕ → ℕ → List ℕ → Type 0
RoutesTurn r o s i v r' =
    (p : Plan) (x : Route) → Sound p → Holds r (routes_of p) → Gives p o s x → i ≡ x.invalid → v ≡ violations_of p.base o x
    → Holds r' (routes_of (turning p o x))

-- the jobs h queue what the heads of the edges l queue
abbrev pub Queues : List ℕ → List Pair → Type 0
Queues h l = (q : List ℕ) → push q h ≡ push q (map head_of l)

-- the edges' words follow; heads of what vanished and appeared are listed
pub record EdgesTurned (p : Plan) (o : ℕ) (x : Route) (e' went' came' : List ℕ) (a : Result (ℕ × ℕ) Senseless) : Type 0 where
  pub gone : List ℕ
  pub fresh : ℕ
  pub answer : a ≡ Ok (length gone, fresh)
  pub holds : EdgesHold e' (edges_of (turning p o x))
  pub went_listed : take (length gone) went' ≡ gone
  pub went_queues : Queues gone (staging p o x).went
  pub came_queues : Queues (take fresh came') (staging p o x).came

-- old and new are the words of the stops
pub record EdgesTurn (old new e e' went went' came' : List ℕ) (a : Result (ℕ × ℕ) Senseless) : Type 0 where
  pub short : (h c : ℕ) → a ≡ Ok (h, c) → (h ≤ length old) × (h ≤ length went) × (c ≤ length new)
  pub turned : (p : Plan) (o : ℕ) (x : Route) → Sound p → EdgesHold e (edges_of p) → old ≡ words (route_of p o).stops → Gives p o new x
      → length old ≤ length went → EdgesTurned p o x e' went' came' a
