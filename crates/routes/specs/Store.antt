-- The routes in force and the waiting owners, and the words that hold them. Assumes nothing.
use Rattle.std.specs.Prelude.{◌≡◌, ℕ, ◌+◌, ◌<◌, ◌≤◌, true, List, ◌∷◌, ◌++◌, map, length, slice_index_or}
use Rattle.rules.specs.Lists.{memb, Once}
use Rattle.rules.specs.Sizes.{most_jobs, most_owners, most_entries}
use Rattle.rules.specs.Routes.{Route, empty_route, jobs_of}
use Rattle.edges.specs.Rows.{offs, flat, pad}
use Rattle.routes.specs.Stops.{words}

-- where the tables lie; the offsets lie at 0
abbrev pub stops_at : ℕ
stops_at = most_owners + 1

abbrev pub invalid_at : ℕ
invalid_at = stops_at + most_entries

abbrev pub violated_at : ℕ
violated_at = invalid_at + most_owners

abbrev pub assigned_at : ℕ
assigned_at = violated_at + most_owners

abbrev pub waiters_at : ℕ
waiters_at = assigned_at + most_jobs

abbrev pub waiting_at : ℕ
waiting_at = waiters_at + 1

-- of each owner the route in force and its violations, of each job how often it is in force, and who waits
pub record Model : Type 0 where
  pub routes : List Route
  pub violated : List ℕ
  pub assigned : List ℕ
  pub waiting : List ℕ

abbrev pub route_at : Model → ℕ → Route
route_at m o = slice_index_or m.routes o empty_route

abbrev pub row : Route → List ℕ
row r = words r.stops

abbrev pub rows : Model → List (List ℕ)
rows m = map row m.routes

abbrev pub invalid_in : Route → ℕ
invalid_in r = r.invalid

abbrev pub invalids : Model → List ℕ
invalids m = map invalid_in m.routes

-- the tables one after the other; the last is how many wait, and who
unfoldable pub lay : (offsets stops invalid violated assigned waiting : List ℕ) → List ℕ
lay a b c d e f = a ++ (b ++ (c ++ (d ++ (e ++ f))))

abbrev pub waiters : List ℕ → List ℕ
waiters w = length w ∷ pad most_owners w

unfoldable pub encode : Model → List ℕ
encode m = lay (offs 0 (rows m)) (pad most_entries (flat (rows m))) (invalids m) m.violated m.assigned (waiters m.waiting)

-- a route of jobs that the tables have room for
abbrev pub Low : Route → Type 0
Low r = (v : ℕ) → memb v (jobs_of r) ≡ true → v < most_jobs

pub record Wf (m : Model) : Type 0 where
  pub owners : length m.routes ≡ most_owners
  pub room : length (flat (rows m)) ≤ most_entries
  pub low : (o : ℕ) → Low (route_at m o)
  pub violated : length m.violated ≡ most_owners
  pub assigned : length m.assigned ≡ most_jobs
  pub once : Once m.waiting
  pub small : (v : ℕ) → memb v m.waiting ≡ true → v < most_owners

pub record Holds (l : List ℕ) (m : Model) : Type 0 where
  pub words : l ≡ encode m
  pub wf : Wf m
