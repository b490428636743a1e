-- Not of document 01: what an accepted load and every call behind it leave of a plan. `Sound` says it all; a store is promised to hold
-- a sound plan.
use Rattle.std.specs.Prelude.{ℕ, ◌+◌, ◌≤◌, ◌<◌, ◌≡◌, true, false, not, List, [], ◌∷◌, map, length, get_or}
use Rattle.rules.specs.Lists.{Once, Pair, is_zero, memb}
use Rattle.rules.specs.Sizes.{Base, duration, falls, longest, most_entries, most_fixed, most_jobs, most_owners, valid_fixed}
use Rattle.rules.specs.Routes.{Heads, Plan, Route, Stop, empty_route, holders, in_force, outs, turned}

-- ── the load ──

-- edges between jobs below n
abbrev pub Inside : ℕ → List Pair → Type 0
Inside n [] = Unit {0}
Inside n (e ∷ l) = (e.0 < n) × (e.1 < n) × Inside n l

-- what an accepted load leaves of its arguments
pub record Loaded (b : Base) : Type 0 where
  pub jobs : b.jobs ≤ most_jobs
  pub owners : b.owners ≤ most_owners
  pub fixed : length b.fixed ≤ most_fixed
  pub durations : length b.durations ≡ b.jobs
  pub short : (v : ℕ) → duration b v ≤ longest
  pub inside : Inside b.jobs (valid_fixed b)
  pub rising : falls 0 (map (λ (e : Pair). e.0) b.fixed) ≡ false

-- ── the stored lists of edges ──

-- n lists, none with a job twice
pub record Tidy (n : ℕ) (t : Heads) : Type 0 where
  pub size : length t ≡ n
  pub once : (u : ℕ) → Once (outs t u)

-- the lists of t are those of the counts c
pub record Kept (n : ℕ) (c : Pair → ℕ) (t : Heads) : Type 0 where
  pub tidy : Tidy n t
  pub held : (u v : ℕ) → memb v (outs t u) ≡ not (is_zero (c (u, v)))

-- ── the routes ──

-- the jobs of a route's stops are below n
abbrev pub LowStops : ℕ → List Stop → Type 0
LowStops n [] = Unit {0}
LowStops n (s ∷ l) = (s.0 < n) × LowStops n l

-- the first stop is joined to none
abbrev pub Apart : List Stop → Type 0
Apart [] = Unit {0}
Apart (s ∷ l) = s.1 ≡ false

-- every stop but the first is joined to the one before it
abbrev pub Joined : List Stop → Type 0
Joined [] = Unit {0}
Joined (a ∷ []) = Unit {0}
Joined (a ∷ b ∷ l) = (b.1 ≡ true) × Joined (b ∷ l)

-- a route in force of a plan of n jobs
pub record Read (n : ℕ) (r : Route) : Type 0 where
  pub low : LowStops n r.stops
  pub apart : Apart r.stops
  pub joined : r.invalid ≡ 0 → Joined r.stops
  pub few : length r.stops + r.invalid ≤ most_entries

-- the routes l, each of which can be in force
abbrev pub Reads : ℕ → List Route → Type 0
Reads n l = (o : ℕ) → Read n (get_or l o empty_route)

-- ── the plan ──

-- its load is one that was accepted; the lists hold an edge, by its tail and by its head, exactly while its count is above 0; every owner has
-- a route that can be in force; all of them have room; owners that wait are owners, each once
pub record Sound (p : Plan) : Type 0 where
  pub loaded : Loaded p.base
  pub kept : Kept p.base.jobs (holders p.base p.desk.routes) p.desk.heads
  pub kept_tails : Kept p.base.jobs (λ e. holders p.base p.desk.routes (turned e)) p.desk.tails
  pub rows : length p.desk.routes ≡ p.base.owners
  pub reads : Reads p.base.jobs p.desk.routes
  pub room : in_force p.desk.routes ≤ most_entries
  pub waits : (w : ℕ) → memb w p.desk.waiting ≡ true → w < p.base.owners
  pub once : Once p.desk.waiting
