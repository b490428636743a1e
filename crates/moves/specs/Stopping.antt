-- An owner's route, as its jobs. Assumes nothing.
use Rattle.std.specs.Prelude.{ℕ, ◌/◌, ◌≤◌, ◌<◌, ◌≡◌, List, map, length, take, Result, Ok, Err}
use Rattle.rules.specs.declared.Refusal.{Refusal}
use Rattle.rules.specs.declared.Refusal.TheVariants.{BrokenRoute}
use Rattle.rules.specs.Routes.{jobs_of}
use Rattle.rules.specs.Sizes.{most_entries}
use Rattle.routes.specs.Store.{Holds, Model, route_at}

-- a stop's word is its job twice, and 1 more if it is joined
abbrev pub halves : List ℕ → List ℕ
halves l = map (λ x. x / 2) l

-- k jobs, those of the owner's unbroken route
pub record Whole (m : Model) (o k : ℕ) (jobs : List ℕ) : Type 0 where
  pub whole : (route_at m o).invalid ≡ 0
  pub long : k ≡ length (route_at m o).stops
  pub are : take k jobs ≡ jobs_of (route_at m o)

-- "The owner's route was put with an invalid entry"
abbrev pub StopsAre : List ℕ → ℕ → List ℕ → Result ℕ Refusal → Type 0
StopsAre l o jobs (Ok k) = (k ≤ most_entries) × ((m : Model) → Holds l m → Whole m o k jobs)
StopsAre l o jobs (Err r) = (r ≡ BrokenRoute) × ((m : Model) → Holds l m → 0 < (route_at m o).invalid)

pub record Stops (l : List ℕ) (o : ℕ) (r : Result ℕ Refusal) (jobs : List ℕ) : Type 0 where
  pub is : StopsAre l o jobs r
