-- What is handed out of words that hold a model. Assumes nothing.
use Rattle.std.specs.Prelude.{◌≡◌, ℕ, ◌+◌, ◌*◌, ◌≤◌, Bool, cond, not, List, ◌++◌, length, ◌==◌}
use Rattle.rules.specs.Lists.{is_zero, sum_of}
use Rattle.rules.specs.Sizes.{most_jobs, most_owners, most_entries}
use Rattle.rules.specs.Routes.{in_force}
use Rattle.routes.specs.Stops.{words}
use Rattle.routes.specs.Store.{Model, Holds, route_at, invalids}

-- s is the list l of the model that the words r hold, if they hold one; it is never longer than `most`
pub record Row (r : List ℕ) (most : ℕ) (l : Model → List ℕ) (s : List ℕ) : Type 0 where
  pub short : length s ≤ most
  pub is : (m : Model) → Holds r m → s ≡ l m

-- likewise, and always of this size
pub record Table (r : List ℕ) (size : ℕ) (l : Model → List ℕ) (s : List ℕ) : Type 0 where
  pub long : length s ≡ size
  pub is : (m : Model) → Holds r m → s ≡ l m

pub record Number (r : List ℕ) (most : ℕ) (f : Model → ℕ) (k : ℕ) : Type 0 where
  pub small : k ≤ most
  pub is : (m : Model) → Holds r m → k ≡ f m

abbrev pub Stopped : List ℕ → ℕ → List ℕ → Type 0
Stopped r o s = Row r most_entries (λ m. words (route_at m o).stops) s

abbrev pub Forced : List ℕ → ℕ → Type 0
Forced r k = Number r 65535 (λ m. in_force m.routes) k

abbrev pub Broken : List ℕ → ℕ → Bool → Type 0
Broken r o b = (m : Model) → Holds r m → b ≡ not (is_zero (route_at m o).invalid)

abbrev pub Faults : List ℕ → List ℕ → Type 0
Faults r f = Table r (most_owners + most_owners) (λ m. invalids m ++ m.violated) f

abbrev pub Assigned : List ℕ → List ℕ → Type 0
Assigned r a = Table r most_jobs (λ m. m.assigned) a

abbrev pub Waiting : List ℕ → List ℕ → Type 0
Waiting r w = Row r most_owners (λ m. m.waiting) w

-- in a put for owner o the waiting owner w gives up its stops, unless it is o
abbrev pub given_up : ℕ → ℕ → Model → ℕ
given_up o w m = cond (w == o) 0 (length (route_at m w).stops)

abbrev pub GivenUp : List ℕ → ℕ → ℕ → ℕ → Type 0
GivenUp r o w k = Number r most_entries (given_up o w) k

abbrev pub Freed : List ℕ → ℕ → ℕ → Type 0
Freed r o k = Number r (most_owners * most_entries) (λ m. sum_of (λ w. given_up o w m) m.waiting) k
