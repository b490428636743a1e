-- What the functions of the shown cycle promise. Assumes nothing.
use Rattle.std.specs.Prelude.{◌≡◌, ℕ, zero, suc, ◌<◌, ◌≤◌, List, take, drop}
use Rattle.std.proofs.Math.Option.{none, some}
use Rattle.rules.specs.Lists.{first}
use Rattle.rules.specs.Shown.{closes, cycle, trail}
use Rattle.edges.specs.Edges.{Model, Holds}
use Rattle.graphs.specs.Graph.{at, live, Below}
use Rattle.graphs.specs.Waves.{Distances, Tight}

-- the first x places hold the lowest trail of x edges from v back to v
pub record Traces (e : List ℕ) (v n : ℕ) (d : List ℕ) (x : ℕ) (o o' : List ℕ) : Type 0 where
  pub beyond : drop x o' ≡ drop x o
  pub is : (m : Model) → Holds e m → Below n m → Distances n (live m) v (at d) → (0 < x → Tight n (live m) v x v)
      → take x o' ≡ trail n (live m) x v v

-- no cycle leads through v, or o begins with the lowest of the shortest
abbrev pub Closed : Model → ℕ → ℕ → List ℕ → ℕ → Type 0
Closed m n v o zero = first n (closes n (live m) v) ≡ none
Closed m n v o (suc k) = (first n (closes n (live m) v) ≡ some k) × (take (suc k) o ≡ trail n (live m) (suc k) v v)

pub record Closes (e : List ℕ) (v n : ℕ) (o : List ℕ) (r : ℕ) (o' : List ℕ) : Type 0 where
  pub within : r ≤ n
  pub beyond : drop r o' ≡ drop r o
  pub is : (m : Model) → Holds e m → Below n m → Closed m n v o' r

-- there is no cycle, or o begins with the rules' cycle
abbrev pub Looped : Model → ℕ → List ℕ → ℕ → Type 0
Looped m n o zero = cycle n (live m) ≡ none
Looped m n o (suc k) = cycle n (live m) ≡ some (take (suc k) o)

-- r places are written, for any words; for those of a model they are the shown cycle
pub record Cycles (e : List ℕ) (n : ℕ) (o : List ℕ) (r : ℕ) (o' : List ℕ) : Type 0 where
  pub within : r ≤ n
  pub beyond : drop r o' ≡ drop r o
  pub is : (m : Model) → Holds e m → Below n m → Looped m n o' r
