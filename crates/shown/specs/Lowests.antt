-- What the functions of the shown line_up promise. Assumes nothing.
use Rattle.std.specs.Prelude.{◌≡◌, ℕ, ◌<◌, ◌≤◌, Bool, true, false, List, ◌++◌, take, drop, ◌≢◌}
use Rattle.std.proofs.Math.Option.{none, some}
use Rattle.rules.specs.Lists.{Once}
use Rattle.rules.specs.Shown.{order}
use Rattle.rules.specs.Sizes.{most_jobs}
use Rattle.edges.specs.Edges.{Model, Holds}
use Rattle.graphs.specs.Graph.{at, live, Below}
use Rattle.graphs.specs.Degrees.{Picked}
use Rattle.starts.specs.Lines.{Lows}

-- the cursor: no job below `low` has degree 0
pub record Clear (low : ℕ) (deg : ℕ → ℕ) : Type 0 where
  pub none : (v : ℕ) → v < low → deg v ≢ 0

-- each job of vs has a predecessor less, and the cursor is right
pub record Lessens (vs : List ℕ) (low : ℕ) (d : List ℕ) (r : ℕ) (d' : List ℕ) : Type 0 where
  pub keeps : (n : ℕ) (pre : ℕ → List ℕ) (l rest : List ℕ) → n ≤ most_jobs → Once (vs ++ rest) → Lows n vs → Picked n pre l (vs ++ rest) (at d)
      → Clear low (at d) → Picked n pre l rest (at d') × Clear r (at d')

-- r is the next job of degree 0, or there is none below n
pub record Readies (d : List ℕ) (low n r : ℕ) : Type 0 where
  pub is : r < n → at d r ≡ 0
  pub clear : Clear low (at d) → Clear r (at d)

-- the rules' line_up, or there is none
abbrev pub Shown : Model → ℕ → List ℕ → Bool → Type 0
Shown m n o true = order n (live m) ≡ some (take n o)
Shown m n o false = order n (live m) ≡ none

-- n places are written or none, for any words; for those of a model they are the shown line_up
abbrev pub Written : ℕ → List ℕ → Bool → List ℕ → Type 0
Written n o true o' = drop n o' ≡ drop n o
Written n o false o' = o' ≡ o

pub record Lowest (e : List ℕ) (n : ℕ) (o : List ℕ) (r : Bool) (o' : List ℕ) : Type 0 where
  pub beyond : Written n o r o'
  pub is : (m : Model) → Holds e m → Below n m → Shown m n o' r
