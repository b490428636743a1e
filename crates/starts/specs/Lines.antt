-- What the functions of a line_up promise. Assumes nothing.
use Rattle.std.specs.Prelude.{◌≡◌, ℕ, suc, ◌+◌, ◌<◌, ◌≤◌, Bool, true, false, List, [], ◌++◌, length, take}
use Rattle.std.proofs.Math.Option.{none}
use Rattle.rules.specs.Graphs.{LineUp}
use Rattle.rules.specs.Lists.{Once, memb}
use Rattle.rules.specs.Shown.{order}
use Rattle.rules.specs.Sizes.{most_jobs}
use Rattle.edges.specs.Edges.{Model, Holds}
use Rattle.edges.specs.Lists.{pre_of}
use Rattle.graphs.specs.Graph.{at, live, Below}
use Rattle.graphs.specs.Degrees.{Kahn}

abbrev pub Lows : ℕ → List ℕ → Type 0
Lows n l = (v : ℕ) → memb v l ≡ true → v < n

-- of each job of vs a predecessor is passed
pub record Tells (vs : List ℕ) (tail : ℕ) (o d : List ℕ) (r : ℕ) (o' d' : List ℕ) : Type 0 where
  pub short : r ≤ most_jobs
  pub keeps : (pre : ℕ → List ℕ) (n h : ℕ) (rest : List ℕ) → n ≤ most_jobs → Once (vs ++ rest) → Lows n vs
      → Kahn pre n (take tail o) h (vs ++ rest) (at d) → Kahn pre n (take r o') h rest (at d')

pub record Enters (v k tail : ℕ) (o d : List ℕ) (r : ℕ) (o' d' : List ℕ) : Type 0 where
  pub short : r ≤ v + 1
  pub keeps : (pre : ℕ → List ℕ) → k ≡ length (pre v) → Kahn pre v (take tail o) 0 [] (at d) → Kahn pre (suc v) (take r o') 0 [] (at d')

-- of the jobs below v, `tail` are placed and the first h of them passed
pub record Lined (e : List ℕ) (n v h tail : ℕ) (o d : List ℕ) : Type 0 where
  pub short : tail ≤ most_jobs
  pub keeps : (m : Model) → Holds e m → Below n m → Kahn (pre_of m) v (take tail o) h [] (at d)

-- what a line-up's answer says: a line_up, or there is none
abbrev pub LinedUp : Model → ℕ → List ℕ → Bool → Type 0
LinedUp m n o true = LineUp n (live m) (take n o)
LinedUp m n o false = order n (live m) ≡ none

-- the same, but for which line_up
abbrev pub Verdict : Model → ℕ → Bool → Type 0
Verdict m n true = (l : List ℕ) × LineUp n (live m) l
Verdict m n false = order n (live m) ≡ none

pub record Lines (e : List ℕ) (n : ℕ) (r : Bool) (o' : List ℕ) : Type 0 where
  pub is : (m : Model) → Holds e m → Below n m → LinedUp m n o' r
