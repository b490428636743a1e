-- Latest starts, and which jobs are critical. Assumes nothing.
use Rattle.std.specs.Prelude.{◌≡◌, ℕ, ◌-◌, ◌<◌, min, cond, List, take, ◌==◌, nat_le}
use Rattle.rules.specs.Blocks.{latest_by}
use Rattle.rules.specs.Graphs.{LineUp}
use Rattle.rules.specs.Lists.{least, tick}
use Rattle.edges.specs.Edges.{Model, Holds}
use Rattle.graphs.specs.Graph.{at, live, Below}

-- b, or the latest start of job w if that is less
unfoldable pub lower_of : List ℕ → ℕ → ℕ → ℕ → ℕ
lower_of late n b w = cond (nat_le n w) b (min (at late w) b)

-- what `latest` answers: "the least latest start of a successor, minus own duration"
pub record Late (e sp late : List ℕ) (v n top r : ℕ) : Type 0 where
  pub is : (m : Model) → Holds e m → Below n m → r ≡ least n (live m v) (at late) top - at sp v

-- the rules' latest start of job v, where top is the makespan
abbrev pub latest_of : Model → List ℕ → ℕ → ℕ → ℕ → ℕ
latest_of m sp n top v = latest_by n (live m) (at sp) top n v

-- "Critical: earliest equals latest.": those have the mark 1, the others 0
abbrev pub Marks : Model → List ℕ → List ℕ → ℕ → ℕ → List ℕ → Type 0
Marks m sp st n top c = (v : ℕ) → v < n → at c v ≡ tick (at st v == latest_of m sp n top v) 0

-- a line_up gives every mark
pub record Latests (e sp st o : List ℕ) (n top : ℕ) (c : List ℕ) : Type 0 where
  pub are : (m : Model) → Holds e m → Below n m → LineUp n (live m) (take n o) → Marks m sp st n top c

pub record Criticals (e sp st : List ℕ) (top n : ℕ) (c : List ℕ) : Type 0 where
  pub are : (m : Model) → Holds e m → Below n m → (l : List ℕ) → LineUp n (live m) l → Marks m sp st n top c
