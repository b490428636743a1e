-- When a walk is sound, and what it then gives. Assumes nothing.
use Rattle.std.specs.Prelude.{ℕ, ◌+◌, ◌*◌, ◌≤◌, ◌<◌, ◌≡◌, true, false, List}
use Rattle.rules.specs.Lists.{Once, memb}
use Rattle.rules.specs.Scores.{best}
use Rattle.rules.specs.Sizes.{longest, most_jobs}
use Rattle.rules.specs.Solved.{Ranks}
use Rattle.edges.specs.Edges.{Model, Holds}
use Rattle.graphs.specs.Graph.{at, live, Below}

-- the words e hold the graph m of n jobs, which rank lines up, the durations sp are short and the floors f low
pub record Sound (e sp : List ℕ) (f : ℕ → ℕ) (n : ℕ) (m : Model) (rank : ℕ → ℕ) : Type 0 where
  pub holds : Holds e m
  pub below : Below n m
  pub spans : (u : ℕ) → u < n → at sp u ≤ longest
  pub floors : (u : ℕ) → f u ≤ longest
  pub ranks : Ranks n (live m) rank

-- while a walk mends the starts, none gets above this
abbrev pub ceiling : ℕ
ceiling = (most_jobs + most_jobs) * longest

-- the jobs q, each once, are all whose starts may be wrong
pub record Seeded (n : ℕ) (m : Model) (f : ℕ → ℕ) (sp st q : List ℕ) : Type 0 where
  pub once : Once q
  pub low : (v : ℕ) → memb v q ≡ true → v < n
  pub calm : (v : ℕ) → v < n → memb v q ≡ false → at st v ≡ best n (live m) f (at sp) (at st) v
  pub small : (v : ℕ) → v < n → at st v ≤ (most_jobs + 1) * longest
