-- What the functions that find distances promise. Assumes nothing.
use Rattle.std.specs.Prelude.{◌≡◌, ℕ, suc, ◌+◌, ◌≤◌, Bool, cond, ◌&&◌, List, [], ◌∷◌, ◌++◌, take, replicate, ◌==◌, nat_lt, slice_set}
use Rattle.rules.specs.Graphs.{Graph}
use Rattle.rules.specs.Sizes.{most_jobs}
use Rattle.edges.specs.Edges.{Model, Holds}
use Rattle.graphs.specs.Graph.{at, live, Below}
use Rattle.graphs.specs.Waves.{Distances, Meeting}

-- the jobs that are met, at the first `tail` places of a queue, and the distances
pub record Met : Type 0 where
  pub tail : ℕ
  pub queue : List ℕ
  pub dist : List ℕ

abbrev pub met : ℕ → List ℕ → List ℕ → Met
met tail q d = record { tail = tail; queue = q; dist = d }

-- w is a job that is not met, and there is a place for it
abbrev pub is_new : ℕ → ℕ → Met → Bool
is_new n w s = nat_lt w n && (at s.dist w == 0 && nat_lt s.tail most_jobs)

-- after the jobs of a list, each at distance y if it is new
abbrev pub meet_all : ℕ → ℕ → List ℕ → Met → Met
meet_all y n [] s = s
meet_all y n (w ∷ vs) s =
    meet_all y n vs (cond (is_new n w s) (met (s.tail + 1) (slice_set s.queue s.tail w) (slice_set s.dist w y)) s)

-- of the predecessors of the job that is passed those of vs are met, each at distance y unless it was met before
pub record Meets (vs : List ℕ) (y n tail : ℕ) (q d : List ℕ) (r : ℕ) (q' d' : List ℕ) : Type 0 where
  pub is : met r q' d' ≡ meet_all y n vs (met tail q d)
  pub short : r ≤ most_jobs
  pub keeps : (E : Graph) (v h x b : ℕ) (rest : List ℕ) → y ≡ suc b → Meeting n E v (take tail q) h x b (vs ++ rest) (at d)
      → Meeting n E v (take r q') h x b rest (at d')

-- where all distances are 0 at first, they are right at last
pub record Measures (e : List ℕ) (v n : ℕ) (d d' : List ℕ) : Type 0 where
  pub is : (m : Model) → Holds e m → Below n m → d ≡ replicate most_jobs 0 → Distances n (live m) v (at d')
