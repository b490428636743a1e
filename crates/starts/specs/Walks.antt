-- What the functions of the walk promise; f is each job's floor. Assumes nothing.
use Rattle.std.specs.Prelude.{◌≡◌, ℕ, ◌+◌, ◌*◌, ◌/◌, ◌≤◌, cond, List, [], ◌∷◌, drop, ◌==◌, slice_set}
use Rattle.rules.specs.Reports.{push, tri, walk}
use Rattle.rules.specs.Scores.{best}
use Rattle.rules.specs.Sizes.{most_jobs}
use Rattle.rules.specs.Solved.{Solves}
use Rattle.edges.specs.Edges.{Model, Holds}
use Rattle.edges.specs.Lists.{out_of}
use Rattle.graphs.specs.Graph.{at, live, Below}
use Rattle.graphs.specs.Queue.{ringed, Queued}
use Rattle.graphs.specs.Sound.{Sound, Seeded}
use Rattle.starts.specs.Pulls.{Low}
use Rattle.starts.specs.Queues.{Joined}

-- n(n+1)/2 at the most jobs
abbrev pub most_visits : ℕ
most_visits = most_jobs * (most_jobs + 1) / 2

pub record Visited (n : ℕ) (m : Model) (sp : List ℕ) (f : ℕ → ℕ) (st : List ℕ) (v head : ℕ) (q : List ℕ) (r : ℕ)
    (st' ring' mark' : List ℕ) : Type 0 where
  pub queue : Joined n head (cond (best n (live m) f (at sp) (at st) v == at st v) q (push q (out_of m v))) ring' mark' r
  pub start : st' ≡ slice_set st v (best n (live m) f (at sp) (at st) v)

pub record Visit (e sp : List ℕ) (f : ℕ → ℕ) (st : List ℕ) (v n head len : ℕ) (ring mark : List ℕ) (r : ℕ)
    (st' ring' mark' : List ℕ) : Type 0 where
  pub short : r ≤ most_jobs
  pub beyond : drop n st' ≡ drop n st
  pub keeps : (m : Model) → Holds e m → Below n m → Low m sp st v → Queued n mark (v ∷ ringed ring head len)
      → Visited n m sp f st v head (ringed ring head len) r st' ring' mark'

-- the walk of the rules, from the seeds q: nothing is left in its queue
pub record Walk (n : ℕ) (m : Model) (sp : List ℕ) (f : ℕ → ℕ) (st q : List ℕ) (r : ℕ) (st' : List ℕ) : Type 0 where
  pub visits : r ≡ (walk n (out_of m) f (at sp) (tri n) q (at st)).visits
  pub starts : at st' ≡ (walk n (out_of m) f (at sp) (tri n) q (at st)).starts
  pub left : (walk n (out_of m) f (at sp) (tri n) q (at st)).left ≡ []
  pub solves : Solves n (live m) f (at sp) (at st')

-- "The visits never exceed n(n+1)/2.", whatever the words are; the seeds are the jobs vs, each once
pub record Walks (e sp : List ℕ) (f : ℕ → ℕ) (st vs : List ℕ) (n r : ℕ) (st' : List ℕ) : Type 0 where
  pub beyond : drop n st' ≡ drop n st
  pub few : r ≤ tri n
  pub is : (m : Model) (rank : ℕ → ℕ) → Sound e sp f n m rank → Seeded n m f sp st (push [] vs) → Walk n m sp f st (push [] vs) r st'
