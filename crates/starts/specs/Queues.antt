-- What the functions of the queue promise. Assumes nothing.
use Rattle.std.specs.Prelude.{◌≡◌, ℕ, ◌+◌, ◌-◌, ◌%◌, ◌<◌, ◌≤◌, ◌⊎◌, List, replicate, slice_index}
use Rattle.rules.specs.Reports.{push}
use Rattle.rules.specs.Sizes.{most_jobs}
use Rattle.graphs.specs.Queue.{ringed, Queued}
use Rattle.starts.specs.Lines.{Lows}
use Rattle.starts.specs.declared.queues.Queue.{Queue}

-- the k jobs from head on are queued, and they are q
abbrev pub Joined : ℕ → ℕ → List ℕ → List ℕ → List ℕ → ℕ → Type 0
Joined n head q ring mark k = Queued n mark (ringed ring head k) × (ringed ring head k ≡ q)

-- the jobs vs are queued behind those that are
pub record Joins (vs : List ℕ) (n head len : ℕ) (ring mark : List ℕ) (r : ℕ) (ring' mark' : List ℕ) : Type 0 where
  pub short : r ≤ most_jobs
  pub keeps : Lows n vs → Queued n mark (ringed ring head len) → Joined n head (push (ringed ring head len) vs) ring' mark' r

-- none of the jobs below n waits
pub record Fresh (n : ℕ) (q : Queue) : Type 0 where
  pub jobs : q.jobs ≡ n
  pub head : q.head ≡ 0
  pub len : q.len ≡ 0
  pub mark : q.mark ≡ replicate most_jobs 0

-- the jobs vs wait behind those that did
pub record Gains (vs : List ℕ) (q q' : Queue) : Type 0 where
  pub jobs : q'.jobs ≡ q.jobs
  pub head : q'.head ≡ q.head
  pub joins : Joins vs q.jobs q.head q.len q.ring q.mark q'.len q'.ring q'.mark

-- no job waits first
abbrev pub Stuck : Queue → Type 0
Stuck q = (q.len ≡ 0) ⊎ (q.jobs ≤ slice_index q.ring q.head)

-- v waits first, and is taken out
pub record Pops (q : Queue) (v : ℕ) (q' : Queue) : Type 0 where
  pub waits : 0 < q.len
  pub first : v ≡ slice_index q.ring q.head
  pub low : v < q.jobs
  pub jobs : q'.jobs ≡ q.jobs
  pub head : q'.head ≡ (q.head + 1) % most_jobs
  pub len : q'.len ≡ q.len - 1
  pub ring : q'.ring ≡ q.ring
  pub mark : q'.mark ≡ q.mark
