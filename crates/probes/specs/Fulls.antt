-- What the functions of the full check promise. Assumes nothing.
use Rattle.std.specs.Prelude.{◌≡◌, ℕ, zero, suc, ◌+◌, ◌<◌, ◌≤◌, Bool, List, [], ◌∷◌, take}
use Rattle.rules.specs.Graphs.{Graph}
use Rattle.rules.specs.Lists.{Once, count, is_some, keep, memb}
use Rattle.rules.specs.Routes.{edge}
use Rattle.rules.specs.Scores.{times_in}
use Rattle.rules.specs.Shown.{order}
use Rattle.rules.specs.Sizes.{most_jobs}
use Rattle.edges.specs.Edges.{Model, Holds}
use Rattle.edges.specs.Lists.{out_of}
use Rattle.graphs.specs.Degrees.{Kahn}
use Rattle.graphs.specs.Graph.{at}
use Rattle.starts.specs.Lines.{Lows}
use Rattle.probes.specs.Aheads.{heads_on}
use Rattle.probes.specs.declared.chain.Chain.{Chain}

-- of a job's edges in a model where they lead
abbrev pub on_outs : Model → Chain → Chain → ℕ → List ℕ
on_outs m off plus u = heads_on (out_of m u) off plus u

-- the edges that are on
abbrev pub on_edge : Model → Chain → Chain → Graph
on_edge m off plus = edge (on_outs m off plus)

-- the edges' words and two sets stand for lists of heads of n jobs: none twice, and all below n
pub record OnGraph (e : List ℕ) (off plus : Chain) (n : ℕ) (m : Model) : Type 0 where
  pub holds : Holds e m
  pub once : (u : ℕ) → u < n → Once (on_outs m off plus u)
  pub low : (u : ℕ) → u < n → Lows n (on_outs m off plus u)

-- ── how many edges lead to each job ──

pub record Bumps (vs : List ℕ) (d d' : List ℕ) : Type 0 where
  pub adds : (w : ℕ) → w < most_jobs → at d w + times_in w vs ≤ most_jobs → at d' w ≡ at d w + times_in w vs

-- n - 1, .. 1, 0
abbrev pub down : ℕ → List ℕ
down zero = []
down (suc n) = n ∷ down n

-- how many of the first k jobs lead to w, and which
abbrev pub lead_to : (ℕ → List ℕ) → ℕ → ℕ → ℕ
lead_to out k w = count k (λ u. memb w (out u))

abbrev pub pres_of : (ℕ → List ℕ) → ℕ → ℕ → List ℕ
pres_of out k w = keep (λ u. memb w (out u)) (down k)

-- from 0 on, the edges of the first u jobs are counted
pub record Tallied (e : List ℕ) (off plus : Chain) (n u : ℕ) (d₀ d : List ℕ) : Type 0 where
  pub is : (m : Model) → OnGraph e off plus n m → ((w : ℕ) → w < most_jobs → at d₀ w ≡ 0) → (w : ℕ) → w < most_jobs
      → at d w ≡ lead_to (on_outs m off plus) u w

-- ── the line_up ──

-- c has how many lead to each job: of the jobs below v those to which none leads are placed
pub record Begins (c : List ℕ) (n v tail : ℕ) (o d : List ℕ) : Type 0 where
  pub short : tail ≤ v
  pub keeps : (out : ℕ → List ℕ) → ((w : ℕ) → w < n → at c w ≡ lead_to out n w) → Kahn (pres_of out n) v (take tail o) 0 [] (at d)

pub record Lines (e : List ℕ) (off plus : Chain) (n : ℕ) (r : Bool) : Type 0 where
  pub is : (m : Model) → OnGraph e off plus n m → r ≡ is_some (order n (on_edge m off plus))
