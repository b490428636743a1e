-- "Refresh report": what a put reports, and the walk whose steps are its visits. "Seed order and report are ours, not compared with the Rust."
use Rattle.std.specs.Prelude.{ℕ, zero, suc, ◌+◌, cond, List, [], ◌∷◌, ◌++◌, map, eqb}
use Rattle.rules.specs.declared.Report.{Report}
use Rattle.rules.specs.declared.Report.TheVariants.{Skipped, Full, CycleFound, Incremental}
use Rattle.rules.specs.Lists.{memb, is_empty, Pair}
use Rattle.rules.specs.Sizes.{duration}
use Rattle.rules.specs.Routes.{Plan, outs, edge, emptied, own_stage, put_plan}
use Rattle.rules.specs.Scores.{best, floor_of, starts, is_cyclic}

-- each of vs that is not queued is queued, in turn
abbrev pub push : List ℕ → List ℕ → List ℕ
push q [] = q
push q (v ∷ vs) = push (cond (memb v q) q (q ++ v ∷ [])) vs

-- s, with x at v
abbrev pub upd : (ℕ → ℕ) → ℕ → ℕ → ℕ → ℕ
upd s v x w = cond (eqb w v) x (s w)

pub record Outcome : Type 0 where
  pub visits : ℕ
  pub starts : ℕ → ℕ
  pub left : List ℕ

abbrev pub bump : Outcome → Outcome
bump o = record { visits = suc o.visits; starts = o.starts; left = o.left }

-- "take the front, recompute its start from its predecessors; if it changed, queue its successors that aren't queued, in stored order":
-- at most k steps, from the queue q and the starts s
abbrev pub walk : ℕ → (ℕ → List ℕ) → (ℕ → ℕ) → (ℕ → ℕ) → ℕ → List ℕ → (ℕ → ℕ) → Outcome
walk n out floor d zero q s = record { visits = 0; starts = s; left = q }
walk n out floor d (suc k) [] s = record { visits = 0; starts = s; left = [] }
walk n out floor d (suc k) (v ∷ q) s =
    let x : ℕ = best n (edge out) floor d s v in
    bump (walk n out floor d k (cond (eqb x (s v)) q (push q (out v))) (upd s v x))

-- n(n+1)/2: "The visits never exceed n(n+1)/2."
abbrev pub tri : ℕ → ℕ
tri zero = 0
tri (suc m) = suc m + tri m

abbrev pub head_of : Pair → ℕ
head_of e = e.1

-- "queue the heads (`to`) of edges that appeared (by first place in the new route), then of those that vanished through this owner (by first
-- place in its old route), then through waiting owners (in waiting order, each by its route), each once"
unfoldable pub seeds : Plan → ℕ → List ℕ → List ℕ
seeds p o l = push [] (map head_of ((own_stage p o l).came ++ ((own_stage p o l).went ++ (emptied p o).went)))

unfoldable pub put_walk : Plan → ℕ → List ℕ → Outcome
put_walk p o l =
    walk p.base.jobs (outs (put_plan p o l).desk.heads) (floor_of p.base) (duration p.base) (tri p.base.jobs) (seeds p o l) (starts p)

-- "A put reports: skipped, if no edge appeared or vanished at any stage of it; else full, if cyclic before; else cycle found, if cyclic
-- after; else incremental with visits."
unfoldable pub put_report : Plan → ℕ → List ℕ → Report
put_report p o l =
    cond (is_empty (seeds p o l)) Skipped
    (cond (is_cyclic p) Full
    (cond (is_cyclic (put_plan p o l)) CycleFound
    (Incremental (put_walk p o l).visits)))

-- a report in numbers, the visits aside
abbrev pub kind_of : Report → ℕ
kind_of Skipped = 0
kind_of Full = 1
kind_of CycleFound = 2
kind_of (Incremental v) = 3

-- "Visits is 0 except in the last."
abbrev pub visits_of : Report → ℕ
visits_of Skipped = 0
visits_of Full = 0
visits_of CycleFound = 0
visits_of (Incremental k) = k
