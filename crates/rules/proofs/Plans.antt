-- The laws on graphs, of a plan: what its verdict says, what is shown of it, and that its starts are the greatest duration sums.
-- `is_cyclic`, `starts` and the two that are shown are shut elsewhere: whoever asks something of a plan cites this file. Assumes nothing.
use Prim.Native.Nat.{ℕ, ◌<◌}
use mathlib.Core.Path.{◌≡◌, refl, ap}
use mathlib.Core.Bool.{true, false, not}
use mathlib.Core.Option.{Option, none, some}
use mathlib.Core.Logic.{◌↔◌}
use mathlib.Core.List.{List}
use native.Mathlib.Omega.{arith}
use borrow.Author.Tests.{not-true}
use Rattle.rules.specs.Graphs.{Cycle, GreatestSum, LineUp, LowestCycle, LowestLineUp}
use Rattle.rules.specs.Lists.{is_some}
use Rattle.rules.specs.Routes.{Plan, live}
use Rattle.rules.specs.Scores.{floor_of, is_cyclic, starts}
use Rattle.rules.specs.Shown.{cycle, order, shown_cycle, shown_line_up}
use Rattle.rules.specs.Sizes.{duration}
use Rattle.rules.specs.Solved.{Ranks, Solves}
use Rattle.rules.proofs.Orders.{Verdict, acyclic, cyclic, lineup_ranks, place_of, verdict}
use Rattle.rules.proofs.Ranges.{clash}
use Rattle.rules.proofs.Starts.{solves_same, start_greatest, start_solves}
use Rattle.rules.proofs.Verdicts.{Shown, line_up, loop, no_order, order_cycle, shown}

-- ── the verdict ──

-- a plan that is not cyclic shows a line_up, "of all that lead every edge forward, the one lowest in dictionary order"
pub shown_line_up_lem : (p : Plan) → is_cyclic p ≡ false
    → (l : List ℕ) × (shown_line_up p ≡ some l) × LowestLineUp p.base.jobs (live p) l
unfolding is_cyclic shown_line_up
shown_line_up_lem p e = go (order p.base.jobs (live p)) refl (verdict p.base.jobs (live p)) e
  where
    go : (o : Option (List ℕ)) → order p.base.jobs (live p) ≡ o → Verdict p.base.jobs (live p) o → not (is_some o) ≡ false
        → (l : List ℕ) × (order p.base.jobs (live p) ≡ some l) × LowestLineUp p.base.jobs (live p) l
    go o q (acyclic l L r) f = (l, q, L)
    go o q (cyclic c) f = clash refl f

-- a cyclic one shows a cycle, "from the lowest job that lies on a cycle, a shortest cycle through it, of those the lowest in dictionary
-- order"
pub shown_cycle_lem : (p : Plan) → is_cyclic p ≡ true
    → (l : List ℕ) × (shown_cycle p ≡ some l) × LowestCycle p.base.jobs (live p) l
unfolding is_cyclic shown_line_up shown_cycle
shown_cycle_lem p e = go (cycle p.base.jobs (live p)) refl (shown p.base.jobs (live p)) e
  where
    go : {o : Option (List ℕ)} (c : Option (List ℕ)) → cycle p.base.jobs (live p) ≡ c → Shown p.base.jobs (live p) o c
        → not (is_some o) ≡ true → (l : List ℕ) × (cycle p.base.jobs (live p) ≡ some l) × LowestCycle p.base.jobs (live p) l
    go c q (line_up L) f = clash f refl
    go c q (loop {l} C) f = (l, q, C)

pub no_shown_line_up : (p : Plan) → is_cyclic p ≡ true → shown_line_up p ≡ none
unfolding is_cyclic shown_line_up
no_shown_line_up p = go (shown_line_up p)
  where
    go : (o : Option (List ℕ)) → not (is_some o) ≡ true → o ≡ none
    go none f = refl
    go (some l) f = clash f refl

-- some line_up of all jobs leads every edge forward
pub whole_of : (p : Plan) → is_cyclic p ≡ false → (l : List ℕ) × LineUp p.base.jobs (live p) l
whole_of p e = let (l, q, L) = shown_line_up_lem p e in (l, L.is)

-- cyclic exactly if no line_up of all jobs leads every edge forward
pub cyclic_no_lineup : (p : Plan) → (is_cyclic p ≡ true) ↔ ((l : List ℕ) → LineUp p.base.jobs (live p) l → ⊥)
unfolding is_cyclic shown_line_up
cyclic_no_lineup p =
    let a = no_order p.base.jobs (live p) in
    (λ e. a.0 (not-true _ e), λ f. ap not (a.1 f))

-- and exactly if there is a cycle
pub cyclic_cycle : (p : Plan) → (is_cyclic p ≡ true) ↔ ((v : ℕ) × (l : List ℕ) × Cycle p.base.jobs (live p) v l)
unfolding is_cyclic shown_line_up
cyclic_cycle p =
    let a = order_cycle p.base.jobs (live p) in
    (λ e. a.0 (not-true _ e), λ f. ap not (a.1 f))

-- ── starts ──

-- the places of the jobs in a line-up: 0 to n - 1, each once, and they rise along each edge
pub ranks_of : (p : Plan) → is_cyclic p ≡ false → (r : ℕ → ℕ) × Ranks p.base.jobs (live p) r
ranks_of p e = let (l, L) = whole_of p e in (place_of l, lineup_ranks p.base.jobs (live p) l L)

-- each start is the greater of the floor and the greatest finish of a predecessor
pub starts_solve : (p : Plan) → is_cyclic p ≡ false
    → Solves p.base.jobs (live p) (floor_of p.base) (duration p.base) (starts p)
unfolding starts
starts_solve p e =
    let (r, R) = ranks_of p e in
    start_solves p.base.jobs (live p) (floor_of p.base) (duration p.base) r R.rises p.base.jobs
    (λ v h. let a = R.top v h in omega arith)

-- "Start of a job: the greatest duration sum along a path of live edges that leads to it, itself not counted"
pub starts_greatest : (p : Plan) → is_cyclic p ≡ false → (v : ℕ) → v < p.base.jobs
    → GreatestSum p.base.jobs (live p) (floor_of p.base) (duration p.base) v (starts p v)
unfolding starts
starts_greatest p e v h =
    let (r, R) = ranks_of p e in
    start_greatest p.base.jobs (live p) (floor_of p.base) (duration p.base) r R.rises p.base.jobs
    (λ w k. let a = R.top w k in omega arith) h

-- whatever solves the same equations are the starts
pub starts_only : (p : Plan) (s : ℕ → ℕ) → is_cyclic p ≡ false
    → Solves p.base.jobs (live p) (floor_of p.base) (duration p.base) s → (v : ℕ) → v < p.base.jobs → s v ≡ starts p v
starts_only p s e f =
    let (r, R) = ranks_of p e in
    solves_same p.base.jobs (live p) (floor_of p.base) (duration p.base) r R.rises s (starts p) f (starts_solve p e)
