-- The walk, while it goes. Assumes nothing.
use Prim.Native.Nat.{ℕ, zero, suc, ◌+◌, ◌-◌, ◌*◌, ◌≤◌, ◌<◌}
use native.Mathlib.Omega.{arith}
use mathlib.Core.Path.{◌≡◌, refl, ap}
use mathlib.Core.Bool.{true, cond}
use mathlib.Core.Logic.{◌⊎◌, inl, inr}
use mathlib.Core.List.{List, [], ◌∷◌}
use lib.ListN.{length, set}
use lib.Seq.{get_or-set_same, get_or-set_other}
use lib.Dec.{eqb}
use Rattle.rules.specs.Sizes.{longest, most_jobs}
use Rattle.rules.specs.Reports.{Outcome, push, tri, upd, walk}
use Rattle.rules.specs.Scores.{best, start}
use Rattle.rules.specs.Solved.{Mended, Solves}
use Rattle.rules.proofs.Ranges.{same}
use Rattle.rules.proofs.Starts.{best_bound, start_solves}
use Rattle.rules.proofs.Walks.{mends, upd_set}
use Rattle.edges.specs.Edges.{Model}
use Rattle.graphs.specs.Graph.{at, live, out_of}
use Rattle.graphs.specs.Queue.{Queued}
use Rattle.graphs.specs.Sound.{Sound, Seeded, ceiling}

-- what is done and what is left make up the whole walk w
pub record Midway (n : ℕ) (m : Model) (f : ℕ → ℕ) (sp : List ℕ) (rank : ℕ → ℕ) (w : Outcome) (q : List ℕ) (fuel visits : ℕ)
    (st mark : List ℕ) : Type 0 where
  pub queued : Queued n mark q
  pub low : (u : ℕ) → u < n → at st u ≤ (most_jobs + 1 + rank u) * longest
  pub visited : visits + (walk n (out_of m) f (at sp) fuel q (at st)).visits ≡ w.visits
  pub starts : (walk n (out_of m) f (at sp) fuel q (at st)).starts ≡ w.starts
  pub left : (walk n (out_of m) f (at sp) fuel q (at st)).left ≡ []

abbrev pub whole : ℕ → Model → (ℕ → ℕ) → List ℕ → List ℕ → List ℕ → Outcome
whole n m f sp st q = walk n (out_of m) f (at sp) (tri n) q (at st)

module _ {e sp : List ℕ} {f : ℕ → ℕ} {n : ℕ} {m : Model} {rank : ℕ → ℕ} (S : Sound e sp f n m rank) (hn : n ≤ most_jobs) where
  -- there are starts to come to
  goal : Solves n (live m) f (at sp) (start n (live m) f (at sp) n)
  goal = start_solves n (live m) f (at sp) rank S.ranks.rises n (λ v h. let a = S.ranks.top v h in omega arith)

  pub mended : {st q : List ℕ} → Seeded n m f sp st q → Mended n (out_of m) f (at sp) (tri n) (whole n m f sp st q)
  mended {st} {q} D = mends n (out_of m) f (at sp) rank (start n (live m) f (at sp) n) S.ranks goal
      (λ u v hu e. (S.below u v e).1) (tri n) q (at st) (omega arith) D.once D.low D.calm

  pub midway_start : {st q mark : List ℕ} → Seeded n m f sp st q → Queued n mark q
      → Midway n m f sp rank (whole n m f sp st q) q (tri n) 0 st mark
  midway_start D Q = record {
    queued = Q;
    low = λ u h. let a = D.small u h in
        omega arith;
    visited = omega arith;
    starts = refl;
    left = (mended D).ends;
  }

  module _ {w : Outcome} {v : ℕ} {q : List ℕ} {fuel visits : ℕ} {st mark : List ℕ}
      (M : Midway n m f sp rank w (v ∷ q) fuel visits st mark) where
    pub midway_in : v < n
    midway_in = M.queued.low v (rw (borrow.Author.Tests.eq-eqb v v refl))

    -- a predecessor's start and duration are small
    pub midway_low : (u : ℕ) → live m u v ≡ true → (at st u ≤ ceiling) × (at sp u ≤ ceiling)
    midway_low u e' =
        let h = (S.below u v e').0 in
        let a = M.low u h in
        let b = S.ranks.top u h in
        let c = S.spans u h in
        (omega arith, omega arith)

    pub midway_fuel : fuel ≡ 0 → ⊥
    midway_fuel z = let a = rw z at M.left in let y : ◌≡◌ {A = ℕ} 0 1 = cc in omega arith

    pub midway_turn : (x : ℕ) → x ≡ best n (live m) f (at sp) (at st) v → n ≤ length st → (q' mark' : List ℕ)
        → q' ≡ cond (eqb x (at st v)) q (push q (out_of m v)) → Queued n mark' q'
        → Midway n m f sp rank w q' (fuel - 1) (visits + 1) (set st v x) mark'
    midway_turn x ex long q' mark' eq Q = go fuel refl
      where
        small : (u : ℕ) → u < n → at (set st v x) u ≤ (most_jobs + 1 + rank u) * longest
        small u h = pick (same u v)
          where
            top : best n (live m) f (at sp) (at st) v ≤ (most_jobs + 1 + rank v) * longest
            top =
                let low : (u : ℕ) → u < n → at st u ≤ longest + (most_jobs + rank u) * longest = (λ u h. let a = M.low u h in omega arith) in
                let b = best_bound n (live m) f (at sp) rank (at st) longest longest most_jobs S.floors S.spans
                S.ranks.rises low v midway_in in
                omega arith

            pick : (u ≡ v) ⊎ (u ≡ v → ⊥) → at (set st v x) u ≤ (most_jobs + 1 + rank u) * longest
            pick (inl p) = rw (p, get_or-set_same st v x 0 (let a = midway_in in omega arith), ex) top
            pick (inr p) = rw (get_or-set_other st v u x 0 p) (M.low u h)

        turn : (k : ℕ) → walk n (out_of m) f (at sp) k
            (cond (eqb (best n (live m) f (at sp) (at st) v) (at st v)) q (push q (out_of m v)))
            (upd (at st) v (best n (live m) f (at sp) (at st) v)) ≡ walk n (out_of m) f (at sp) k q' (at (set st v x))
        turn k = rw (← ex, ← eq) (ap (walk n (out_of m) f (at sp) k q') (upd_set st v x (let a = midway_in in omega arith)))

        go : (k : ℕ) → fuel ≡ k → Midway n m f sp rank w q' (fuel - 1) (visits + 1) (set st v x) mark'
        go zero z = absurd (midway_fuel z)
        go (suc k) z =
            let p : fuel - 1 ≡ k = omega arith in
            let a = rw (z, turn k) at M.visited in
            let b = rw (z, turn k) at M.starts in
            let c = rw (z, turn k) at M.left in
            rw p (record { queued = Q; low = small; visited = omega arith; starts = b; left = c })

-- nothing is queued any more
walk_nil : (n : ℕ) (out : ℕ → List ℕ) (f d : ℕ → ℕ) (k : ℕ) (s : ℕ → ℕ)
    → walk n out f d k [] s ≡ record { visits = 0; starts = s; left = [] }
walk_nil n out f d zero s = refl
walk_nil n out f d (suc k) s = refl

module _ {n : ℕ} {m : Model} {f : ℕ → ℕ} {sp : List ℕ} {rank : ℕ → ℕ} {w : Outcome} {fuel visits : ℕ} {st mark : List ℕ}
    (M : Midway n m f sp rank w [] fuel visits st mark) where
  pub midway_visits : visits ≡ w.visits
  midway_visits = let a = rw (walk_nil n (out_of m) f (at sp) fuel (at st)) at M.visited in omega arith

  pub midway_starts : at st ≡ w.starts
  midway_starts = rw (walk_nil n (out_of m) f (at sp) fuel (at st)) at M.starts
