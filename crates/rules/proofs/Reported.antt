-- "Refresh report": the walk of a put ends, leaves the starts of the new plan, and its visits never exceed n(n+1)/2. Assumes nothing.
use Prim.Native.Nat.{ℕ, ◌≤◌, ◌<◌}
use mathlib.Core.Path.{◌≡◌, refl}
use mathlib.Core.Bool.{Bool, true, false, cond}
use mathlib.Core.List.{List}
use native.Mathlib.Omega.{arith}
use lib.ListN.{length}
use Rattle.rules.specs.declared.Report.TheVariants.{Skipped, Full, CycleFound, Incremental}
use Rattle.rules.specs.Lists.{is_empty}
use Rattle.rules.specs.Reports.{put_report, put_walk, seeds, tri}
use Rattle.rules.specs.Routes.{Plan, in_force, outs, put_plan}
use Rattle.rules.specs.Scores.{floor_of, is_cyclic, starts}
use Rattle.rules.specs.Sizes.{duration, most_entries}
use Rattle.rules.specs.Sound.{Sound}
use Rattle.rules.proofs.Plans.{ranks_of, starts_only, starts_solve}
use Rattle.rules.proofs.Puts.{live_inside, put_sound, seeds_all, seeds_low, seeds_once}
use Rattle.rules.proofs.Stages.{never}
use Rattle.rules.specs.Solved.{Mended}
use Rattle.rules.proofs.Walks.{refreshes}

module _ (p : Plan) (o : ℕ) (l : List ℕ) (S : Sound p) (h : o < p.base.owners) (few : length l ≤ most_entries)
    (room : in_force (put_plan p o l).desk.routes ≤ most_entries) where
  -- from a plan that is not cyclic to one that is not
  module _ (calm : is_cyclic p ≡ false) (calm' : is_cyclic (put_plan p o l) ≡ false) where
    pub put_mends : Mended p.base.jobs (outs (put_plan p o l).desk.heads) (floor_of p.base) (duration p.base)
        (tri p.base.jobs) (put_walk p o l)
    unfolding put_plan put_walk
    put_mends =
        let (r, R) = ranks_of (put_plan p o l) calm' in
        refreshes p.base.jobs (outs (put_plan p o l).desk.heads) (floor_of p.base) (duration p.base) r
        (starts (put_plan p o l))
        R (starts_solve (put_plan p o l) calm')
        (λ u v hu e. (live_inside (put_plan p o l) (put_sound p o l S h few room) u v e).1)
        (outs p.desk.heads) (tri p.base.jobs) (seeds p o l) (starts p) (omega arith)
        (seeds_once p o l S h few) (seeds_low p o l S h few)
        (starts_solve p calm)
        (λ u v hu hv e. seeds_all p o l S h few u v e)

    -- what the walk leaves are the new starts
    pub put_starts : (v : ℕ) → v < p.base.jobs → (put_walk p o l).starts v ≡ starts (put_plan p o l) v
    unfolding put_plan
    put_starts = starts_only (put_plan p o l) (put_walk p o l).starts calm' put_mends.solves

  -- "The visits never exceed n(n+1)/2"
  pub visits_bound : (k : ℕ) → put_report p o l ≡ Incremental k → k ≤ tri p.base.jobs
  unfolding put_report
  visits_bound k = go (is_empty (seeds p o l)) (is_cyclic p) refl (is_cyclic (put_plan p o l)) refl
    where
      go : (a b : Bool) → is_cyclic p ≡ b → (c : Bool) → is_cyclic (put_plan p o l) ≡ c
          → cond a Skipped (cond b Full (cond c CycleFound (Incremental (put_walk p o l).visits))) ≡ Incremental k
          → k ≤ tri p.base.jobs
      go true b x c y e = let z : ◌≡◌ {A = ℕ} 0 1 = cc in never (omega arith)
      go false true x c y e = let z : ◌≡◌ {A = ℕ} 0 1 = cc in never (omega arith)
      go false false x true y e = let z : ◌≡◌ {A = ℕ} 0 1 = cc in never (omega arith)
      go false false x false y e = let q : (put_walk p o l).visits ≡ k = cc in let a = (put_mends x y).few in omega arith
