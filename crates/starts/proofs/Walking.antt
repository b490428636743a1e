-- Laws of the walk's functions; f is each job's floor. Assumes nothing.
use Rattle.std.proofs.Common.{◌≡◌, ℕ, zero, suc, ◌+◌, ◌-◌, ◌*◌, ◌/◌, ◌%◌, ◌<◌, ◌≤◌, ◌⊎◌, inl, inr, List, [], ◌∷◌, length, get_or, drop, set, replicate, sym, refl, ◌∙◌, subst, mul-le-mul_right, arith, drop-set-lt, w64, Fits, rules, eq-eqb, ne_eqb}
use lib.ListN.{get_or-replicate}
use lib.Seq.{set-get_or}
use Rattle.rules.specs.Reports.{push, tri}
use Rattle.rules.specs.Scores.{best}
use Rattle.rules.specs.Sizes.{most_jobs}
use Rattle.rules.specs.Solved.{Solves}
use Rattle.rules.proofs.Steps.{push_new}
use Rattle.rules.proofs.Walks.{tri_is}
use Rattle.edges.specs.Edges.{Model, Holds}
use Rattle.edges.specs.Lists.{Successors}
use Rattle.graphs.specs.Graph.{at, live, Below}
use Rattle.graphs.specs.Queue.{ringed, Queued}
use Rattle.graphs.specs.Sound.{Sound, Seeded}
use Rattle.graphs.proofs.Bridge.{linked}
use Rattle.graphs.proofs.Ring as ring
use Rattle.graphs.proofs.Midway as mid
use Rattle.starts.specs.Pulls.{Pulls, Low}
use Rattle.starts.specs.declared.queues.Queue.{Queue}
use Rattle.starts.specs.Queues.{Joins, Fresh, Gains, Stuck, Pops}
use Rattle.starts.specs.Walks.{Visit, Walks, most_visits}
use Rattle.starts.proofs.Queueing.{gains_then}

-- ── a visit ──

module _ (e sp : List ℕ) (f : ℕ → ℕ) (st : List ℕ) (v n head len : ℕ) (a mark : List ℕ) (hn : n ≤ most_jobs) (hl : len ≤ most_jobs) (hv : v < n)
    (lm : length mark ≡ most_jobs) (x : ℕ) (P : Pulls e sp f st v n x) where
  is_best : (m : Model) → Holds e m → Below n m → Low m sp st v → best n (live m) f (at sp) (at st) v ≡ x
  is_best m H b low = sym (P.is m H b hv low)

  popped : Queued n mark (v ∷ ringed a head len) → Queued n (set mark v 0) (ringed a head len)
  popped = ring.queued_pop n mark (ringed a head len) (omega arith) v

  pub visit_same : x ≡ get_or st v 0 → Visit e sp f st v n head len a mark len st a (set mark v 0)
  visit_same q = record {
    short = hl;
    beyond = refl;
    keeps = λ m H b low Q.
        record {
          queue = rw (is_best m H b low, eq-eqb x (get_or st v 0) q) (popped Q, refl);
          start = rw (is_best m H b low, q) (sym (set-get_or st v 0));
        };
  }

  pub visit_new : (x ≡ get_or st v 0 → ⊥) → {row : List ℕ} → Successors e v row → {r : ℕ} {a' mark' : List ℕ}
      → Joins row n head len a (set mark v 0) r a' mark' → Visit e sp f st v n head len a mark r (set st v x) a' mark'
  visit_new q S J = record {
    short = J.short;
    beyond = drop-set-lt n st v x hv;
    keeps = λ m H b low Q.
        let L = linked n m H.wf hn b in
        record {
          queue = rw (is_best m H b low, ne_eqb x (get_or st v 0) q)
              (rw (S.is m H) at (J.keeps (rw (S.is m H) (λ w y. L.out_low v w hv y)) (popped Q)));
          start = rw (is_best m H b low);
        };
  }

-- ── the fuel ──

product_few : (n : ℕ) → n ≤ most_jobs → n * (n + 1) ≤ most_jobs * (most_jobs + 1)
product_few n h = let a = mul-le-mul_right (n + 1) h in omega arith

pub tri_few : (n : ℕ) → n ≤ most_jobs → tri n ≤ most_visits
tri_few n h = let a = tri_is n in let b = product_few n h in omega arith

pub fuel_fits : (n : ℕ) → n ≤ most_jobs → Fits w64 (n * (n + 1))
fuel_fits n h = record { fits = let a = product_few n h in omega arith }

pub fuel_is : (n : ℕ) → n ≤ most_jobs → (n * (n + 1) / 2 ≡ tri n) × (n * (n + 1) / 2 ≤ most_visits)
fuel_is n h = let a = tri_is n in let b = product_few n h in (omega arith, omega arith)

-- ── the walk ──

pub record Running (e sp : List ℕ) (f : ℕ → ℕ) (st₀ vs : List ℕ) (n fuel visits : ℕ) (st : List ℕ) (q : Queue) : Type 0 where
  pub jobs : q.jobs ≡ n
  pub beyond : drop n st ≡ drop n st₀
  pub is : (m : Model) (rank : ℕ → ℕ) → Sound e sp f n m rank → Seeded n m f sp st₀ (push [] vs)
      → mid.Midway n m f sp rank (mid.whole n m f sp st₀ (push [] vs)) (ringed q.ring q.head q.len) fuel visits st q.mark

pub running_none : (e sp : List ℕ) (f : ℕ → ℕ) (st : List ℕ) {vs : List ℕ} {n fuel : ℕ} {q q' : Queue} → Gains vs q q' → Fresh n q
    → n ≤ most_jobs → fuel ≡ tri n → Running e sp f st vs n fuel 0 st q'
unfolding ringed
running_none e sp f st {vs} {n} {fuel} {q} {q'} G F hn ef = record {
  jobs = G.jobs ∙ F.jobs;
  beyond = refl;
  is = λ m rank S D.
      let J : Joins vs n 0 0 q.ring (replicate most_jobs 0) q'.len q'.ring q'.mark = rw (F.jobs, F.head, F.len, F.mark) at G.joins in
      let (Q, z) = J.keeps (λ v e. D.low v (push_new v [] vs e))
      (ring.queued_none n (replicate most_jobs 0) (λ v h. get_or-replicate most_jobs v 0 0 (omega arith))) in
      rw (G.head ∙ F.head, z, ef) (mid.midway_start S hn D (rw z at Q));
}

module _ {e sp : List ℕ} {f : ℕ → ℕ} {st₀ vs : List ℕ} {n fuel visits : ℕ} {st : List ℕ} {q : Queue}
    (R : Running e sp f st₀ vs n fuel visits st q) (hn : n ≤ most_jobs) where
  opened : 0 < q.len → (m : Model) (rank : ℕ → ℕ) → Sound e sp f n m rank → Seeded n m f sp st₀ (push [] vs)
      → mid.Midway n m f sp rank (mid.whole n m f sp st₀ (push [] vs))
      (get_or q.ring q.head 0 ∷ ringed q.ring ((q.head + 1) % most_jobs) (q.len - 1)) fuel visits st q.mark
  opened hl m rank S D = rw (ring.ringed_pop q.ring q.head q.len hl) at (R.is m rank S D)

  module _ {v : ℕ} {q' : Queue} (P : Pops q v q') where
    -- what no calls could have left
    pub running_spent : visits + fuel ≤ tri n → fuel ≡ 0 → Walks e sp f st₀ vs n visits st
    running_spent few z = record {
      beyond = R.beyond;
      few = omega arith;
      is = λ m rank S D. absurd (mid.midway_fuel S hn (opened P.waits m rank S D) z);
    }

    pub running_next : {q'' : Queue} {st' : List ℕ} → Visit e sp f st v q'.jobs q'.head q'.len q'.ring q'.mark q''.len st' q''.ring q''.mark
        → q''.jobs ≡ q'.jobs → q''.head ≡ q'.head → length st ≡ length st₀ → n ≤ length st₀ → Running e sp f st₀ vs n (fuel - 1) (visits + 1) st' q''
    running_next {q''} {st'} T ej eh ls l₀ = record { jobs = ej ∙ P.jobs ∙ R.jobs; beyond = U.beyond ∙ R.beyond; is = turn }
      where
        U : Visit e sp f st v n ((q.head + 1) % most_jobs) (q.len - 1) q.ring q.mark q''.len st' q''.ring q''.mark
        U = rw (P.jobs ∙ R.jobs, P.head, P.len, P.ring, P.mark) at T

        turn : (m : Model) (rank : ℕ → ℕ) → Sound e sp f n m rank → Seeded n m f sp st₀ (push [] vs)
            → mid.Midway n m f sp rank (mid.whole n m f sp st₀ (push [] vs)) (ringed q''.ring q''.head q''.len) (fuel - 1) (visits + 1) st' q''.mark
        turn m rank S D =
            let M : mid.Midway n m f sp rank (mid.whole n m f sp st₀ (push [] vs)) (v ∷ ringed q.ring ((q.head + 1) % most_jobs) (q.len - 1)) fuel visits st q.mark =
            rw P.first (opened P.waits m rank S D) in
            let W = U.keeps m S.holds S.below (mid.midway_low S hn M) M.queued in
            rw (eh ∙ P.head, W.start) (mid.midway_turn S hn M _ refl (let a = P.low in let b = R.jobs in omega arith) (ringed q''.ring ((q.head + 1) % most_jobs) q''.len) q''.mark W.queue.1 W.queue.0)

  pub running_done : visits + fuel ≤ tri n → Stuck q → Walks e sp f st₀ vs n visits st
  unfolding ringed
  running_done few z = record {
    beyond = R.beyond;
    few = omega arith;
    is = λ m rank S D.
        let M = closed m rank S D q.len refl z in
        record {
          visits = mid.midway_visits M;
          starts = mid.midway_starts M;
          left = (mid.mended S hn D).ends;
          solves = subst (λ (s : ℕ → ℕ). Solves n (live m) f (at sp) s) (sym (mid.midway_starts M)) (mid.mended S hn D).solves;
        };
  }
    where
      closed : (m : Model) (rank : ℕ → ℕ) → Sound e sp f n m rank → Seeded n m f sp st₀ (push [] vs) → (k : ℕ) → q.len ≡ k → Stuck q
          → mid.Midway n m f sp rank (mid.whole n m f sp st₀ (push [] vs)) [] fuel visits st q.mark
      closed m rank S D zero i z = rw i at (R.is m rank S D)
      closed m rank S D (suc k) i (inl j) = absurd (omega arith)
      -- a number that is no job waits first
      closed m rank S D (suc k) i (inr h) = absurd (let x = mid.midway_in S hn (opened (omega arith) m rank S D) in let b = R.jobs in omega arith)

-- what the walk's functions are proved by
pub ruleset walking = (rules, fuel_fits, fuel_is, gains_then, visit_same, visit_new, running_none, running_spent, running_next, running_done)
