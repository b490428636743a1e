-- Laws of the queue's functions. Assumes nothing.
use Rattle.std.proofs.Common.{◌≡◌, ℕ, ◌+◌, ◌%◌, ◌<◌, ◌≤◌, false, List, [], ◌∷◌, ◌++◌, length, get_or, drop, set, refl, ◌∙◌, add-one, arith, rules}
use Rattle.rules.specs.Lists.{memb}
use Rattle.rules.specs.Sizes.{most_jobs}
use Rattle.rules.proofs.Steps.{push_append}
use Rattle.graphs.specs.Queue.{ringed, Queued}
use Rattle.graphs.proofs.Kahn as kahn
use Rattle.graphs.proofs.Ring as ring
use Rattle.starts.specs.Lines.{Lows}
use Rattle.starts.specs.declared.queues.Queue.{Queue}
use Rattle.starts.specs.Queues.{Joins, Gains}
use Rattle.starts.proofs.Rows.{Rowed, rowed_none, rowed_next, rowed_done}

-- ── join ──

module _ (w k n head len : ℕ) (a mark : List ℕ) (ek : k ≡ w) (la : length a ≡ most_jobs) (lm : length mark ≡ most_jobs) (hn : n ≤ most_jobs)
    (hh : head < most_jobs) (hl : len ≤ most_jobs) where
  low_one : Lows n (w ∷ []) → w < n
  low_one g = g w (kahn.memb_self w [])

  -- a number that is no job
  pub join_out : n ≤ k → Joins (w ∷ []) n head len a mark len a mark
  join_out h = record { short = hl; keeps = λ g Q. let x = low_one g in absurd (let z : ⊥ = omega arith in z) }

  pub join_there : get_or mark k 0 ≡ 1 → Joins (w ∷ []) n head len a mark len a mark
  join_there e = record {
    short = hl;
    keeps = λ g Q. let there = ring.queued_in n mark (ringed a head len) (omega arith) w Q (low_one g) (rw (← ek) e) in rw there (Q, refl);
  }

  module _ (e : get_or mark k 0 ≡ 1 → ⊥) where
    new : Lows n (w ∷ []) → Queued n mark (ringed a head len) → memb w (ringed a head len) ≡ false
    new g Q = ring.queued_out n mark (ringed a head len) (omega arith) w Q (low_one g) (λ p. e (rw ek p))

    -- all places are taken: there is no other job
    pub join_full : most_jobs ≤ len → Joins (w ∷ []) n head len a mark len a mark
    join_full z = record {
      short = hl;
      keeps = λ g Q.
          let x = ring.queued_room n mark (ringed a head len) (omega arith) w Q (low_one g) (new g Q) in
          let y = ring.ringed_length a head len in absurd (let z : ⊥ = omega arith in z);
    }

    pub join_joins : len < most_jobs → (p : ℕ) → p ≡ (head + len) % most_jobs
        → Joins (w ∷ []) n head len a mark (len + 1) (set a p w) (set mark k 1)
    join_joins z p ep = record {
      short = omega arith;
      keeps = λ g Q.
          let b : ringed (set a p w) head (len + 1) ≡ ringed a head len ++ w ∷ [] = rw add-one
          (ring.ringed_push a head len p w la hh z ep) in
          (rw (b, ek) (ring.queued_join n mark (ringed a head len) (omega arith) w Q (low_one g) (new g Q)), b ∙ rw (new g Q));
    }

-- ── rows in turn ──

pub joins_none : (n head len : ℕ) (a mark : List ℕ) → len ≤ most_jobs → Joins [] n head len a mark len a mark
joins_none n head len a mark h = record { short = h; keeps = λ g Q. (Q, refl) }

pub joins_then : {vs ws : List ℕ} {n head len : ℕ} {a mark : List ℕ} {r : ℕ} {a' mark' : List ℕ} {r' : ℕ} {a'' mark'' : List ℕ}
    → Joins ws n head r a' mark' r' a'' mark'' → Joins vs n head len a mark r a' mark' → Joins (vs ++ ws) n head len a mark r' a'' mark''
joins_then {vs} {ws} {n} {head} {len} {a} K T = record {
  short = K.short;
  keeps = λ g Q.
      let (x, y) = T.keeps (λ w e. g w (kahn.memb_front w vs ws e)) Q in
      rw (push_append (ringed a head len) vs ws) (rw y at (K.keeps (λ w e. g w (kahn.memb_back w vs ws e)) x));
}

-- ── a queue ──

pub gains_none : (q : Queue) → Gains [] q q
gains_none q = record { jobs = refl; head = refl; joins = joins_none q.jobs q.head q.len q.ring q.mark (let a = q.places in omega arith) }

pub gains_then : {vs ws : List ℕ} {q q' q'' : Queue} → Gains ws q' q'' → Gains vs q q' → Gains (vs ++ ws) q q''
gains_then {vs} {ws} {q} {q'} {q''} U T = record {
  jobs = U.jobs ∙ T.jobs;
  head = U.head ∙ T.head;
  joins = joins_then (rw (T.jobs, T.head) at U.joins) T.joins;
}

-- the loop of `joins`
abbrev pub Joining : List ℕ → Queue → ℕ → Queue → Type 0
Joining = Rowed Gains

pub joining_none : (row : List ℕ) (q : Queue) → Joining row q 0 q
joining_none = rowed_none Gains

pub joining_next : {row : List ℕ} {q₀ : Queue} {k : ℕ} {q q' : Queue} → Gains (get_or row k 0 ∷ []) q q' → Joining row q₀ k q → k < length row
    → Joining row q₀ (k + 1) q'
joining_next T L h = rowed_next Gains L (λ v vs s t u T U. gains_then U T) h T

pub joining_done : {row : List ℕ} {q₀ : Queue} {k : ℕ} {q : Queue} → Joining row q₀ k q → length row ≤ k → Gains row q₀ q
joining_done {q} L h = rowed_done Gains L h (gains_none q)

-- what the queue's functions are proved by
pub ruleset queueing = (rules, join_out, join_there, join_full, join_joins, joining_none, joining_next, joining_done)
