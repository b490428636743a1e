-- Laws of the functions that find distances. Assumes nothing.
use Rattle.std.proofs.Common.{◌≡◌, ℕ, suc, ◌+◌, ◌%◌, ◌^◌, ◌<◌, ◌≤◌, true, List, [], ◌∷◌, ◌++◌, length, get_or, take, drop, set, replicate, sym, refl, ap, ◌∙◌, append-nil, mod-eq_of_lt, add-one, arith, length-take, get_or-set_other, get_or-take, get_or-set_same, take-suc-set, rules, le-ltb, lt-ltb, eq-eqb, ne_eqb}
use lib.ListN.{length-replicate, get_or-replicate}
use Rattle.rules.specs.Lists.{memb}
use Rattle.rules.specs.Sizes.{most_jobs}
use Rattle.edges.specs.Edges.{Model, Holds}
use Rattle.edges.specs.Lists.{pre_of, Predecessors}
use Rattle.graphs.specs.Graph.{at, live, Below}
use Rattle.graphs.specs.Waves.{Wave, Meeting}
use Rattle.graphs.proofs.Bridge.{linked}
use Rattle.graphs.proofs.Waves as waves
use Rattle.words.proofs.Rows.{row_cons, row_none}
use Rattle.shown.specs.Distances.{meet_all, Meets, Measures}

-- ── one is met ──

module _ (w k y n tail : ℕ) (q d : List ℕ) (ek : k ≡ w) (lq : length q ≡ most_jobs) (ld : length d ≡ most_jobs) (hn : n ≤ most_jobs)
    (ht : tail ≤ most_jobs) where
  at_k : get_or d k 0 ≡ get_or d w 0
  at_k = ap (λ (u : ℕ). get_or d u 0) ek

  -- a number that is no job
  pub meet_out : n ≤ k → Meets (w ∷ []) y n tail q d tail q d
  meet_out h = record {
    is = rw (le-ltb w n (omega arith));
    short = ht;
    keeps = λ E v i x b rest ey M. let a = waves.meeting_in M in absurd (let z : ⊥ = omega arith in z);
  }

  pub meet_there : k < n → 0 < get_or d k 0 → Meets (w ∷ []) y n tail q d tail q d
  meet_there h p = record {
    is = let a = at_k in rw (lt-ltb w n (omega arith), ne_eqb (get_or d w 0) 0 (λ z. omega arith));
    short = ht;
    keeps = λ E v i x b rest ey M. waves.meeting_skip M (rw at_k at p);
  }

  module _ (hk : k < n) (p : get_or d k 0 ≤ 0) where
    zero_w : get_or d w 0 ≡ 0
    zero_w = let a = at_k in omega arith

    -- all jobs are met: there is no other
    pub meet_full : most_jobs ≤ tail → Meets (w ∷ []) y n tail q d tail q d
    meet_full h = record {
      is = rw (lt-ltb w n (omega arith), eq-eqb (get_or d w 0) 0 zero_w, le-ltb tail most_jobs h);
      short = ht;
      keeps = λ E v i x b rest ey M.
          let a = waves.meeting_room M zero_w in
          let c = length-take tail q in absurd (let z : ⊥ = omega arith in z);
    }

    pub meet_joins : tail < most_jobs → Meets (w ∷ []) y n tail q d (tail + 1) (set q tail w) (set d k y)
    meet_joins h = record {
      is = rw (ek, lt-ltb w n (omega arith), eq-eqb (get_or d w 0) 0 zero_w, lt-ltb tail most_jobs h);
      short = omega arith;
      keeps = λ E v i x b rest ey M.
          let a = waves.meeting_in M in
          rw (ek, add-one, take-suc-set q tail w (omega arith))
          (waves.meeting_join M zero_w (at (set d w y)) (get_or-set_same d w y 0 (omega arith) ∙ ey) (λ u ne. get_or-set_other d w u y 0 ne));
    }

-- ── the jobs of a row in turn ──

pub meets_none : (y n tail : ℕ) (q d : List ℕ) → tail ≤ most_jobs → Meets [] y n tail q d tail q d
meets_none y n tail q d h = record { is = refl; short = h; keeps = λ E v i x b rest ey M. M }

pub meets_then : {w : ℕ} {vs : List ℕ} {y n tail : ℕ} {q d : List ℕ} {r : ℕ} {q' d' : List ℕ} {r' : ℕ} {q'' d'' : List ℕ}
    → Meets (w ∷ []) y n tail q d r q' d' → Meets vs y n r q' d' r' q'' d'' → Meets (w ∷ vs) y n tail q d r' q'' d''
meets_then {w} {vs} {y} {n} T U = record {
  is = U.is ∙ ap (meet_all y n vs) T.is;
  short = U.short;
  keeps = λ E v h x b rest ey M. U.keeps E v h x b rest ey (T.keeps E v h x b (vs ++ rest) ey M);
}

-- the loop of `meets`: once the rest of the row is met, all of it is
pub record Wading (row : List ℕ) (y n start : ℕ) (q₀ d₀ : List ℕ) (k tail : ℕ) (q d : List ℕ) : Type 0 where
  pub rest : (r : ℕ) (q' d' : List ℕ) → Meets (drop k row) y n tail q d r q' d' → Meets row y n start q₀ d₀ r q' d'

pub wading_none : (row : List ℕ) (y n start : ℕ) (q d : List ℕ) → Wading row y n start q d 0 start q d
wading_none row y n start q d = record { rest = λ r q' d' T. T }

module _ {row : List ℕ} {y n start : ℕ} {q₀ d₀ : List ℕ} {k tail : ℕ} {q d : List ℕ} (L : Wading row y n start q₀ d₀ k tail q d) where
  pub wading_next : k < length row → {r : ℕ} {q' d' : List ℕ} → Meets (get_or row k 0 ∷ []) y n tail q d r q' d'
      → Wading row y n start q₀ d₀ (k + 1) r q' d'
  wading_next h T = record { rest = λ r q' d' U. L.rest r q' d' (rw (row_cons row k h) (meets_then T U)) }

  pub wading_done : length row ≤ k → tail ≤ most_jobs → Meets row y n start q₀ d₀ tail q d
  wading_done h s = L.rest tail q d (rw (row_none row k h) (meets_none y n tail q d s))

-- ── wave after wave ──

-- d₀: v is at distance 1, and no other job is met
pub record Spreading (e : List ℕ) (v n : ℕ) (d₀ : List ℕ) (head tail : ℕ) (q d : List ℕ) : Type 0 where
  pub keeps : (m : Model) → Holds e m → Below n m → d₀ ≡ set (replicate most_jobs 0) v 1 → Wave n (live m) v (take tail q) head (at d)

pub spreading_first : (e : List ℕ) (v n : ℕ) (q d : List ℕ) → take 1 q ≡ v ∷ [] → n ≤ most_jobs → v < n → Spreading e v n d 0 1 q d
spreading_first e v n q d one hn hv = record {
  keeps = λ m H b z.
      rw (one, z) (waves.wave_start (at (set (replicate most_jobs 0) v 1)) hv
      (get_or-set_same (replicate most_jobs 0) v 1 0 (omega (arith, length-replicate {A = ℕ} most_jobs 0)))
      (λ u hu ne. get_or-set_other (replicate most_jobs 0) v u 1 0 ne ∙ get_or-replicate most_jobs u 0 0 (omega arith)));
}

module _ {e : List ℕ} {v n : ℕ} {d₀ : List ℕ} {head tail : ℕ} {q d : List ℕ} (S : Spreading e v n d₀ head tail q d)
    (lq : length q ≡ most_jobs) (ht : tail ≤ most_jobs) where
  size : length (take tail q) ≡ tail
  size = omega (arith, length-take tail q)

  module _ {u : ℕ} (eu : u ≡ get_or q head 0) (hh : head < tail) where
    long : head < length (take tail q)
    long = omega (arith, size)

    placed : get_or (take tail q) head 0 ≡ u
    placed = get_or-take tail q head 0 hh ∙ sym eu

module _ {e : List ℕ} {v n : ℕ} {a : List ℕ} {head tail : ℕ} {q d : List ℕ} (S : Spreading e v n (set a v 1) head tail q d)
    (lq : length q ≡ most_jobs) (ht : tail ≤ most_jobs) where
  pub spreading_done : tail ≤ head → Measures e v n a d
  spreading_done h = record { is = λ m H b z. waves.wave_done (S.keeps m H b (rw z)) (omega (arith, size S lq ht)) }

  -- a number that is no job: there is no such wave
  pub spreading_out : {u : ℕ} → u ≡ get_or q head 0 → head < tail → n ≤ u → Measures e v n a d
  spreading_out eu hh h = record {
    is = λ m H b z.
        let x = waves.wave_in (S.keeps m H b (rw z)) (long S lq ht eu hh) in
        let c = placed S lq ht eu hh in absurd (let f : ⊥ = omega arith in f);
  }

-- the premises stand as `search` reads them best: what the callee promises, the invariant, the rest
module _ {e row : List ℕ} {v n u y head tail r : ℕ} {d₀ q d q' d' : List ℕ} (T : Meets row y n tail q d r q' d')
    (S : Spreading e v n d₀ head tail q d) (P : Predecessors e u row) (eu : u ≡ get_or q head 0) (ey : y ≡ (get_or d u 0 + 1) % 2 ^ 16)
    (hu : u < n) (hh : head < tail) (hn : n ≤ most_jobs) (lq : length q ≡ most_jobs) (ht : tail ≤ most_jobs) where
  is_u : get_or (take tail q) head 0 ≡ u
  is_u = placed S lq ht eu hh

  begun : (m : Model) → Holds e m → Below n m → Wave n (live m) v (take tail q) head (at d)
      → Meeting n (live m) v (take tail q) head u (get_or d u 0) (pre_of m u) (at d)
  begun m H b W =
      let L = linked n m H.wf hn b in
      let back : (w : ℕ) → memb w (pre_of m u) ≡ true → (w < n) × (live m w u ≡ true) =
      (λ w i. let hw = L.pre_low w u hu i in (hw, L.both w u hw hu ∙ i)) in
      let there : (w : ℕ) → w < n → live m w u ≡ true → memb w (pre_of m u) ≡ true = (λ w hw i. sym (L.both w u hw hu) ∙ i) in
      rw is_u at (waves.wave_begin W (long S lq ht eu hh) (pre_of m u) (rw is_u back) (rw is_u there))

  step : (m : Model) → Holds e m → Below n m → Wave n (live m) v (take tail q) head (at d) → Wave n (live m) v (take r q') (suc head) (at d')
  step m H b W =
      let near : get_or d u 0 ≤ n = rw is_u at (waves.wave_near W (long S lq ht eu hh)) in
      let one : y ≡ suc (get_or d u 0) = ey ∙ mod-eq_of_lt (omega arith) ∙ add-one (get_or d u 0) in
      waves.meeting_end (T.keeps (live m) v head u (get_or d u 0) [] one (rw (append-nil, P.is m H) (begun m H b W)))

  pub spreading_next : Spreading e v n d₀ (head + 1) r q' d'
  spreading_next = record { keeps = λ m H b z. rw add-one (step m H b (S.keeps m H b z)) }

-- what these functions are proved by
pub ruleset distancing = (rules, meet_out, meet_there, meet_full, meet_joins, wading_none, wading_next, wading_done, spreading_first, spreading_out, spreading_next, spreading_done)
