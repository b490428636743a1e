-- The ways back over what is on. Assumes nothing.
use Rattle.std.proofs.Common.{◌≡◌, ℕ, zero, suc, ◌+◌, ◌-◌, ◌%◌, ◌^◌, ◌<◌, ◌≤◌, Bool, true, false, ◌||◌, ltb, List, [], ◌∷◌, ◌++◌, length, get_or, take, drop, set, replicate, sym, refl, subst, ◌∙◌, append-nil, mod-eq_of_lt, add-one, arith, length-take, get_or-set_other, get_or-take, get_or-set_same, take-suc-set, rules, lt-ltb}
use lib.ListN.{get_or-replicate, length-replicate}
use Rattle.rules.specs.Graphs.{Graph, Trail, end, go}
use Rattle.rules.specs.Lists.{memb}
use Rattle.rules.specs.Moves.{leads, neighbours}
use Rattle.rules.specs.Sizes.{most_jobs}
use Rattle.rules.proofs.Checks.{leads_exactly}
use Rattle.rules.proofs.Cycles.{reach_of_lem, trail_append, trail_least}
use Rattle.rules.proofs.Ranges.{Test, fail, pass, test}
use Rattle.edges.specs.Edges.{Model}
use Rattle.graphs.specs.Graph.{at}
use Rattle.graphs.specs.Waves.{Distances, Meeting, Wave}
use Rattle.graphs.proofs.Waves as waves
use Rattle.shown.specs.Distances.{Meets}
use Rattle.shown.proofs.Distanced.{meets_none, meets_then}
use Rattle.probes.specs.Aheads.{Sees}
use Rattle.probes.specs.Chains.{holds_of}
use Rattle.probes.specs.Fulls.{OnGraph, on_edge, on_outs}
use Rattle.probes.specs.Quicks.{Closes, Turns, Ways, turning}
use Rattle.probes.proofs.Chaining.{below_at, job_before, neighbours_at, neighbours_drop}
use Rattle.probes.specs.declared.chain.Chain.{Chain}

-- ── the heads in turn ──

-- once those that are left are met, all are
pub record Wading (all : List ℕ) (y n start : ℕ) (q₀ d₀ left : List ℕ) (tail : ℕ) (q d : List ℕ) : Type 0 where
  pub rest : (r : ℕ) (q' d' : List ℕ) → Meets left y n tail q d r q' d' → Meets all y n start q₀ d₀ r q' d'

pub wading_none : (l : List ℕ) (y n start : ℕ) (q d : List ℕ) → Wading l y n start q d l start q d
wading_none l y n start q d = record { rest = λ r q' d' T. T }

module _ {all : List ℕ} {y n start : ℕ} {q₀ d₀ left : List ℕ} {tail : ℕ} {q d : List ℕ} (L : Wading all y n start q₀ d₀ left tail q d) where
  pub wading_next : {v : ℕ} {left' : List ℕ} → left ≡ v ∷ left' → {t : ℕ} {q' d' : List ℕ} → Meets (v ∷ []) y n tail q d t q' d'
      → Wading all y n start q₀ d₀ left' t q' d'
  wading_next p T = record { rest = λ r q' d' U. L.rest r q' d' (rw p (meets_then T U)) }

  pub wading_done : left ≡ [] → tail ≤ most_jobs → Meets all y n start q₀ d₀ tail q d
  wading_done p s = L.rest tail q d (rw p (meets_none y n tail q d s))

pub ruleset wading = (rules, wading_none, wading_next, wading_done)

-- ── wave after wave: distances back to v over the edges turned round ──

abbrev back_of : Graph → Graph
back_of E u v = E v u

pub record Spreading (e : List ℕ) (off plus : Chain) (v n head tail : ℕ) (q d : List ℕ) : Type 0 where
  pub short : tail ≤ most_jobs
  pub keeps : (m : Model) → OnGraph e off plus n m → Wave n (back_of (on_edge m off plus)) v (take tail q) head (at d)

pub spreading_none : (e : List ℕ) (off plus : Chain) (v n : ℕ) → n ≤ most_jobs → v < n
    → Spreading e off plus v n 0 1 (set (replicate most_jobs 0) 0 v) (set (replicate most_jobs 0) v 1)
spreading_none e off plus v n hn hv = record {
  short = omega arith;
  keeps = λ m G.
      let z = length-replicate {A = ℕ} most_jobs 0 in
      let one : take 1 (set (replicate most_jobs 0) 0 v) ≡ v ∷ [] = take-suc-set (replicate most_jobs 0) 0 v (omega arith) in
      rw one (waves.wave_start (at (set (replicate most_jobs 0) v 1)) hv (get_or-set_same (replicate most_jobs 0) v 1 0 (omega arith))
      (λ u hu ne. get_or-set_other (replicate most_jobs 0) v u 1 0 ne ∙ get_or-replicate {A = ℕ} most_jobs u 0 0 (omega arith)));
}

module _ {e : List ℕ} {off plus : Chain} {v n head tail : ℕ} {q d : List ℕ} (L : Spreading e off plus v n head tail q d) (lq : length q ≡ most_jobs) where
  module _ (hh : head < tail) {x : ℕ} (ex : x ≡ get_or q head 0) where
    long : head < length (take tail q)
    long = let a = L.short in omega (arith, length-take tail q)

    placed : get_or (take tail q) head 0 ≡ x
    placed = get_or-take tail q head 0 hh ∙ sym ex

    inside : (m : Model) → OnGraph e off plus n m → x < n
    inside m G = rw placed at (waves.wave_in (L.keeps m G) long)

    -- what no calls could have left
    pub spreading_out : {u : ℕ} → n ≤ x → Ways e off plus v u n false
    spreading_out h = record { is = λ m G. absurd (let f : ⊥ = (let a = inside m G in omega arith) in f) }

  pub dist : tail ≤ head → (m : Model) → OnGraph e off plus n m → Distances n (back_of (on_edge m off plus)) v (at d)
  dist h m G = waves.wave_done (L.keeps m G) (let a = L.short in omega (arith, length-take tail q))

module _ {e : List ℕ} {off plus : Chain} {l : List ℕ} {v n head tail x y r : ℕ} {q d q' d' : List ℕ} (T : Meets l y n tail q d r q' d')
    (L : Spreading e off plus v n head tail q d) (S : Sees e off plus x l) (ey : y ≡ (get_or d x 0 + 1) % 2 ^ 16) (ex : x ≡ get_or q head 0)
    (hh : head < tail) (hn : n ≤ most_jobs) (lq : length q ≡ most_jobs) where
  module _ (m : Model) (G : OnGraph e off plus n m) where
    abbrev E : Graph
    E = on_edge m off plus

    step : Wave n (back_of E) v (take r q') (suc head) (at d')
    step =
        let hk = inside L lq hh ex m G in
        let there = placed L lq hh ex in
        let W = L.keeps m G in
        let near : get_or d x 0 ≤ n = rw there at (waves.wave_near W (long L lq hh ex)) in
        let s : l ≡ on_outs m off plus x = S.is m G.holds in
        let back : (w : ℕ) → memb w (on_outs m off plus x) ≡ true → (w < n) × (E x w ≡ true) = (λ w j. (G.low x hk w j, j)) in
        let ahead : (w : ℕ) → w < n → E x w ≡ true → memb w (on_outs m off plus x) ≡ true = (λ w hw j. j) in
        let M : Meeting n (back_of E) v (take tail q) head x (get_or d x 0) (on_outs m off plus x) (at d) = rw there at
        (waves.wave_begin W (long L lq hh ex) (on_outs m off plus x) (rw there back) (rw there ahead)) in
        waves.meeting_end (T.keeps (back_of E) v head x (get_or d x 0) [] (ey ∙ mod-eq_of_lt (omega arith) ∙ add-one (get_or d x 0))
        (rw (append-nil, s) M))

  pub spreading_next : Spreading e off plus v n (head + 1) r q' d'
  spreading_next = record { short = T.short; keeps = λ m G. rw add-one (step m G) }

-- ── a way, and the same way back ──

trail_back : (n : ℕ) (E : Graph) {u v : ℕ} {l : List ℕ} → u < n → Trail n E u l v → (m : List ℕ) × Trail n (back_of E) v m u
trail_back n E h (end q) = ([], end (sym q))
trail_back n E h (go {u} {w} hw e T) = let (m, S) = trail_back n E hw T in (m ++ w ∷ [], trail_append n (back_of E) S (go h e (end refl)))

module _ {n : ℕ} {E : Graph} {v u : ℕ} {d : ℕ → ℕ} (D : Distances n (back_of E) v d) (hv : v < n) (hu : u < n) where
  pub way_is : ltb 0 (d u) ≡ leads n E v u
  way_is = look (d u) refl (test (leads n E v u))
    where
      look : (k : ℕ) → d u ≡ k → Test (leads n E v u) → ltb 0 k ≡ leads n E v u
      look zero z (fail e) = rw e
      look zero z (pass e) =
          let (l, T) = (leads_exactly n E v u hv hu).0 e in
          let (m, S) = trail_back n E hv T in
          let (a, b) = D.least u (length m) hu (reach_of_lem n (back_of E) S) in
          absurd (let f : ⊥ = omega arith in f)
      look (suc k) z t =
          let L = trail_least n (back_of E) k u v (D.leads u k hu z) in
          let (m, S) = trail_back n (back_of E) hu L.is in
          lt-ltb 0 (suc k) (omega arith) ∙ sym ((leads_exactly n E v u hv hu).1 (m, S))

pub spreading_done : {e : List ℕ} {off plus : Chain} {v n head tail u : ℕ} {q d : List ℕ} → Spreading e off plus v n head tail q d → length q ≡ most_jobs
    → tail ≤ head → v < n → u < n → Ways e off plus v u n (ltb 0 (get_or d u 0))
spreading_done {off = off} {plus = plus} L lq h hv hu = record { is = λ m G. (way_is {E = on_edge m off plus} (dist L lq h m G) hv hu) }

pub ruleset spreading = (rules, spreading_none, spreading_out, spreading_next, spreading_done)

-- ── the edges that come on, in turn ──

module _ {e : List ℕ} {off plus : Chain} {u v n : ℕ} {b : Bool} (is : b ≡ holds_of plus u v) where
  pub closes_not : b ≡ false → Closes e off plus u v n false
  closes_not q = record { is = λ m G. rw (← is, q) }

  pub closes_way : b ≡ true → {r : Bool} → Ways e off plus v u n r → Closes e off plus u v n r
  closes_way q W = record { is = λ m G. rw (← is, q) (W.is m G) }

-- the loop: what is still to be tried decides; i is the place of the next head
pub record Trying (e : List ℕ) (off plus : Chain) (jobs : List ℕ) (n i : ℕ) : Type 0 where
  pub rest : (m : Model) → OnGraph e off plus n m → turning m off plus (drop (i - 1) jobs) n ≡ turning m off plus jobs n

pub trying_none : (e : List ℕ) (off plus : Chain) (jobs : List ℕ) (n : ℕ) → Trying e off plus jobs n 1
trying_none e off plus jobs n = record { rest = λ m G. refl }

module _ {e : List ℕ} {off plus : Chain} {jobs : List ℕ} {n i : ℕ} (T : Trying e off plus jobs n i) (some : 1 ≤ i) where
  pub trying_done : length jobs ≤ i → Turns e off plus jobs n false
  unfolding turning
  trying_done h = record { is = λ m G. rw (neighbours_drop jobs (i - 1) (omega arith)) at (T.rest m G) }

  module _ (h : i < length jobs) {r : Bool} (C : Closes e off plus (get_or jobs (i - 1) 0) (get_or jobs i 0) n r) where
    pair : neighbours (drop (i - 1) jobs) ≡ (get_or jobs (i - 1) 0, get_or jobs i 0) ∷ neighbours (drop i jobs)
    pair =
        let t : i - 1 + 1 ≡ i = omega arith in
        subst (λ (j : ℕ). neighbours (drop (i - 1) jobs) ≡ (get_or jobs (i - 1) 0, get_or jobs j 0) ∷ neighbours (drop j jobs)) t
        (neighbours_at jobs (i - 1) (omega arith))

    split : (m : Model) → OnGraph e off plus n m → r || turning m off plus (drop i jobs) n ≡ turning m off plus jobs n
    unfolding turning
    split m G = rw (C.is m G) (rw pair at (T.rest m G))

    pub trying_next : r ≡ false → Trying e off plus jobs n (i + 1)
    trying_next q = let t : i + 1 - 1 ≡ i = omega arith in record { rest = rw t (λ m G. rw q at (split m G)) }

    pub trying_hit : r ≡ true → Turns e off plus jobs n true
    trying_hit q = record { is = λ m G. rw q at (split m G) }

pub ruleset trying = (rules, below_at, job_before, closes_not, closes_way, trying_none, trying_done, trying_next, trying_hit)
