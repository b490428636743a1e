-- Laws of the line-up's functions. Assumes nothing.
use Rattle.std.proofs.Common.{◌≡◌, ℕ, zero, suc, ◌+◌, ◌-◌, ◌<◌, ◌≤◌, eqb, List, [], ◌∷◌, ◌++◌, length, get_or, take, drop, set, sym, refl, ap, ◌∙◌, append-nil, add-one, arith, length-take, length-take-le, get_or-set_other, get_or-take, get_or-set_same, take-suc-set, rules, eqb-true}
use lib.Seq.{take-set-le}
use borrow.Author.Tests.{eqb-false}
use Rattle.rules.specs.Lists.{Once}
use Rattle.rules.specs.Sizes.{most_jobs}
use Rattle.rules.proofs.Ranges.{Test, fail, pass, test}
use Rattle.words.proofs.Rows.{row_cons, row_none}
use Rattle.edges.specs.Edges.{Model, Holds}
use Rattle.edges.specs.Lists.{out_of, pre_of, Successors, Predecessors}
use Rattle.graphs.specs.Graph.{at, live, Below}
use Rattle.graphs.specs.Degrees.{Kahn}
use Rattle.graphs.proofs.Bridge.{linked}
use Rattle.graphs.proofs.Kahn as kahn
use Rattle.starts.specs.Lines.{Lows, Tells, Enters, Lined, LinedUp, Lines}

-- ── relax ──

module _ (v k tail : ℕ) (o d : List ℕ) (ek : k ≡ v) (lo : length o ≡ most_jobs) (ld : length d ≡ most_jobs) (ht : tail ≤ most_jobs) where
  at_k : get_or d k 0 ≡ get_or d v 0
  at_k = ap (λ (w : ℕ). get_or d w 0) ek

  -- v is told, and has x predecessors left
  module _ (x : ℕ) (ex : x ≡ get_or d k 0 - 1) (pre : ℕ → List ℕ) (n h : ℕ) (rest : List ℕ) (hn : n ≤ most_jobs)
      (on : Once (v ∷ rest)) (low : Lows n (v ∷ [])) (K : Kahn pre n (take tail o) h (v ∷ rest) (at d)) where
    hv : v < n
    hv = low v (kahn.memb_self v [])

    self : get_or (set d v x) v 0 ≡ get_or d v 0 - 1
    self = get_or-set_same d v x 0 (let a = hv in omega arith) ∙ ex ∙ ap (λ (w : ℕ). w - 1) at_k

    other : (w : ℕ) → (w ≡ v → ⊥) → get_or (set d v x) w 0 ≡ get_or d w 0
    other w q = get_or-set_other d v w x 0 q

    told_some : 0 < get_or d v 0
    told_some = let a = kahn.kahn_deg n pre (take tail o) h v rest (at d) (at (set d v x)) K hv on.0 self other in omega arith

    told_room : length (take tail o) < n
    told_room = kahn.kahn_room n pre (take tail o) h v rest (at d) (at (set d v x)) K hv on.0 self other

    told_stays : 1 < get_or d v 0 → Kahn pre n (take tail o) h rest (at (set d v x))
    told_stays z = kahn.kahn_stays n pre (take tail o) h v rest (at d) (at (set d v x)) K hv on.0 self other z

    told_joins : get_or d v 0 ≡ 1 → Kahn pre n (take tail o ++ v ∷ []) h rest (at (set d v x))
    told_joins z = kahn.kahn_joins n pre (take tail o) h v rest (at d) (at (set d v x)) K hv on.0 self other z

  -- what no calls could have left
  skip : (k < most_jobs → tail < most_jobs → 0 < get_or d k 0 → ⊥) → Tells (v ∷ []) tail o d tail o d
  skip z = record {
    short = ht;
    keeps = λ pre n h rest hn on low K.
        let a = hv _ refl pre n h rest hn on low K in
        let b = told_some _ refl pre n h rest hn on low K in
        let c = told_room _ refl pre n h rest hn on low K in
        absurd (z (omega arith) (omega (arith, length-take tail o)) (omega (arith, at_k)));
  }

  pub relax_out : most_jobs ≤ k → Tells (v ∷ []) tail o d tail o d
  relax_out h = skip (λ a b c. omega arith)

  pub relax_full : most_jobs ≤ tail → Tells (v ∷ []) tail o d tail o d
  relax_full h = skip (λ a b c. omega arith)

  pub relax_zero : get_or d k 0 ≡ 0 → Tells (v ∷ []) tail o d tail o d
  relax_zero h = skip (λ a b c. omega arith)

  module _ (x : ℕ) (ex : x ≡ get_or d k 0 - 1) (hl : tail < most_jobs) where
    -- what is written beyond the jobs placed does not count
    pub relax_stays : (get_or d k 0 ≡ 0 → ⊥) → (get_or d k 0 ≡ 1 → ⊥) → Tells (v ∷ []) tail o d tail (set o tail v) (set d k x)
    relax_stays y z = record {
      short = ht;
      keeps = λ pre n h rest hn on low K.
          let free : take tail (set o tail v) ≡ take tail o = take-set-le tail o tail v (omega arith) in
          rw (ek, free) (told_stays x ex pre n h rest hn on low K (above (get_or d v 0) (λ q. y (at_k ∙ q)) (λ q. z (at_k ∙ q))));
    }
      where
        above : (j : ℕ) → (j ≡ 0 → ⊥) → (j ≡ 1 → ⊥) → 1 < j
        above zero f g = absurd (f refl)
        above (suc zero) f g = absurd (g refl)
        above (suc (suc j)) f g = omega arith

    pub relax_joins : get_or d k 0 ≡ 1 → Tells (v ∷ []) tail o d (tail + 1) (set o tail v) (set d k x)
    relax_joins z = record {
      short = omega arith;
      keeps = λ pre n h rest hn on low K.
          rw (ek, add-one, take-suc-set o tail v (omega arith)) (told_joins x ex pre n h rest hn on low K (sym at_k ∙ z));
    }

-- ── the jobs of a row in turn ──

tells_none : (tail : ℕ) (o d : List ℕ) → tail ≤ most_jobs → Tells [] tail o d tail o d
tells_none tail o d h = record { short = h; keeps = λ pre n i rest hn on low K. K }

tells_then : {v : ℕ} {vs : List ℕ} {tail : ℕ} {o d : List ℕ} {r : ℕ} {o' d' : List ℕ} {r' : ℕ} {o'' d'' : List ℕ}
    → Tells (v ∷ []) tail o d r o' d' → Tells vs r o' d' r' o'' d'' → Tells (v ∷ vs) tail o d r' o'' d''
tells_then {v} {vs} T U = record {
  short = U.short;
  keeps = λ pre n h rest hn on low K.
      U.keeps pre n h rest hn on.1 (λ w e. low w (kahn.memb_later w v vs e))
      (T.keeps pre n h (vs ++ rest) hn on (λ w e. low w (kahn.memb_front w (v ∷ []) vs e)) K);
}

-- the loop of `tell`: once the rest of the row is told, all of it is
pub record Telling (row : List ℕ) (start : ℕ) (o₀ d₀ : List ℕ) (k tail : ℕ) (o d : List ℕ) : Type 0 where
  pub rest : (r : ℕ) (o' d' : List ℕ) → Tells (drop k row) tail o d r o' d' → Tells row start o₀ d₀ r o' d'

pub telling_none : (row : List ℕ) (start : ℕ) (o d : List ℕ) → Telling row start o d 0 start o d
telling_none row start o d = record { rest = λ r o' d' T. T }

module _ {row : List ℕ} {start : ℕ} {o₀ d₀ : List ℕ} {k tail : ℕ} {o d : List ℕ} (L : Telling row start o₀ d₀ k tail o d) where
  pub telling_next : k < length row → {r : ℕ} {o' d' : List ℕ} → Tells (get_or row k 0 ∷ []) tail o d r o' d' → Telling row start o₀ d₀ (k + 1) r o' d'
  telling_next h T = record { rest = λ r o' d' U. L.rest r o' d' (rw (row_cons row k h) (tells_then T U)) }

  pub telling_done : length row ≤ k → tail ≤ most_jobs → Tells row start o₀ d₀ tail o d
  telling_done h s = L.rest tail o d (rw (row_none row k h) (tells_none tail o d s))

-- ── the degrees ──

module _ (v k tail : ℕ) (o d : List ℕ) (lo : length o ≡ most_jobs) (ld : length d ≡ most_jobs) (hv : v < most_jobs) (ht : tail ≤ v) where
  deg_self : get_or (set d v k) v 0 ≡ k
  deg_self = get_or-set_same d v k 0 (omega arith)

  deg_other : (w : ℕ) → w < v → get_or (set d v k) w 0 ≡ get_or d w 0
  deg_other w h = get_or-set_other d v w k 0 (λ q. omega arith)

  pub enter_in : k ≡ 0 → Enters v k tail o d (tail + 1) (set o tail v) (set d v k)
  enter_in z = record {
    short = omega arith;
    keeps = λ pre q K. rw (add-one, take-suc-set o tail v (omega arith))
        (kahn.kahn_job_in pre v (take tail o) (at d) (at (set d v k)) K (deg_self ∙ q) deg_other (sym q ∙ z));
  }

  pub enter_wait : (k ≡ 0 → ⊥) → Enters v k tail o d tail o (set d v k)
  enter_wait z = record {
    short = omega arith;
    keeps = λ pre q K. kahn.kahn_job_wait pre v (take tail o) (at d) (at (set d v k)) K
        (deg_self ∙ q) deg_other (rw (← q) (pos k z));
  }
    where
      pos : (j : ℕ) → (j ≡ 0 → ⊥) → 0 < j
      pos zero f = absurd (f refl)
      pos (suc j) f = omega arith

pub lined_none : (e : List ℕ) (n : ℕ) (o d : List ℕ) → Lined e n 0 0 0 o d
lined_none e n o d = record { short = omega arith; keeps = λ m H b. kahn.kahn_none (pre_of m) (at d) }

pub lined_more : {e row : List ℕ} {n v tail x : ℕ} {o d o' d' : List ℕ} → Lined e n v 0 tail o d → Predecessors e v row → v < n → n ≤ most_jobs
    → Enters v (length row) tail o d x o' d' → Lined e n (v + 1) 0 x o' d'
lined_more L P hv hn T = record {
  short = (let a = T.short in omega arith);
  keeps = λ m H b. rw add-one (T.keeps (pre_of m) (ap length (P.is m H)) (L.keeps m H b));
}

pub lined_all : {e : List ℕ} {n v h tail : ℕ} {o d : List ℕ} → Lined e n v h tail o d → v ≤ n → n ≤ v → Lined e n n h tail o d
lined_all {n} {v} L a b = let q : v ≡ n = omega arith in rw q at L

-- ── the order is passed ──

module _ {e : List ℕ} {n head tail : ℕ} {o d : List ℕ} (L : Lined e n n head tail o d) (hn : n ≤ most_jobs) (lo : length o ≡ most_jobs) where
  size : length (take tail o) ≡ tail
  size = length-take-le tail o (let a = L.short in omega arith)

  module _ (hh : tail ≤ head) (m : Model) (H : Holds e m) (b : Below n m) where
    at_end : Kahn (pre_of m) n (take tail o) (length (take tail o)) [] (at d)
    at_end = let K = L.keeps m H b in let q : head ≡ length (take tail o) = (let a = K.head in omega (arith, size)) in rw q at K

    judged : Test (eqb tail n) → LinedUp m n o (eqb tail n)
    judged (pass q) = rw (q, ← eqb-true tail n q)
        (kahn.kahn_all tail (out_of m) (pre_of m) (rw (eqb-true tail n q) (linked n m H.wf hn b)) (take tail o) (at d)
        (rw (← eqb-true tail n q) at at_end) size)
    judged (fail q) = rw q
        (kahn.circuit_none n (live m) (kahn.kahn_stuck n (out_of m) (pre_of m) (linked n m H.wf hn b) (take tail o) (at d) at_end
        (let a = kahn.kahn_short n (pre_of m) at_end in let s = size in omega (arith, eqb-false tail n q))))

  pub lined_done : tail ≤ head → Lines e n (eqb tail n) o
  lined_done hh = record { is = λ m H b. judged hh m H b (test (eqb tail n)) }

-- the premises stand as `search` reads them best: what the callee promises, the invariant, the rest
module _ {e row : List ℕ} {n head tail u r : ℕ} {o d o' d' : List ℕ} (T : Tells row tail o d r o' d') (L : Lined e n n head tail o d)
    (S : Successors e u row) (eu : u ≡ get_or o head 0) (hh : head < tail) (hn : n ≤ most_jobs) (lo : length o ≡ most_jobs) where
  placed : u ≡ get_or (take tail o) head 0
  placed = eu ∙ sym (get_or-take tail o head 0 hh)

  long : head < length (take tail o)
  long = omega (arith, size L hn lo)

  step : (m : Model) → Holds e m → Below n m → Kahn (pre_of m) n (take r o') (suc head) [] (at d')
  step m H b =
      let N = linked n m H.wf hn b in
      let K = L.keeps m H b in
      let low : u < n = rw placed (K.low (get_or (take tail o) head 0) (kahn.memb_get_or (take tail o) head long)) in
      let K' : Kahn (pre_of m) n (take tail o) (suc head) (out_of m u) (at d) = rw placed
      (kahn.kahn_begin n (out_of m) (pre_of m) N (take tail o) head (at d) K long) in
      T.keeps (pre_of m) n (suc head) [] hn (rw (append-nil, S.is m H) (N.out_once u low))
      (rw (S.is m H) (λ v x. N.out_low u v low x)) (rw (append-nil, S.is m H) K')

  pub lined_next : Lined e n n (head + 1) r o' d'
  lined_next = record { short = T.short; keeps = λ m H b. rw add-one (step m H b) }

-- what the line-up's functions are proved by
pub ruleset lining = (rules, relax_out, relax_full, relax_zero, relax_joins, relax_stays, telling_none, telling_next, telling_done, enter_in, enter_wait, lined_none, lined_more, lined_all, lined_next, lined_done)
