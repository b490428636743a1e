-- Laws of the lowest line-up's functions: the cursor, and the lowest job of degree 0. Assumes nothing.
use Rattle.std.proofs.Common.{◌≡◌, ℕ, suc, ◌+◌, ◌-◌, ◌<◌, ◌≤◌, min, true, false, ◌⊎◌, List, [], ◌∷◌, ◌++◌, length, get_or, take, drop, set, sym, refl, ap, ◌∙◌, inl, inr, ⊎_elim, append-nil, not-suc-le-zero, add-one, arith, length-take-le, get_or-set_other, get_or-set_same, take-suc-set, take_at, drop_at, rules}
use Rattle.rules.specs.Sizes.{most_jobs}
use Rattle.rules.proofs.Ranges.{below, same}
use Rattle.edges.specs.Edges.{Model, Holds}
use Rattle.edges.specs.Lists.{out_of, pre_of, Successors}
use Rattle.graphs.specs.Graph.{at, live, Below}
use Rattle.graphs.specs.Degrees.{Picked, Onward}
use Rattle.graphs.proofs.Bridge.{linked}
use Rattle.graphs.proofs.Kahn as kahn
use Rattle.graphs.proofs.Lowest as lowest
use Rattle.starts.specs.Lines.{Lined}
use Rattle.words.proofs.Rows.{row_cons, row_none}
use Rattle.shown.specs.Lowests.{Clear, Lessens, Readies, Lowest}

-- ── one told ──

module _ (w k low : ℕ) (d : List ℕ) (ek : k ≡ w) (ld : length d ≡ most_jobs) where
  at_k : get_or d k 0 ≡ get_or d w 0
  at_k = ap (λ (v : ℕ). get_or d v 0) ek

  -- what no calls could have left
  skip : (k < most_jobs → 0 < get_or d k 0 → ⊥) → Lessens (w ∷ []) low d low d
  skip z = record {
    keeps = λ n pre l rest hn on lows P C.
        let hw = lows w (kahn.memb_self w []) in
        let a = lowest.picked_some n pre l w rest (at d) (at d) P hw on.0 in
        let b = at_k in absurd (z (omega arith) (omega arith));
  }

  pub lessen_out : most_jobs ≤ k → Lessens (w ∷ []) low d low d
  lessen_out h = skip (λ a b. omega arith)

  pub lessen_zero : get_or d k 0 ≡ 0 → Lessens (w ∷ []) low d low d
  lessen_zero h = skip (λ a b. omega arith)

  module _ (x : ℕ) (ex : x ≡ get_or d k 0 - 1) (hk : k < most_jobs) where
    self : get_or (set d k x) k 0 ≡ x
    self = get_or-set_same d k x 0 (omega arith)

    -- the cursor is right where it comes no higher, and to no place above k unless k keeps a predecessor
    told : (low' : ℕ) → low' ≤ low → (low' ≤ k) ⊎ (0 < x) → Lessens (w ∷ []) low d low' (set d k x)
    told low' h q = record {
      keeps = λ n pre l rest hn on lows P C. (
        lowest.picked_tell n pre l w rest (at d) (at (set d k x)) P (lows w (kahn.memb_self w [])) on.0
            (rw (← ek) (self ∙ ex)) (λ u i. get_or-set_other d k u x 0 (λ p. i (p ∙ ek))),
        record { none = λ v hv z. look C v hv z q (same v k) },
      );
    }
      where
        look : Clear low (at d) → (v : ℕ) → v < low' → get_or (set d k x) v 0 ≡ 0 → (low' ≤ k) ⊎ (0 < x) → (v ≡ k) ⊎ (v ≡ k → ⊥) → ⊥
        look C v hv z (inl g) (inl p) = omega arith
        look C v hv z (inr g) (inl p) = let y : get_or (set d k x) k 0 ≡ 0 = rw p at z in omega (arith, self)
        look C v hv z g (inr p) = C.none v (omega arith) (sym (get_or-set_other d k v x 0 p) ∙ z)

    pub lessen_more : 1 < get_or d k 0 → Lessens (w ∷ []) low d low (set d k x)
    lessen_more z = told low (omega arith) (inr (omega arith))

    pub lessen_lower : (low' : ℕ) → low' ≡ min low k → Lessens (w ∷ []) low d low' (set d k x)
    lessen_lower low' e = told low' (omega arith) (inl (omega arith))

-- ── the jobs of a row in turn ──

lessens_none : (low : ℕ) (d : List ℕ) → Lessens [] low d low d
lessens_none low d = record { keeps = λ n pre l rest hn on lows P C. (P, C) }

lessens_then : {v : ℕ} {vs : List ℕ} {low : ℕ} {d : List ℕ} {r : ℕ} {d' : List ℕ} {r' : ℕ} {d'' : List ℕ} → Lessens (v ∷ []) low d r d'
    → Lessens vs r d' r' d'' → Lessens (v ∷ vs) low d r' d''
lessens_then {v} {vs} T U = record {
  keeps = λ n pre l rest hn on lows P C.
      let (x, y) = T.keeps n pre l (vs ++ rest) hn on (λ w e. lows w (kahn.memb_front w (v ∷ []) vs e)) P C in
      U.keeps n pre l rest hn on.1 (λ w e. lows w (kahn.memb_later w v vs e)) x y;
}

-- the loop of `lessens`: once the rest of the row is told, all of it is
pub record Lessening (row : List ℕ) (from : ℕ) (d₀ : List ℕ) (k low : ℕ) (d : List ℕ) : Type 0 where
  pub rest : (r : ℕ) (d' : List ℕ) → Lessens (drop k row) low d r d' → Lessens row from d₀ r d'

pub lessening_none : (row : List ℕ) (from : ℕ) (d : List ℕ) → Lessening row from d 0 from d
lessening_none row from d = record { rest = λ r d' T. T }

module _ {row : List ℕ} {from : ℕ} {d₀ : List ℕ} {k low : ℕ} {d : List ℕ} (L : Lessening row from d₀ k low d) where
  pub lessening_next : k < length row → {r : ℕ} {d' : List ℕ} → Lessens (get_or row k 0 ∷ []) low d r d' → Lessening row from d₀ (k + 1) r d'
  lessening_next h T = record { rest = λ r d' U. L.rest r d' (rw (row_cons row k h) (lessens_then T U)) }

  pub lessening_done : length row ≤ k → Lessens row from d₀ low d
  lessening_done h = L.rest low d (rw (row_none row k h) (lessens_none low d))

-- ── the lowest of degree 0 ──

-- the cursor goes past a job that is not ready
past : {p : ℕ} {deg : ℕ → ℕ} → Clear p deg → (deg p ≡ 0 → ⊥) → Clear (p + 1) deg
past {p} C f = record { none = λ v h z. ⊎_elim (λ (g : v < p). C.none v g z) (λ (q : v ≡ p). f (rw q at z)) (below (rw add-one at h)) }

pub record Seeking (d : List ℕ) (low p : ℕ) : Type 0 where
  pub clear : Clear low (at d) → Clear p (at d)

pub seeking_none : (d : List ℕ) (low : ℕ) → Seeking d low low
seeking_none d low = record { clear = λ C. C }

module _ {d : List ℕ} {low p : ℕ} (S : Seeking d low p) where
  pub seeking_next : (get_or d p 0 ≡ 0 → ⊥) → Seeking d low (p + 1)
  seeking_next f = record { clear = λ C. past (S.clear C) f }

  pub seeking_found : (n : ℕ) → get_or d p 0 ≡ 0 → Readies d low n p
  seeking_found n z = record { is = λ h. z; clear = S.clear }

  pub seeking_done : {n : ℕ} → n ≤ p → Readies d low n n
  seeking_done h = record { is = λ k. absurd (let f : ⊥ = omega arith in f); clear = λ C. record { none = λ v k. (S.clear C).none v (omega arith) } }

-- ── job after job ──

-- k jobs are placed as the rules do, and the cursor is right
pub record Ahead (m : Model) (n k low : ℕ) (o d : List ℕ) : Type 0 where
  pub picked : Picked n (pre_of m) (take k o) [] (at d)
  pub onward : Onward n (live m) (take k o) (n - k)
  pub clear : Clear low (at d)

pub record Drawing (e : List ℕ) (n k low : ℕ) (o d : List ℕ) : Type 0 where
  pub keeps : (m : Model) → Holds e m → Below n m → Ahead m n k low o d

pub drawing_none : {e : List ℕ} {n t : ℕ} {o d : List ℕ} → Lined e n n 0 t o d → Drawing e n 0 0 o d
drawing_none {e} {n} {t} {o} {d} G = record {
  keeps = λ m H b.
      record {
        picked = lowest.picked_none n (pre_of m) (at d) (λ v h. (G.keeps m H b).degs v h);
        onward = let z : n - 0 ≡ n = omega arith in rw z (lowest.onward_none n (live m));
        clear = record { none = λ v h z. not-suc-le-zero h };
      };
}

module _ {e : List ℕ} {n k low p : ℕ} {o d : List ℕ} (R : Readies d low n p) (D : Drawing e n k low o d) (hk : k < n) (hn : n ≤ most_jobs) where
  left_one : n - k ≡ suc (n - (k + 1))
  left_one = omega arith

  pub drawing_stuck : n ≤ p → (o₀ : List ℕ) → Lowest e n o₀ false o₀
  drawing_stuck h o₀ = record {
    beyond = refl;
    is = λ m H b.
        let A = D.keeps m H b in
        let f = lowest.first_none n (out_of m) (pre_of m) (linked n m H.wf hn b) (take k o) (at d) A.picked
        (λ w i z. (R.clear A.clear).none w (omega arith) z) in
        lowest.onward_stuck n (live m) (take k o) (n - (k + 1)) f (rw left_one at A.onward);
  }

  module _ (hp : p < n) (lo : length o ≡ most_jobs) (ld : length d ≡ most_jobs) where
    self_one : get_or (set d p 1) p 0 ≡ 1
    self_one = get_or-set_same d p 1 0 (omega arith)

    other : (w : ℕ) → (w ≡ p → ⊥) → get_or (set d p 1) w 0 ≡ get_or d w 0
    other w q = get_or-set_other d p w 1 0 q

    -- none below p, and not p
    passed : Clear p (at d) → Clear (p + 1) (at (set d p 1))
    passed C = past (record { none = λ v h z. C.none v h (sym (other v (λ q. omega arith)) ∙ z) }) (λ z. omega (arith, self_one))

    pub drawing_next : {row : List ℕ} → Successors e p row → {r : ℕ} {d' : List ℕ} → Lessens row (p + 1) (set d p 1) r d'
        → Drawing e n (k + 1) r (set o k p) d'
    drawing_next {row} S {r} {d'} T = record { keeps = λ m H b. ahead m H b (D.keeps m H b) }
      where
        behind : take (k + 1) (set o k p) ≡ take k o ++ p ∷ []
        behind = rw add-one (take-suc-set o k p (omega arith))

        ahead : (m : Model) → Holds e m → Below n m → Ahead m n k low o d → Ahead m n (k + 1) r (set o k p) d'
        ahead m H b A =
            let L = linked n m H.wf hn b in
            let z = R.is hp in
            let C = R.clear A.clear in
            let f = lowest.first_is n (out_of m) (pre_of m) L (take k o) (at d) A.picked p hp z C.none in
            let P = lowest.picked_take n (out_of m) (pre_of m) L (take k o) (at d) A.picked p (at (set d p 1)) hp z
            (rw self_one (omega arith)) other in
            let (x, y) = T.keeps n (pre_of m) (take k o ++ p ∷ []) [] hn (rw (append-nil, S.is m H) (L.out_once p hp))
            (rw (S.is m H) (λ w i. L.out_low p w hp i)) (rw (append-nil, S.is m H) P) (passed C) in
            record {
              picked = rw behind x;
              onward = rw behind (lowest.onward_next n (live m) (take k o) (n - (k + 1)) p f (rw left_one at A.onward));
              clear = y;
            }

-- the first n places are written
pub drawing_done : {e : List ℕ} {n k low : ℕ} {o d : List ℕ} → Drawing e n k low o d → {o₀ p : List ℕ} → p ≡ take n o
    → k ≤ n → n ≤ k → n ≤ most_jobs → length o ≡ most_jobs → Lowest e n o₀ true (p ++ drop n o₀)
drawing_done {e} {n} {k} {low} {o} {d} D {o₀} {p} w hk hd hn lo = record {
  beyond = rw w (drop_at (take n o) (drop n o₀) n size);
  is = λ m H b.
      let q : k ≡ n = omega arith in
      let z : n - n ≡ 0 = omega arith in
      rw (w, take_at (take n o) (drop n o₀) n size) (lowest.onward_done n (live m) (take n o) (rw (q, z) at (D.keeps m H b).onward));
}
  where
    size : length (take n o) ≡ n
    size = length-take-le n o (omega arith)

-- what these functions are proved by
pub ruleset lowering = (rules, lessen_out, lessen_zero, lessen_more, lessen_lower, lessening_none, lessening_next, lessening_done, seeking_none, seeking_next, seeking_found, seeking_done, drawing_none, drawing_stuck, drawing_next, drawing_done)
