-- Laws of the functions that find the shown cycle from distances. Assumes nothing.
use Rattle.std.proofs.Common.{◌≡◌, ℕ, zero, suc, ◌+◌, ◌-◌, ◌<◌, ◌≤◌, min, true, List, [], ◌∷◌, ◌++◌, length, get_or, take, drop, set, replicate, sym, refl, ap, ◌∙◌, ⊎_elim, append_assoc, append-nil, not-suc-le-zero, add-one, arith, take-suc-set, drop-set-lt, rules, eq-eqb, ne_eqb}
use mathlib.Core.Option.{none}
use Rattle.rules.specs.Lists.{first, memb}
use Rattle.rules.specs.Shown.{closes, trail}
use Rattle.rules.specs.Sizes.{most_jobs}
use Rattle.rules.proofs.Ranges.{below}
use Rattle.edges.specs.Edges.{Model, Holds}
use Rattle.edges.specs.Lists.{out_of, Successors}
use Rattle.graphs.specs.Graph.{at, live, Below}
use Rattle.graphs.specs.Waves.{Distances, Tight, sweep, nearer, nearest_of, lower_of, lowest_of}
use Rattle.graphs.proofs.Bridge.{linked}
use Rattle.graphs.proofs.Shortest as shortest
use Rattle.words.proofs.Rows.{row_cons, row_none}
use Rattle.shown.specs.Distances.{Measures}
use Rattle.shown.specs.Cycles.{Traces, Closed, Closes, Looped, Cycles}

-- ── the distance of one job ──

module _ (x d b : ℕ) (e : d ≡ x) where
  pub nearer_none : d ≡ 0 → b ≡ nearer x b
  nearer_none z = rw (eq-eqb x 0 (sym e ∙ z))

  module _ (f : d ≡ 0 → ⊥) where
    pub nearer_first : b ≡ 0 → d ≡ nearer x b
    nearer_first z = rw (ne_eqb x 0 (λ q. f (e ∙ q)), eq-eqb b 0 z) e

    module _ (g : b ≡ 0 → ⊥) where
      is_min : nearer x b ≡ min x b
      is_min = rw (ne_eqb x 0 (λ q. f (e ∙ q)), ne_eqb b 0 g)

      pub nearer_min : (r : ℕ) → r ≡ min d b → r ≡ nearer x b
      nearer_min r h = omega (arith, is_min)

module _ (x d y w low : ℕ) (e : d ≡ x) where
  pub lower_other : (d ≡ y → ⊥) → low ≡ lower_of x y w low
  lower_other f = rw (ne_eqb x y (λ q. f (e ∙ q)))

  module _ (f : d ≡ y) where
    pub lower_new : (r : ℕ) → r ≡ min low w → r ≡ lower_of x y w low
    lower_new r h = rw (eq-eqb x y (sym e ∙ f)) (omega arith)

-- ── a scan of a row ──

pub record Sweeping (step : ℕ → ℕ → ℕ) (b₀ : ℕ) (row : List ℕ) (k b : ℕ) : Type 0 where
  pub rest : sweep step b (drop k row) ≡ sweep step b₀ row

pub sweeping_none : (step : ℕ → ℕ → ℕ) (b : ℕ) (row : List ℕ) → Sweeping step b row 0 b
sweeping_none step b row = record { rest = refl }

module _ {step : ℕ → ℕ → ℕ} {b₀ : ℕ} {row : List ℕ} {k b : ℕ} (S : Sweeping step b₀ row k b) where
  pub sweeping_next : k < length row → {c : ℕ} → c ≡ step (get_or row k 0) b → Sweeping step b₀ row (k + 1) c
  sweeping_next h e = record { rest = rw e (rw (row_cons row k h) at S.rest) }

  pub sweeping_done : length row ≤ k → b ≡ sweep step b₀ row
  sweeping_done h = rw (row_none row k h) at S.rest

-- ── the trail ──

-- k places are filled, and u is next
pub record Along (m : Model) (n v x u k : ℕ) (o : List ℕ) : Type 0 where
  pub within : u < n
  pub tight : 0 < x - k → Tight n (live m) v (x - k) u
  pub shows : take k o ++ trail n (live m) (x - k) u v ≡ trail n (live m) x v v

pub record Tracing (e : List ℕ) (v n : ℕ) (d : List ℕ) (x : ℕ) (o₀ : List ℕ) (u k : ℕ) (o : List ℕ) : Type 0 where
  pub beyond : drop x o ≡ drop x o₀
  pub keeps : (m : Model) → Holds e m → Below n m → Distances n (live m) v (at d) → (0 < x → Tight n (live m) v x v) → Along m n v x u k o

pub tracing_none : (e : List ℕ) (v n : ℕ) (d : List ℕ) (x : ℕ) (o : List ℕ) → v < n → Tracing e v n d x o v 0 o
tracing_none e v n d x o hv = record {
  beyond = refl;
  keeps = λ m H b D T. let q : x - 0 ≡ x = omega arith in record { within = hv; tight = rw q T; shows = rw q };
}

module _ {e row : List ℕ} {v n x u u' k w : ℕ} {d o₀ o : List ℕ} (F : w ≡ lowest_of (at d) (x - k) n row) (T : Tracing e v n d x o₀ u k o)
    (P : Successors e u' row) (eu : u' ≡ u) (hk : k < x) (hx : x ≤ n) (hn : n ≤ most_jobs) (lo : length o ≡ most_jobs) where
  onward : (m : Model) → Holds e m → Below n m → Distances n (live m) v (at d) → Along m n v x u k o → Along m n v x w (k + 1) (set o k u)
  onward m H b D A = go (x - k) refl
    where
      go : (c : ℕ) → x - k ≡ c → Along m n v x w (k + 1) (set o k u)
      go zero s = let f : ⊥ = omega arith in absurd f
      go (suc j) s =
          let low : (u w : ℕ) → u < n → memb w (out_of m u) ≡ true → w < n = (λ u w hu i. (linked n m H.wf hn b).out_low u w hu i) in
          let t : Tight n (live m) v (suc j) u = rw s at (A.tight (omega arith)) in
          let ew : w ≡ lowest_of (at d) (suc j) n (out_of m u) = rw (s, P.is m H, eu) at F in
          let more : take (k + 1) (set o k u) ≡ take k o ++ u ∷ [] = rw add-one (take-suc-set o k u (omega arith)) in
          let lj : x - (k + 1) ≡ j = omega arith in
          let c = rw (s, shortest.tight_trail n (out_of m) v (at d) D low j u t A.within w ew) at A.shows in
          record {
            within = shortest.tight_in_lem n (out_of m) v (at d) D low j u t A.within w ew;
            tight = λ i. rw lj (shortest.tight_next n (out_of m) v (at d) D low j u t A.within w ew);
            shows = rw (lj, more) (append_assoc (take k o) (u ∷ []) (trail n (live m) j w v) ∙ c);
          }

  pub tracing_next : Tracing e v n d x o₀ w (k + 1) (set o k u)
  tracing_next = record {
    beyond = drop-set-lt x o k u hk ∙ T.beyond;
    keeps = λ m H b D t. onward m H b D (T.keeps m H b D t);
  }

pub tracing_done : {e : List ℕ} {v n : ℕ} {d : List ℕ} {x : ℕ} {o₀ : List ℕ} {u k : ℕ} {o : List ℕ} → Tracing e v n d x o₀ u k o
    → k ≤ x → x ≤ k → Traces e v n d x o₀ o
tracing_done {e} {v} {n} {d} {x} {o₀} {u} {k} {o} T h i = record {
  beyond = T.beyond;
  is = λ m H b D t.
      let q : k ≡ x = omega arith in
      let z : x - x ≡ 0 = omega arith in
      sym (append-nil (take x o)) ∙ rw (q, z) at (T.keeps m H b D t).shows;
}

-- ── a cycle through v ──

module _ {e row : List ℕ} {v n b x : ℕ} {d : List ℕ} (M : Measures e v n (replicate most_jobs 0) d) (P : Successors e v row)
    (eb : b ≡ nearest_of (at d) 0 row) (ex : x ≡ b) (hn : n ≤ most_jobs) (hv : v < n) where
  module _ (m : Model) (H : Holds e m) (B : Below n m) where
    low : (u w : ℕ) → u < n → memb w (out_of m u) ≡ true → w < n
    low u w hu i = (linked n m H.wf hn B).out_low u w hu i

    right : Distances n (live m) v (at d)
    right = M.is m H B refl

    nearest : nearest_of (at d) 0 (out_of m v) ≡ x
    nearest = sym (ex ∙ eb ∙ ap (nearest_of (at d) 0) (P.is m H))

    -- no cycle has more edges than there are jobs
    short : x ≤ n
    short = go x refl
      where
        go : (c : ℕ) → x ≡ c → x ≤ n
        go zero i = omega arith
        go (suc c) i = let (h, q, t) = shortest.a_cycle n (out_of m) v (at d) right low hv c (nearest ∙ i) in omega arith

  pub closes_far : n < x → (o : List ℕ) → Closes e v n o 0 o
  closes_far h o = record {
    within = omega arith;
    beyond = refl;
    is = λ m H B. let a = short m H B in absurd (let f : ⊥ = omega arith in f);
  }

  pub closes_is : {o o' : List ℕ} → Traces e v n d x o o' → x ≤ n → Closes e v n o x o'
  closes_is {o} {o'} T h = record { within = h; beyond = T.beyond; is = λ m H B. closed m H B x refl (T.is m H B (right m H B)) }
    where
      closed : (m : Model) → Holds e m → Below n m → (c : ℕ) → x ≡ c
          → ((0 < x → Tight n (live m) v x v) → take x o' ≡ trail n (live m) x v v) → Closed m n v o' c
      closed m H B zero i f = shortest.no_cycle n (out_of m) v (at d) (right m H B) (low m H B) hv (nearest m H B ∙ i)
      closed m H B (suc c) i f =
          let (h, q, t) = shortest.a_cycle n (out_of m) v (at d) (right m H B) (low m H B) hv c (nearest m H B ∙ i) in
          (q, rw i at (f (λ p. rw i t)))

-- ── the first job that lies on a cycle ──

pub record Circling (e : List ℕ) (n : ℕ) (o₀ : List ℕ) (v : ℕ) (o : List ℕ) : Type 0 where
  pub same : o ≡ o₀
  pub keeps : (m : Model) → Holds e m → Below n m → (w : ℕ) → w < v → first n (closes n (live m) w) ≡ none

pub circling_none : (e : List ℕ) (n : ℕ) (o : List ℕ) → Circling e n o 0 o
circling_none e n o = record { same = refl; keeps = λ m H b w h. absurd (not-suc-le-zero h) }

pub circling_done : {e : List ℕ} {n : ℕ} {o₀ : List ℕ} {v : ℕ} {o : List ℕ} → Circling e n o₀ v o → n ≤ v → Cycles e n o₀ 0 o
circling_done {e} {n} C h = record {
  within = omega arith;
  beyond = C.same;
  is = λ m H b. shortest.cycle_none n (live m) (λ w k. C.keeps m H b w (omega arith));
}

module _ {e : List ℕ} {n v k : ℕ} {o₀ o o' : List ℕ} (K : Closes e v n o k o') (C : Circling e n o₀ v o) where
  pub circling_some : v < n → 0 < k → Cycles e n o₀ k o'
  circling_some hv p = record { within = K.within; beyond = K.beyond ∙ ap (drop k) C.same; is = λ m H b. look m H b k p (K.is m H b) }
    where
      look : (m : Model) → Holds e m → Below n m → (k : ℕ) → 0 < k → Closed m n v o' k → Looped m n o' k
      look m H b zero p c = let f : ⊥ = omega arith in absurd f
      look m H b (suc k) p (q, t) = rw t (shortest.cycle_at_lem n (live m) v k hv (C.keeps m H b) q)

  pub circling_next : k ≤ 0 → Circling e n o₀ (v + 1) o'
  circling_next z = record {
    same = rw none_found at K.beyond ∙ C.same;
    keeps = λ m H b w h. ⊎_elim (C.keeps m H b w) (λ (q : w ≡ v). rw q (here m H b)) (below (rw add-one at h));
  }
    where
      none_found : k ≡ 0
      none_found = omega arith

      here : (m : Model) → Holds e m → Below n m → first n (closes n (live m) v) ≡ none
      here m H b = rw none_found at (K.is m H b)

-- what these functions are proved by
pub ruleset cycling = (rules, nearer_none, nearer_first, nearer_min, lower_other, lower_new, sweeping_none, sweeping_next, sweeping_done, tracing_none, tracing_next, tracing_done, closes_far, closes_is, circling_none, circling_some, circling_next, circling_done)
