-- Starts: the greatest duration sum along a path that leads to a job. `start n E f d m` looks at paths of at most m edges; f are the floors.
-- On a graph without cycles `start n E f d n` is the one solution of the equations "start(v) is the greater of v's floor and the greatest
-- start(u) + d(u) of v's predecessors u". Assumes nothing.
use Prim.Native.Nat.{ℕ, zero, suc, ◌+◌, ◌≤◌, ◌<◌, ◌*◌, max}
use mathlib.Core.Path.{◌≡◌, sym, ap, ◌∙◌}
use mathlib.Core.Bool.{true}
use mathlib.Core.Logic.{◌⊎◌, inl, inr}
use native.Mathlib.Omega.{arith}
use native.Mathlib.Nat.{not-suc-le-zero, mul-le-mul_right}
use Rattle.rules.specs.Graphs.{Graph, GreatestSum, Leads, along, here}
use Rattle.rules.specs.Scores.{best, start}
use Rattle.rules.specs.Solved.{Rises, Solves}
use Rattle.rules.proofs.Ranges.{greatest_at, greatest_lub, greatest_same, greatest_tests, greatest_ub, lt_or_le}

-- starts that agree at v's predecessors ask the same of v
pub best_same : (n : ℕ) (E : Graph) (f d s t : ℕ → ℕ) (v : ℕ) → ((u : ℕ) → u < n → E u v ≡ true → s u ≡ t u)
    → best n E f d s v ≡ best n E f d t v
best_same n E f d s t v h =
    ap (max (f v)) (greatest_same n (λ u. E u v) (λ u. s u + d u) (λ u. t u + d u) (λ u k e. ap (λ (x : ℕ). x + d u) (h u k e)))

-- and so do graphs that have the same edges to v
pub best_edges : (n : ℕ) (E F : Graph) (f d s : ℕ → ℕ) (v : ℕ) → ((u : ℕ) → u < n → E u v ≡ F u v) → best n E f d s v ≡ best n F f d s v
best_edges n E F f d s v h = ap (max (f v)) (greatest_tests n (λ u. E u v) (λ u. F u v) (λ u. s u + d u) h)

module _ (n : ℕ) (E : Graph) (f d : ℕ → ℕ) where
  pub start_ub : {k v x : ℕ} (m : ℕ) → k ≤ m → Leads n E f d k v x → x ≤ start n E f d m v
  start_ub zero h here = omega arith
  start_ub (suc m) h here = omega arith
  start_ub zero h (along hu e p) = absurd (not-suc-le-zero h)
  start_ub (suc m) h (along {k = k} {u = u} {v = v} hu e p) =
      let a = start_ub {k = k} m (omega arith) p in
      let b = greatest_ub n (λ u. E u v) (λ u. start n E f d m u + d u) u hu e in
      omega arith

  -- what a path gives, and a number g that is the greater of the floor and it
  up_to : (m v : ℕ) {g : ℕ} → (g ≡ 0) ⊎ ((u : ℕ) × (u < n) × (E u v ≡ true) × (g ≡ start n E f d m u + d u))
      → ((u : ℕ) → (k : ℕ) × (k ≤ m) × Leads n E f d k u (start n E f d m u)) → (k : ℕ) × (k ≤ suc m) × Leads n E f d k v (max (f v) g)
  up_to m v {g} (inl z) ih = let e : max (f v) g ≡ f v = omega arith in (0, omega arith, rw e here)
  up_to m v {g} (inr (u, hu, e, q)) ih = pick (lt_or_le (f v) g)
    where
      pick : (f v < g) ⊎ (g ≤ f v) → (k : ℕ) × (k ≤ suc m) × Leads n E f d k v (max (f v) g)
      pick (inl l) = let (k, h, p) = ih u in let i : max (f v) g ≡ start n E f d m u + d u = omega arith in
          (suc k, omega arith, rw i (along hu e p))
      pick (inr l) = let i : max (f v) g ≡ f v = omega arith in (0, omega arith, rw i here)

  pub start_at : (m v : ℕ) → (k : ℕ) × (k ≤ m) × Leads n E f d k v (start n E f d m v)
  start_at zero v = (0, omega arith, here)
  start_at (suc m) v = up_to m v (greatest_at n (λ u. E u v) (λ u. start n E f d m u + d u)) (λ u. start_at m u)

  -- along a path numbers rise at least as often as it has edges
  pub leads_rises : (r : ℕ → ℕ) → Rises n E r → {k v x : ℕ} → v < n → Leads n E f d k v x → k ≤ r v
  leads_rises r g h here = omega arith
  leads_rises r g h (along {u = u} {v = v} hu e p) = let a = g u v hu h e in let b = leads_rises r g hu p in omega arith

  module _ (r : ℕ → ℕ) (rises : Rises n E r) where
    -- so one more edge changes nothing
    pub start_stays : (m v : ℕ) → v < n → r v ≤ m → start n E f d m v ≡ start n E f d (suc m) v
    start_stays m v h l =
        let (k, hk, p) = start_at (suc m) v in
        let a = start_ub m (let z = leads_rises r rises h p in omega arith) p in
        let (j, hj, q) = start_at m v in
        let b = start_ub (suc m) (omega arith) q in
        omega arith

    pub start_solves : (m : ℕ) → ((v : ℕ) → v < n → r v ≤ m) → Solves n E f d (start n E f d m)
    start_solves m low v h = start_stays m v h (low v h)

    -- the greatest of all paths
    pub start_greatest : (m : ℕ) → ((v : ℕ) → v < n → r v ≤ m) → {v : ℕ} → v < n → GreatestSum n E f d v (start n E f d m v)
    start_greatest m low {v} h = record {
      reached = let (k, a, p) = start_at m v in (k, p);
      greatest = λ k x p. start_ub m (let z = leads_rises r rises h p in let y = low v h in omega arith) p;
    }

    -- two solutions are one
    pub solves_same : (s t : ℕ → ℕ) → Solves n E f d s → Solves n E f d t → (v : ℕ) → v < n → s v ≡ t v
    solves_same s t p q v h = go (suc (r v)) v h (omega arith)
      where
        go : (k v : ℕ) → v < n → r v < k → s v ≡ t v
        go zero v h l = absurd (not-suc-le-zero l)
        go (suc k) v h l =
            p v h ∙ best_same n E f d s t v (λ u hu e. go k u hu (let z = rises u v hu h e in omega arith)) ∙ sym (q v h)

-- ── bounds: nothing saturates ──

-- of starts that are still to be mended too: by k for what they were, and by the rank for what was mended
pub best_bound : (n : ℕ) (E : Graph) (f d r s : ℕ → ℕ) (low top k : ℕ) → ((u : ℕ) → f u ≤ low) → ((u : ℕ) → u < n → d u ≤ top)
    → Rises n E r
    → ((u : ℕ) → u < n → s u ≤ low + (k + r u) * top) → (v : ℕ) → v < n → best n E f d s v ≤ low + (k + r v) * top
best_bound n E f d r s low top k i h q g v hv =
    let z = greatest_lub n (λ u. E u v) (λ u. s u + d u) (low + (k + r v) * top)
    (λ u hu e. let a = g u hu in let b = h u hu in
    let c : suc (k + r u) ≤ k + r v = (let x = q u v hu hv e in omega arith) in
    let y = mul-le-mul_right top c in omega arith) in
    omega (arith, i v)
