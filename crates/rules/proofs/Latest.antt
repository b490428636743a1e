-- Latest starts. `latest_by n E d m k` looks at paths of at most k edges; on a graph without cycles, with k = n, it is the one solution of
-- the equations "latest(v) is the least latest(w) of v's successors w, or m if there is none, minus d(v)". The subtraction is never cut
-- off: starting at its earliest a job ends by then. Assumes nothing.
use Prim.Native.Nat.{ℕ, zero, suc, ◌+◌, ◌-◌, ◌≤◌, ◌<◌, min}
use mathlib.Core.Path.{◌≡◌, refl, sym, ap, ◌∙◌}
use mathlib.Core.Bool.{Bool, true, false, cond}
use mathlib.Core.Logic.{◌⊎◌, inl, inr, ⊎_elim}
use mathlib.Core.List.{List, [], ◌∷◌}
use lib.Dec.{eqb}
use borrow.Author.Tests.{eq-eqb, eqb-true}
use native.Mathlib.Omega.{arith}
use native.Mathlib.Nat.{not-suc-le-zero}
use Rattle.rules.specs.Blocks.{latest, latest_by}
use Rattle.rules.specs.Graphs.{Graph}
use Rattle.rules.specs.Lists.{least, memb}
use Rattle.rules.specs.Routes.{Plan, live}
use Rattle.rules.specs.Scores.{finish, floor_of, is_cyclic, makespan, starts}
use Rattle.rules.specs.Sizes.{duration}
use Rattle.rules.specs.Solved.{Ranks, Solves}
use Rattle.rules.proofs.Members.{or-true}
use Rattle.rules.proofs.Plans.{ranks_of, starts_solve}
use Rattle.rules.proofs.Ranges.{Test, below, clash, fail, greatest_ub, lt_or_le, pass, test}
use Rattle.rules.proofs.Walks.{or_right}

-- ── the least of a number ──

-- a lower bound, and the greatest
pub least_lb : (n : ℕ) (p : ℕ → Bool) (f : ℕ → ℕ) (m b : ℕ) → b ≤ m → ((v : ℕ) → v < n → p v ≡ true → b ≤ f v) → b ≤ least n p f m
least_lb zero p f m b h g = h
least_lb (suc n) p f m b h g = go (p n) refl (least_lb n p f m b h (λ v l. g v (omega arith)))
  where
    go : (t : Bool) → p n ≡ t → b ≤ least n p f m → b ≤ min (least n p f m) (cond t (f n) m)
    go true e ih = let k = g n (omega arith) e in omega arith
    go false e ih = omega arith

pub least_le : (n : ℕ) (p : ℕ → Bool) (f : ℕ → ℕ) (m : ℕ) (v : ℕ) → v < n → p v ≡ true → least n p f m ≤ f v
least_le zero p f m v h e = absurd (not-suc-le-zero h)
least_le (suc n) p f m v h e = ⊎_elim (λ (l : v < n). let ih = least_le n p f m v l e in omega arith) last (below h)
  where
    last : v ≡ n → min (least n p f m) (cond (p n) (f n) m) ≤ f v
    last q = rw (← q, e) (omega arith)

pub least_top : (n : ℕ) (p : ℕ → Bool) (f : ℕ → ℕ) (m : ℕ) → least n p f m ≤ m
least_top zero p f m = omega arith
least_top (suc n) p f m = let ih = least_top n p f m in omega arith

-- it is m, or that of some job
pub least_at : (n : ℕ) (p : ℕ → Bool) (f : ℕ → ℕ) (m : ℕ)
    → (least n p f m ≡ m) ⊎ ((v : ℕ) × (v < n) × (p v ≡ true) × (least n p f m ≡ f v))
least_at zero p f m = inl refl
least_at (suc n) p f m = go (p n) refl (least_at n p f m)
  where
    At : ℕ → ℕ → Type 0
    At k g = (g ≡ m) ⊎ ((v : ℕ) × (v < k) × (p v ≡ true) × (g ≡ f v))

    old : (x : ℕ) → least n p f m ≤ x → At n (least n p f m) → At (suc n) (min (least n p f m) x)
    old x l (inl z) = inl (omega arith)
    old x l (inr (v, h, e, q)) = inr (v, omega arith, e, omega arith)

    go : (t : Bool) → p n ≡ t → At n (least n p f m) → At (suc n) (min (least n p f m) (cond t (f n) m))
    go true e ih = ⊎_elim (λ (l : f n < least n p f m). inr (n, omega arith, e, omega arith))
        (λ (l : least n p f m ≤ f n). old (f n) l ih) (lt_or_le (f n) (least n p f m))
    go false e ih = old m (least_top n p f m) ih

pub least_same : (n : ℕ) (p : ℕ → Bool) (f g : ℕ → ℕ) (m : ℕ) → ((v : ℕ) → v < n → p v ≡ true → f v ≡ g v)
    → least n p f m ≡ least n p g m
least_same zero p f g m h = refl
least_same (suc n) p f g m h =
    rw (least_same n p f g m (λ v l. h v (omega arith))) (ap (λ (x : ℕ). min (least n p g m) x) (go (p n) refl))
  where
    go : (t : Bool) → p n ≡ t → cond t (f n) m ≡ cond t (g n) m
    go true e = h n (omega arith) e
    go false e = refl

pub least_none : (n : ℕ) (p : ℕ → Bool) (f : ℕ → ℕ) (m : ℕ) → ((v : ℕ) → v < n → p v ≡ false) → least n p f m ≡ m
least_none zero p f m h = refl
least_none (suc n) p f m h = rw (h n (omega arith), least_none n p f m (λ v l. h v (omega arith))) (omega arith)

-- ── for code that goes through a list of successors ──

abbrev pub least_of : (ℕ → ℕ) → ℕ → List ℕ → ℕ
least_of f m [] = m
least_of f m (v ∷ l) = min (f v) (least_of f m l)

-- a list that holds just the jobs below n that pass p has the same least
pub least_list : (n : ℕ) (p : ℕ → Bool) (f : ℕ → ℕ) (m : ℕ) (l : List ℕ) → ((v : ℕ) → memb v l ≡ true → (v < n) × (p v ≡ true))
    → ((v : ℕ) → v < n → p v ≡ true → memb v l ≡ true) → least_of f m l ≡ least n p f m
least_list n p f m l h g =
    let a = lower l h in
    let b = least_lb n p f m (least_of f m l) (top l) (λ v k e. upper l v (g v k e)) in
    omega arith
  where
    top : (k : List ℕ) → least_of f m k ≤ m
    top [] = omega arith
    top (v ∷ k) = let ih = top k in omega arith

    lower : (k : List ℕ) → ((v : ℕ) → memb v k ≡ true → (v < n) × (p v ≡ true)) → least n p f m ≤ least_of f m k
    lower [] i = least_top n p f m
    lower (v ∷ k) i =
        let (x, y) = i v (rw (eq-eqb v v refl)) in
        let a = least_le n p f m v x y in
        let b = lower k (λ w e. i w (or_right (eqb w v) e)) in
        omega arith

    upper : (k : List ℕ) (v : ℕ) → memb v k ≡ true → least_of f m k ≤ f v
    upper [] v e = clash e refl
    upper (w ∷ k) v e = ⊎_elim (λ (x : eqb v w ≡ true). rw (eqb-true v w x) (omega arith))
        (λ (x : memb v k ≡ true). let a = upper k v x in omega arith) (or-true {a = eqb v w} e)

-- ── latest starts of a graph ──

module _ (n : ℕ) (E : Graph) (d : ℕ → ℕ) (m : ℕ) where
  -- t are latest starts that the equations hold of
  abbrev pub SolvesLatest : (ℕ → ℕ) → Type 0
  SolvesLatest t = (v : ℕ) → v < n → t v ≡ least n (E v) t m - d v

  module _ (r : ℕ → ℕ) (ranks : Ranks n E r) where
    -- with k at least the ranks above v, one edge more changes nothing
    pub latest_stays : (k v : ℕ) → v < n → n ≤ k + suc (r v) → latest_by n E d m k v ≡ latest_by n E d m (suc k) v
    latest_stays zero v h l =
        ap (λ (x : ℕ). x - d v) (sym (least_none n (E v) (latest_by n E d m 0) m (λ w hw. go w hw (test (E v w)))))
      where
        go : (w : ℕ) → w < n → Test (E v w) → E v w ≡ false
        go w hw (fail e) = e
        go w hw (pass e) =
            let a = ranks.rises v w h hw e in
            let b = ranks.top w hw in
            let f : ⊥ = omega arith in
            absurd f
    latest_stays (suc k) v h l =
        ap (λ (x : ℕ). x - d v) (least_same n (E v) (latest_by n E d m k) (latest_by n E d m (suc k)) m
        (λ w hw e. latest_stays k w hw (let a = ranks.rises v w h hw e in omega arith)))

    -- "without successors, makespan minus duration; else the least latest start of a successor, minus own duration"
    pub latest_solves : SolvesLatest (latest_by n E d m n)
    latest_solves v h = latest_stays n v h (omega arith)

    -- two solutions are one
    pub latest_only : (s t : ℕ → ℕ) → SolvesLatest s → SolvesLatest t → (v : ℕ) → v < n → s v ≡ t v
    latest_only s t p q v h = go (suc n) v h (omega arith)
      where
        go : (k v : ℕ) → v < n → n < k + r v → s v ≡ t v
        go zero v h l = let a = ranks.top v h in let f : ⊥ = omega arith in absurd f
        go (suc k) v h l =
            p v h
            ∙ ap (λ (x : ℕ). x - d v) (least_same n (E v) s t m
            (λ w hw e. go k w hw (let a = ranks.rises v w h hw e in omega arith)))
            ∙ sym (q v h)

  -- no subtraction is cut off: a job that starts at its earliest ends by then
  module _ (s : ℕ → ℕ) (after : (u v : ℕ) → u < n → v < n → E u v ≡ true → s u + d u ≤ s v) (by : (v : ℕ) → v < n → s v + d v ≤ m) where
    ends_by : (k : ℕ) → ((w : ℕ) → w < n → s w ≤ latest_by n E d m k w) → (v : ℕ) → v < n → s v + d v ≤ least n (E v) (latest_by n E d m k) m
    ends_by k ih v h =
        least_lb n (E v) (latest_by n E d m k) m (s v + d v) (by v h) (λ w hw e. let x = ih w hw in let y = after v w h hw e in omega arith)

    pub early_late : (k v : ℕ) → v < n → s v ≤ latest_by n E d m k v
    early_late zero v h = let a = by v h in omega arith
    early_late (suc k) v h = let a = ends_by k (λ w hw. early_late k w hw) v h in omega arith

    pub early_least : (k v : ℕ) → v < n → s v + d v ≤ least n (E v) (latest_by n E d m k) m
    early_least k = ends_by k (early_late k)

-- starts that solve their equations come after their predecessors' finishes, whatever the floors
pub solves_after : (n : ℕ) (E : Graph) (f d s : ℕ → ℕ) → Solves n E f d s
    → (u v : ℕ) → u < n → v < n → E u v ≡ true → s u + d u ≤ s v
solves_after n E f d s S u v hu hv e =
    let a = greatest_ub n (λ u. E u v) (λ u. s u + d u) u hu e in
    let b = S v hv in
    omega arith

-- ── of a plan ──

-- "Makespan: greatest finish"
pub finish_makespan : (p : Plan) → is_cyclic p ≡ false → (v : ℕ) → v < p.base.jobs → finish p v ≤ makespan p
unfolding makespan
finish_makespan p e v h = rw e (greatest_ub p.base.jobs (λ u. true) (finish p) v h refl)

-- x is the least latest start of a successor of v
pub record LeastNext (p : Plan) (v x : ℕ) : Type 0 where
  pub low : (w : ℕ) → w < p.base.jobs → live p v w ≡ true → x ≤ latest p w
  pub met : (w : ℕ) × (w < p.base.jobs) × (live p v w ≡ true) × (x ≡ latest p w)

module _ (p : Plan) (e : is_cyclic p ≡ false) where
  -- the latest starts are the one solution of their equations
  pub latest_solved : SolvesLatest p.base.jobs (live p) (duration p.base) (makespan p) (latest p)
  unfolding latest
  latest_solved =
      let (r, R) = ranks_of p e in
      latest_solves p.base.jobs (live p) (duration p.base) (makespan p) r R

  pub latest_is : (t : ℕ → ℕ) → SolvesLatest p.base.jobs (live p) (duration p.base) (makespan p) t
      → (v : ℕ) → v < p.base.jobs → t v ≡ latest p v
  latest_is t T =
      let (r, R) = ranks_of p e in
      latest_only p.base.jobs (live p) (duration p.base) (makespan p) r R t (latest p) T latest_solved

  -- what a job must end by: the subtraction takes no more than is there
  finish_least : (v : ℕ) → v < p.base.jobs → finish p v ≤ least p.base.jobs (live p v) (latest p) (makespan p)
  unfolding latest
  finish_least = early_least p.base.jobs (live p) (duration p.base) (makespan p) (starts p)
      (solves_after p.base.jobs (live p) (floor_of p.base) (duration p.base) (starts p) (starts_solve p e))
      (finish_makespan p e) p.base.jobs

  latest_exact : (v : ℕ) → v < p.base.jobs
      → latest p v + duration p.base v ≡ least p.base.jobs (live p v) (latest p) (makespan p)
  latest_exact v h = let a = latest_solved v h in let b = finish_least v h in omega arith

  -- the earliest is not after the latest
  pub starts_latest : (v : ℕ) → v < p.base.jobs → starts p v ≤ latest p v
  starts_latest v h = let a = latest_solved v h in let b = finish_least v h in omega arith

  -- a job that starts at its latest ends by the makespan
  pub latest_makespan : (v : ℕ) → v < p.base.jobs → latest p v + duration p.base v ≤ makespan p
  latest_makespan v h =
      let a = latest_exact v h in
      let b = least_top p.base.jobs (live p v) (latest p) (makespan p) in
      omega arith

  -- "Latest start: without successors, makespan minus duration", and it is not cut off
  pub latest_alone : (v : ℕ) → v < p.base.jobs → ((w : ℕ) → w < p.base.jobs → live p v w ≡ false)
      → (duration p.base v ≤ makespan p) × (latest p v ≡ makespan p - duration p.base v)
  latest_alone v h f =
      let a = latest_exact v h in
      let b = least_none p.base.jobs (live p v) (latest p) (makespan p) f in
      (omega arith, omega arith)

  -- with a successor, what v must end by is the least latest start of one
  pub latest_next : (v w : ℕ) → v < p.base.jobs → w < p.base.jobs → live p v w ≡ true
      → LeastNext p v (latest p v + duration p.base v)
  latest_next v w h k l = rw (latest_exact v h) (record {
    low = λ u hu eu. least_le p.base.jobs (live p v) (latest p) (makespan p) u hu eu;
    met = ⊎_elim full (λ x. x) (least_at p.base.jobs (live p v) (latest p) (makespan p));
  })
    where
      x : ℕ
      x = least p.base.jobs (live p v) (latest p) (makespan p)

      full : x ≡ makespan p → (u : ℕ) × (u < p.base.jobs) × (live p v u ≡ true) × (x ≡ latest p u)
      full q =
          let a = least_le p.base.jobs (live p v) (latest p) (makespan p) w k l in
          let b = latest_makespan w k in
          (w, k, l, omega arith)

  -- "else the least latest start of a successor, minus own duration", and it is not cut off
  pub latest_before : (v x : ℕ) → v < p.base.jobs → LeastNext p v x
      → (duration p.base v ≤ x) × (latest p v ≡ x - duration p.base v)
  latest_before v x h X =
      let (w, k, l, q) = X.met in
      let Y = latest_next v w h k l in
      let a = Y.low w k l in
      let (u, i, j, z) = Y.met in
      let b = X.low u i j in
      (omega arith, omega arith)
