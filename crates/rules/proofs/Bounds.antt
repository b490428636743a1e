-- What fits: at most 4,095 edges, at most 1,024 valid entries, a makespan of at most 2^49, and every part of a score. Assumes nothing.
use Prim.Native.Nat.{ℕ, zero, suc, ◌+◌, ◌-◌, ◌*◌, ◌≤◌, ◌<◌}
use mathlib.Core.Path.{◌≡◌, refl, sym, ap, ◌∙◌}
use mathlib.Core.Bool.{Bool, true, false, not, cond, ◌&&◌}
use mathlib.Core.Logic.{◌⊎◌, inl, inr}
use mathlib.Core.List.{List, [], ◌∷◌, ◌++◌, map}
use native.Mathlib.Omega.{arith}
use native.Mathlib.Nat.{not-suc-le-zero, mul-le-mul_right}
use lib.Dec.{eqb, ltb}
use lib.ListN.{length, get_or, length-append}
use borrow.Author.Tests.{eq-eqb, ne_eqb}
use Rattle.rules.specs.Demands.{edges_of}
use Rattle.rules.specs.Graphs.{Graph, Leads, along, here}
use Rattle.rules.specs.Lists.{Once, Pair, greatest, is_zero, keep, memb, same_pair, sum_below, sum_of, tick, times}
use Rattle.rules.specs.Routes.{Heads, Plan, Route, Stop, but_last, empty_route, holders, in_force, jobs_of, last_first, links, links_of, live, outs, vanish, violates}
use Rattle.rules.specs.Scores.{Within, assigned, assignment, assignment_penalty, cycle_penalty, finish, floor_of, hard_penalty}
use Rattle.rules.specs.Scores.{invalid_entries, invalid_fixed, is_cyclic, makespan, score, times_in, violations, violations_from}
use Rattle.rules.specs.Sizes.{Base, duration, longest, most_entries, most_fixed, most_jobs, most_owners, valid_fixed}
use Rattle.rules.specs.Sound.{Sound}
use Rattle.rules.proofs.Plans.{ranks_of, starts_greatest}
use Rattle.rules.proofs.Ranges.{clash, greatest_lub, same}
use Rattle.rules.proofs.Stages.{never}
use Rattle.rules.proofs.Starts.{leads_rises}
use Rattle.rules.proofs.Stored.{vanish_once, vanish_other, vanish_self}

-- ── sums over the jobs below n ──

pub sum_add : (n : ℕ) (f g : ℕ → ℕ) → sum_below n (λ v. f v + g v) ≡ sum_below n f + sum_below n g
sum_add zero f g = refl
sum_add (suc n) f g = let a = sum_add n f g in omega arith

pub sum_le : (n : ℕ) (f g : ℕ → ℕ) → ((v : ℕ) → v < n → f v ≤ g v) → sum_below n f ≤ sum_below n g
sum_le zero f g h = omega arith
sum_le (suc n) f g h = let a = sum_le n f g (λ v k. h v (omega arith)) in let b = h n (omega arith) in omega arith

pub sum_front : (n : ℕ) (f : ℕ → ℕ) → sum_below (suc n) f ≡ f 0 + sum_below n (λ v. f (suc v))
sum_front zero f = omega arith
sum_front (suc n) f = let a = sum_front n f in omega arith

pub sum_const : (n c : ℕ) → sum_below n (λ v. c) ≡ n * c
sum_const zero c = omega arith
sum_const (suc n) c = let a = sum_const n c in omega arith

-- a job is met at most once below n
sum_none : (n w : ℕ) → n ≤ w → sum_below n (λ v. tick (eqb v w) 0) ≡ 0
sum_none zero w h = refl
sum_none (suc n) w h = rw (ne_eqb n w (λ q. omega arith)) (let a = sum_none n w (omega arith) in omega arith)

sum_one : (n w : ℕ) → sum_below n (λ v. tick (eqb v w) 0) ≤ 1
sum_one zero w = omega arith
sum_one (suc n) w = go (same n w) (sum_one n w)
  where
    go : (n ≡ w) ⊎ (n ≡ w → ⊥) → sum_below n (λ v. tick (eqb v w) 0) ≤ 1 → sum_below n (λ v. tick (eqb v w) 0) + tick (eqb n w) 0 ≤ 1
    go (inl q) ih = rw (eq-eqb n w q) (let a = sum_none n w (omega arith) in omega arith)
    go (inr q) ih = rw (ne_eqb n w q) (omega arith)

-- so a list's jobs are met at most as often as it is long
pub sum_times : (n : ℕ) (l : List ℕ) → sum_below n (λ v. times_in v l) ≤ length l
sum_times n [] = let a = sum_const n 0 in omega arith
sum_times n (w ∷ l) = let a = sum_add n (λ v. tick (eqb v w) 0) (λ v. times_in v l) in let b = sum_one n w in let c = sum_times n l in
    omega arith

module _ {A : Type 0} (f : A → ℕ) where
  -- a sum over a list, by its places
  pub sum_places : (d : A) (l : List A) → sum_of f l ≡ sum_below (length l) (λ u. f (get_or l u d))
  sum_places d [] = refl
  sum_places d (a ∷ l) = let x = sum_places d l in let y = sum_front (length l) (λ u. f (get_or (a ∷ l) u d)) in omega arith

  pub sum_most : (c : ℕ) (d : A) (l : List A) → ((o : ℕ) → f (get_or l o d) ≤ c) → sum_of f l ≤ length l * c
  sum_most c d [] h = omega arith
  sum_most c d (a ∷ l) h = let x = h 0 in let y = sum_most c d l (λ o. h (suc o)) in omega arith

-- ── edges ──

-- the route's edges number at least one less than its stops
pub links_few : (l : List Stop) → length (links l) ≤ length l - 1
links_few [] = omega arith
links_few (a ∷ []) = omega arith
links_few (a ∷ b ∷ l) = go b.1 (links_few (b ∷ l))
  where
    go : (k : Bool) → length (links (b ∷ l)) ≤ length (b ∷ l) - 1
        → length (cond k ((a.0, b.0) ∷ links (b ∷ l)) (links (b ∷ l))) ≤ length (a ∷ b ∷ l) - 1
    go true h = omega arith
    go false h = omega arith

-- all that hold an edge, one after the other
abbrev pub all_links : List Route → List Pair
all_links [] = []
all_links (r ∷ l) = links_of r ++ all_links l

abbrev pub holding : Base → List Route → List Pair
holding b l = valid_fixed b ++ all_links l

pub times_append : (e : Pair) (l m : List Pair) → times e (l ++ m) ≡ times e l + times e m
times_append e [] m = omega arith
times_append e (f ∷ l) m = go (same_pair e f) (times_append e l m)
  where
    go : (k : Bool) → times e (l ++ m) ≡ times e l + times e m → tick k (times e (l ++ m)) ≡ tick k (times e l) + times e m
    go true q = omega arith
    go false q = q

times_links : (e : Pair) (l : List Route) → times e (all_links l) ≡ sum_of (λ r. times e (links_of r)) l
times_links e [] = refl
times_links e (r ∷ l) = let a = times_append e (links_of r) (all_links l) in let b = times_links e l in omega arith

pub holders_times : (b : Base) (l : List Route) (e : Pair) → holders b l e ≡ times e (holding b l)
unfolding holders
holders_times b l e = let x = times_append e (valid_fixed b) (all_links l) in let y = times_links e l in omega arith

links_all : (l : List Route) → length (all_links l) ≤ in_force l - 1
links_all [] = omega arith
links_all (r ∷ l) =
    let a = length-append (links_of r) (all_links l) in
    let b = links_few r.stops in
    let c = links_all l in
    omega arith

keep_few : {A : Type 0} (c : A → Bool) (l : List A) → length (keep c l) ≤ length l
keep_few c [] = omega arith
keep_few c (a ∷ l) = go (c a) (keep_few c l)
  where
    go : (k : Bool) → length (keep c l) ≤ length l → length (cond k (a ∷ keep c l) (keep c l)) ≤ suc (length l)
    go true h = omega arith
    go false h = omega arith

-- "Edges always fit: 3,072 + 1,023 = 4,095": so many hold an edge
pub holding_few : (p : Plan) → Sound p → length (holding p.base p.desk.routes) ≤ most_fixed + (most_entries - 1)
holding_few p S =
    let a = length-append (valid_fixed p.base) (all_links p.desk.routes) in
    let b = keep_few (λ (e : Pair). ltb e.1 p.base.jobs) p.base.fixed in
    let c = links_all p.desk.routes in
    omega (arith, S.loaded.fixed, S.room)

pub times_length_lem : (e : Pair) (l : List Pair) → times e l ≤ length l
times_length_lem e [] = omega arith
times_length_lem e (f ∷ l) = go (same_pair e f) (times_length_lem e l)
  where
    go : (k : Bool) → times e l ≤ length l → tick k (times e l) ≤ suc (length l)
    go true h = omega arith
    go false h = omega arith

-- no edge is held more often
pub holders_few : (p : Plan) → Sound p → (e : Pair) → holders p.base p.desk.routes e ≤ most_fixed + (most_entries - 1)
holders_few p S e =
    let a = holders_times p.base p.desk.routes e in
    let b = times_length_lem e (holding p.base p.desk.routes) in
    let c = holding_few p S in
    omega arith

abbrev tails : List Pair → List ℕ
tails = map (λ (e : Pair). e.0)

tails_length : (l : List Pair) → length (tails l) ≡ length l
tails_length [] = refl
tails_length (e ∷ l) = ap suc (tails_length l)

vanish_length : (v : ℕ) (l : List ℕ) → length l ≤ suc (length (vanish v l))
vanish_length v [] = omega arith
vanish_length v (w ∷ l) = go (eqb v w) (vanish_length v l)
  where
    last_length : (h : ℕ) (l : List ℕ) → length (but_last h l) ≡ length l
    last_length h [] = refl
    last_length h (k ∷ l) = ap suc (last_length k l)

    first_length : (l : List ℕ) → length (last_first l) ≡ length l
    first_length [] = refl
    first_length (h ∷ l) = ap suc (last_length h l)

    go : (k : Bool) → length l ≤ suc (length (vanish v l)) → suc (length l) ≤ suc (length (cond k (last_first l) (w ∷ vanish v l)))
    go true h = let a = first_length l in omega arith
    go false h = omega arith

and_no : (a : Bool) → a && false ≡ false
and_no true = refl
and_no false = refl

-- heads of u, none twice, each of which is of an edge of m, are no more than m's edges from u
heads_few : (u : ℕ) (m : List Pair) (l : List ℕ) → Once l → ((v : ℕ) → memb v l ≡ true → 0 < times (u, v) m)
    → length l ≤ times_in u (tails m)
heads_few u [] [] o h = omega arith
heads_few u [] (v ∷ l) o h = never (not-suc-le-zero (h v (rw (eq-eqb v v refl))))
heads_few u (e ∷ m) l o h = go (same u e.0) (λ l'. heads_few u m l')
  where
    differs : (v : ℕ) → (v ≡ e.1 → ⊥) ⊎ (u ≡ e.0 → ⊥) → same_pair (u, v) e ≡ false
    differs v (inl q) = rw (ne_eqb v e.1 q) (and_no (eqb u e.0))
    differs v (inr q) = rw (ne_eqb u e.0 q)

    other : (v : ℕ) → memb v l ≡ true → (v ≡ e.1 → ⊥) ⊎ (u ≡ e.0 → ⊥) → 0 < times (u, v) m
    other v k q = let z : same_pair (u, v) e ≡ false = differs v q in rw z at (h v k)

    left : (v : ℕ) → memb v (vanish e.1 l) ≡ true → (v ≡ e.1) ⊎ (v ≡ e.1 → ⊥) → 0 < times (u, v) m
    left v k (inl q) = clash k (rw q (vanish_self e.1 l o))
    left v k (inr q) = other v (sym (vanish_other e.1 v l q) ∙ k) (inl q)

    go : (u ≡ e.0) ⊎ (u ≡ e.0 → ⊥)
        → ((l' : List ℕ) → Once l' → ((v : ℕ) → memb v l' ≡ true → 0 < times (u, v) m) → length l' ≤ times_in u (tails m))
        → length l ≤ tick (eqb u e.0) 0 + times_in u (tails m)
    go (inl q) ih =
        let a = ih (vanish e.1 l) (vanish_once e.1 l o) (λ v k. left v k (same v e.1)) in
        let b = vanish_length e.1 l in
        rw (eq-eqb u e.0 q) (omega arith)
    go (inr q) ih = rw (ne_eqb u e.0 q) (let a = ih l o (λ v k. other v k (inr q)) in omega arith)

-- lists that hold no head twice, and only heads of edges of m, have no more edges than m
pub rows_few : (t : Heads) (m : List Pair) → ((u : ℕ) → Once (outs t u)) → ((u v : ℕ) → memb v (outs t u) ≡ true → 0 < times (u, v) m)
    → edges_of t ≤ length m
rows_few t m once held =
    let a = sum_places (λ (l : List ℕ). length l) [] t in
    let b = sum_le (length t) (λ u. length (outs t u)) (λ u. times_in u (tails m)) (λ u k. heads_few u m (outs t u) (once u) (held u)) in
    let c = sum_times (length t) (tails m) in
    let d = tails_length m in
    omega arith

pub above_zero : (x : ℕ) → not (is_zero x) ≡ true → 0 < x
above_zero zero e = clash e refl
above_zero (suc x) e = omega arith

-- "4,095 distinct at most"
pub edges_few : (p : Plan) → Sound p → edges_of p.desk.heads ≤ most_fixed + (most_entries - 1)
edges_few p S = let a = rows_few p.desk.heads m S.kept.tidy.once held in let b = holding_few p S in omega arith
  where
    m : List Pair
    m = holding p.base p.desk.routes

    held : (u v : ℕ) → memb v (outs p.desk.heads u) ≡ true → 0 < times (u, v) m
    held u v k = above_zero (times (u, v) m)
        (sym (ap (λ (x : ℕ). not (is_zero x)) (holders_times p.base p.desk.routes (u, v))) ∙ sym (S.kept.held u v) ∙ k)

-- ── the makespan ──

leads_bound : (n : ℕ) (E : Graph) (f d : ℕ → ℕ) (low top : ℕ) → ((u : ℕ) → f u ≤ low) → ((u : ℕ) → d u ≤ top) → {k v x : ℕ}
    → Leads n E f d k v x → x ≤ low + k * top
leads_bound n E f d low top g h (here {v = v}) = omega (arith, g v)
leads_bound n E f d low top g h (along {u = u} hu e p) = let a = leads_bound n E f d low top g h p in omega (arith, h u)

-- "A duration sum is at most 2^49"
pub finish_few : (p : Plan) → Sound p → is_cyclic p ≡ false → (v : ℕ) → v < p.base.jobs → finish p v ≤ most_jobs * longest
finish_few p S e v h =
    let (r, R) = ranks_of p e in
    let (k, x) = (starts_greatest p e v h).reached in
    let a = leads_rises p.base.jobs (live p) (floor_of p.base) (duration p.base) r R.rises h x in
    let b = R.top v h in
    let c = leads_bound p.base.jobs (live p) (floor_of p.base) (duration p.base) 0 longest (λ u. omega arith)
    S.loaded.short x in
    let d = S.loaded.short v in
    let i : suc k ≤ most_jobs = omega (arith, S.loaded.jobs) in
    let j = mul-le-mul_right longest i in
    omega arith

pub makespan_few : (p : Plan) → Sound p → makespan p ≤ most_jobs * longest
unfolding makespan
makespan_few p S = go (is_cyclic p) refl
  where
    go : (c : Bool) → is_cyclic p ≡ c → cond c 0 (greatest p.base.jobs (λ v. true) (finish p)) ≤ most_jobs * longest
    go true e = omega arith
    go false e = greatest_lub p.base.jobs (λ v. true) (finish p) (most_jobs * longest) (λ v h t. finish_few p S e v h)

-- ── the penalties ──

map_length : (l : List Stop) → length (map (λ (s : Stop). s.0) l) ≡ length l
map_length [] = refl
map_length (s ∷ l) = ap suc (map_length l)

ticks_few : {A : Type 0} (c : A → Bool) (l : List A) → sum_of (λ a. tick (c a) 0) l ≤ length l
ticks_few c [] = omega arith
ticks_few c (a ∷ l) = go (c a) (ticks_few c l)
  where
    go : (k : Bool) → sum_of (λ a. tick (c a) 0) l ≤ length l → tick k 0 + sum_of (λ a. tick (c a) 0) l ≤ suc (length l)
    go true h = omega arith
    go false h = omega arith

violations_few : (b : Base) (o : ℕ) (l : List Route) → violations_from b o l ≤ in_force l
violations_few b o [] = omega arith
violations_few b o (r ∷ l) = let a = ticks_few (violates b o) (jobs_of r) in let c = map_length r.stops in
    let d = violations_few b (suc o) l in omega arith

assigned_few : (n : ℕ) (l : List Route) → sum_below n (assigned l) ≤ in_force l
assigned_few n [] = let a = sum_const n 0 in omega arith
assigned_few n (r ∷ l) =
    let a = sum_add n (λ v. times_in v (jobs_of r)) (assigned l) in
    let b = sum_times n (jobs_of r) in
    let c = map_length r.stops in
    let d = assigned_few n l in
    omega arith

assignment_few : (c : ℕ) → assignment c ≤ 1 + c
assignment_few zero = omega arith
assignment_few (suc c) = omega arith

-- how large the hard penalty can be
abbrev pub most_penalty : ℕ
most_penalty = most_fixed + (most_owners * most_entries + (most_entries + ((most_jobs + most_entries) + most_jobs)))

pub penalty_few : (p : Plan) → Sound p → hard_penalty p ≤ most_penalty
unfolding hard_penalty invalid_fixed invalid_entries violations assignment_penalty cycle_penalty
penalty_few p S =
    let a = ticks_few (λ (e : Pair). not (ltb e.1 p.base.jobs)) p.base.fixed in
    let b = sum_most (λ (r : Route). r.invalid) most_entries empty_route p.desk.routes
    (λ o. let x = (S.reads o).few in omega arith) in
    let c = mul-le-mul_right most_entries S.loaded.owners in
    let d = violations_few p.base 0 p.desk.routes in
    let e = sum_le n (λ v. assignment (assigned l v)) (λ v. 1 + assigned l v) (λ v k. assignment_few (assigned l v)) in
    let f = sum_add n (λ v. 1) (assigned l) in
    let g = sum_const n 1 in
    let h = assigned_few n l in
    let i = cycle_few (is_cyclic p) in
    let j = ap (λ (x : ℕ). x * most_entries) S.rows in
    omega (arith, S.loaded.fixed, S.loaded.jobs, S.room)
  where
    n : ℕ
    n = p.base.jobs

    l : List Route
    l = p.desk.routes

    cycle_few : (k : Bool) → cond k n 0 ≤ n
    cycle_few true = omega arith
    cycle_few false = omega arith

-- every score part fits
pub score_within : (p : Plan) → Sound p → Within (score p)
unfolding score
score_within p S = record {
  hard = hard_penalty p;
  span = makespan p;
  is_hard = refl;
  is_soft = refl;
  hard_fits = let a = penalty_few p S in omega arith;
  span_fits = let a = makespan_few p S in omega arith;
}
