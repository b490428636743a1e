-- What a stage keeps: the stored lists hold an edge exactly if its count, told from the fixed list and the routes in force, is above 0;
-- and where no edge to a job came or went, the lists hold what they held. Assumes nothing.
use Prim.Native.Nat.{ℕ, zero, suc, ◌+◌, ◌≤◌, ◌<◌}
use mathlib.Core.Path.{◌≡◌, refl, sym, ap, ◌∙◌}
use mathlib.Core.Bool.{Bool, true, false, not, cond, ◌&&◌}
use mathlib.Core.Logic.{◌⊎◌, inl, inr, ⊎_elim}
use mathlib.Core.List.{List, [], ◌∷◌, map}
use native.Mathlib.Omega.{arith}
use native.Mathlib.Nat.{not-suc-le-zero}
use lib.Dec.{eqb, ltb}
use lib.ListN.{length, get_or, set, length-set}
use lib.Seq.{get_or-set_same, get_or-set_other}
use borrow.Author.Tests.{eqb-true, ltb-true, lt-ltb}
use Rattle.rules.specs.Lists.{Pair, is_zero, keep, memb, same_pair, sum_of, tick, times}
use Rattle.rules.specs.Reports.{head_of}
use Rattle.rules.specs.Routes.{Heads, Route, Stop, empty_route, exchange, holders, invalid_of, links, links_of, outs, read, relist, staged, stops_of, turned}
use Rattle.rules.specs.Sizes.{Base, most_entries, valid_fixed}
use Rattle.rules.specs.Sound.{Inside, Kept, LowStops, Apart, Joined, Read, Reads}
use Rattle.rules.proofs.Members.{or_false, or-true}
use Rattle.rules.proofs.Ranges.{Test, and_true, clash, fail, pass, same, test}
use Rattle.rules.proofs.Stored.{From, adds_at, adds_tidy, drops_at, drops_tidy, same_pair_lem}

pub never : {A : Type 0} → ⊥ → A
never x = absurd x

-- ── edges between jobs below n ──

pub inside_from : (n : ℕ) (l : List Pair) → Inside n l → From n l
inside_from n [] h = tt
inside_from n (e ∷ l) (a, b, h) = (a, inside_from n l h)

abbrev pub tips : List Pair → List ℕ
tips = map head_of

pub inside_keep : (n : ℕ) (c : Pair → Bool) (l : List Pair) → Inside n l → Inside n (keep c l)
inside_keep n c [] h = tt
inside_keep n c (e ∷ l) (a, b, h) = go (c e) (inside_keep n c l h)
  where
    go : (k : Bool) → Inside n (keep c l) → Inside n (cond k (e ∷ keep c l) (keep c l))
    go true i = (a, b, i)
    go false i = i

pub inside_tips : (n : ℕ) (l : List Pair) → Inside n l → (v : ℕ) → memb v (tips l) ≡ true → v < n
inside_tips n [] h v m = clash m refl
inside_tips n (e ∷ l) (a, b, h) v m =
    ⊎_elim (λ (q : eqb v e.1 ≡ true). rw (eqb-true v e.1 q) b) (inside_tips n l h v) (or-true {a = eqb v e.1} m)

-- an edge that stands in the list is one of them
pub inside_times : (n : ℕ) (l : List Pair) → Inside n l → (u v : ℕ) → (times (u, v) l ≡ 0) ⊎ ((u < n) × (v < n))
inside_times n [] h u v = inl refl
inside_times n (e ∷ l) (a, b, h) u v = go (test (same_pair (u, v) e)) (inside_times n l h u v)
  where
    go : Test (same_pair (u, v) e) → (times (u, v) l ≡ 0) ⊎ ((u < n) × (v < n)) → (times (u, v) (e ∷ l) ≡ 0) ⊎ ((u < n) × (v < n))
    go t (inr x) = inr x
    go (fail s) (inl x) = inl (rw s x)
    go (pass s) (inl x) =
        let (p, q) = and_true {a = eqb u e.0} s in
        inr (rw (eqb-true u e.0 p) a, rw (eqb-true v e.1 q) b)

-- ── sums over routes, one of which becomes another ──

module _ {A : Type 0} (f : A → ℕ) (d : A) where
  pub sum_set : (l : List A) (o : ℕ) (r : A) → o < length l → sum_of f (set l o r) + f (get_or l o d) ≡ sum_of f l + f r
  sum_set [] o r h = absurd (not-suc-le-zero h)
  sum_set (x ∷ l) zero r h = omega arith
  sum_set (x ∷ l) (suc o) r h = let a = sum_set l o r (omega arith) in omega arith

  pub sum_at : (l : List A) (o : ℕ) → o < length l → f (get_or l o d) ≤ sum_of f l
  sum_at [] o h = absurd (not-suc-le-zero h)
  sum_at (x ∷ l) zero h = omega arith
  sum_at (x ∷ l) (suc o) h = let a = sum_at l o (omega arith) in omega arith

  pub sum_zero : (l : List A) → ((o : ℕ) → f (get_or l o d) ≡ 0) → sum_of f l ≡ 0
  sum_zero [] h = refl
  sum_zero (r ∷ l) h = let a = h 0 in let b = sum_zero l (λ o. h (suc o)) in omega arith

-- ── a stage ──

-- lists keep that, if the counts tell what happened
pub relist_kept : (n : ℕ) (t : Heads) (before after : Pair → ℕ) (old new : List Pair) → From n old → From n new
    → ((e : Pair) → after e + times e old ≡ before e + times e new) → ((e : Pair) → times e new ≤ after e)
    → Kept n before t → Kept n after (relist t (λ e. is_zero (after e)) old new)
relist_kept n t before after old new ho hn tells fits K = record {
  tidy = adds_tidy n new _ hn (drops_tidy n c old t ho K.tidy);
  held = λ u v.
      adds_at n new _ u v hn (drops_tidy n c old t ho K.tidy)
      ∙ ap (λ (b : Bool). cond (is_zero (times (u, v) new)) b true) (drops_at n c old t u v ho K.tidy)
      ∙ ap (shape u v) (K.held u v)
      ∙ go (times (u, v) new) (times (u, v) old) (before (u, v)) (after (u, v)) (tells (u, v)) (fits (u, v));
}
  where
    c : Pair → Bool
    c e = is_zero (after e)

    shape : ℕ → ℕ → Bool → Bool
    shape u v b = cond (is_zero (times (u, v) new)) (cond (is_zero (times (u, v) old)) b (cond (c (u, v)) false b)) true

    go : (w o b a : ℕ) → a + o ≡ b + w → w ≤ a
        → cond (is_zero w) (cond (is_zero o) (not (is_zero b)) (cond (is_zero a) false (not (is_zero b)))) true ≡ not (is_zero a)
    go zero zero zero zero q h = refl
    go zero zero zero (suc a) q h = never (omega arith)
    go zero zero (suc b) zero q h = never (omega arith)
    go zero zero (suc b) (suc a) q h = refl
    go zero (suc o) b zero q h = refl
    go zero (suc o) zero (suc a) q h = never (omega arith)
    go zero (suc o) (suc b) (suc a) q h = refl
    go (suc w) o b zero q h = never (omega arith)
    go (suc w) o b (suc a) q h = refl

-- ── edges the other way round ──

pub inside_turned : (n : ℕ) (l : List Pair) → Inside n l → Inside n (map turned l)
inside_turned n [] h = tt
inside_turned n (e ∷ l) (a, b, h) = (b, a, inside_turned n l h)

and_turned : (a b : Bool) → a && b ≡ b && a
and_turned true true = refl
and_turned true false = refl
and_turned false true = refl
and_turned false false = refl

pub times_turned : (e : Pair) (l : List Pair) → times e (map turned l) ≡ times (turned e) l
times_turned e [] = refl
times_turned e (f ∷ l) = rw (and_turned (eqb e.0 f.1) (eqb e.1 f.0), times_turned e l)

pub keep_none : (c : Pair → Bool) (u v : ℕ) (l : List Pair) → c (u, v) ≡ true → memb v (tips (keep c l)) ≡ false → times (u, v) l ≡ 0
keep_none c u v [] h m = refl
keep_none c u v (f ∷ l) h m = go (same_pair (u, v) f) refl (c f) refl (keep_none c u v l h) m
  where
    go : (s : Bool) → same_pair (u, v) f ≡ s → (k : Bool) → c f ≡ k → (memb v (tips (keep c l)) ≡ false → times (u, v) l ≡ 0)
        → memb v (tips (cond k (f ∷ keep c l) (keep c l))) ≡ false → tick s (times (u, v) l) ≡ 0
    go true s true k ih m = clash (and_true {a = eqb u f.0} s).1 (or_false {a = eqb v f.1} m).0
    go true s false k ih m = clash h (ap c (same_pair_lem {u = u} {v = v} {e = f} s) ∙ k)
    go false s true k ih m = ih (or_false {a = eqb v f.1} m).1
    go false s false k ih m = ih m

-- where no edge to v came or went, v has the predecessors that it had
pub relist_same : (n : ℕ) (t t' : Heads) (before after : Pair → ℕ) (old new : List Pair)
    → ((e : Pair) → after e + times e old ≡ before e + times e new) → Kept n before t → Kept n after t' → (u v : ℕ)
    → memb v (tips (keep (λ e. is_zero (before e)) new)) ≡ false → memb v (tips (keep (λ e. is_zero (after e)) old)) ≡ false
    → memb v (outs t u) ≡ memb v (outs t' u)
relist_same n t t' before after old new tells K L u v hc hw =
    K.held u v ∙ go (before (u, v)) refl (after (u, v)) refl (tells (u, v)) ∙ sym (L.held u v)
  where
    go : (b : ℕ) → before (u, v) ≡ b → (a : ℕ) → after (u, v) ≡ a → a + times (u, v) old ≡ b + times (u, v) new
        → not (is_zero b) ≡ not (is_zero a)
    go zero p zero q r = refl
    go (suc b) p (suc a) q r = refl
    go zero p (suc a) q r = let z = keep_none (λ e. is_zero (before e)) u v new (rw p) hc in never (omega arith)
    go (suc b) p zero q r = let z = keep_none (λ e. is_zero (after e)) u v old (rw q) hw in never (omega arith)

-- ── routes ──

pub links_inside : (n : ℕ) (l : List Stop) → LowStops n l → Inside n (links l)
links_inside n [] h = tt
links_inside n (a ∷ []) h = tt
links_inside n (a ∷ b ∷ l) (x, (y, h)) = go b.1 (links_inside n (b ∷ l) (y, h))
  where
    go : (k : Bool) → Inside n (links (b ∷ l)) → Inside n (cond k ((a.0, b.0) ∷ links (b ∷ l)) (links (b ∷ l)))
    go true i = (x, y, i)
    go false i = i

pub empty_read : (n : ℕ) → Read n empty_route
empty_read n = record { low = tt; apart = tt; joined = λ z. tt; few = omega arith }

stops_low : (n : ℕ) (j : Bool) (l : List ℕ) → LowStops n (stops_of n j l)
stops_low n j [] = tt
stops_low n j (v ∷ l) = go (ltb v n) refl (λ k. stops_low n k l)
  where
    go : (x : Bool) → ltb v n ≡ x → ((k : Bool) → LowStops n (stops_of n k l))
        → LowStops n (cond x ((v, j) ∷ stops_of n true l) (stops_of n false l))
    go true e ih = (ltb-true v n e, ih true)
    go false e ih = ih false

stops_apart : (n : ℕ) (l : List ℕ) → Apart (stops_of n false l)
stops_apart n [] = tt
stops_apart n (v ∷ l) = go (ltb v n) (stops_apart n l)
  where
    go : (x : Bool) → Apart (stops_of n false l) → Apart (cond x ((v, false) ∷ stops_of n true l) (stops_of n false l))
    go true ih = refl
    go false ih = ih

stops_count : (n : ℕ) (j : Bool) (l : List ℕ) → length (stops_of n j l) + invalid_of n l ≡ length l
stops_count n j [] = refl
stops_count n j (v ∷ l) = go (ltb v n) (λ k. stops_count n k l)
  where
    go : (x : Bool) → ((k : Bool) → length (stops_of n k l) + invalid_of n l ≡ length l)
        → length (cond x ((v, j) ∷ stops_of n true l) (stops_of n false l)) + tick (not x) (invalid_of n l) ≡ suc (length l)
    go true ih = omega (arith, ih true)
    go false ih = omega (arith, ih false)

pub all_valid : (n v : ℕ) (l : List ℕ) → invalid_of n (v ∷ l) ≡ 0 → (ltb v n ≡ true) × (invalid_of n l ≡ 0)
all_valid n v l e = look (ltb v n) refl e
  where
    look : (b : Bool) → ltb v n ≡ b → tick (not b) (invalid_of n l) ≡ 0 → (ltb v n ≡ true) × (invalid_of n l ≡ 0)
    look true q z = (q, z)
    look false q z = let f : ⊥ = omega arith in absurd f

pub stops_joined : (n : ℕ) (j : Bool) (l : List ℕ) → invalid_of n l ≡ 0 → Joined (stops_of n j l)
stops_joined n j [] z = tt
stops_joined n j (v ∷ []) z = rw (all_valid n v [] z).0 tt
stops_joined n j (v ∷ w ∷ l) z =
    let (a, y) = all_valid n v (w ∷ l) z in
    let (b, x) = all_valid n w l y in
    rw (a, b) (refl, rw b at (stops_joined n true (w ∷ l) y))

pub read_read : (n : ℕ) (l : List ℕ) → length l ≤ most_entries → Read n (read n l)
unfolding read
read_read n l h = record {
  low = stops_low n false l;
  apart = stops_apart n l;
  joined = stops_joined n false l;
  few = let a = stops_count n false l in omega arith;
}

pub reads_set : (n : ℕ) (l : List Route) (o : ℕ) (r : Route) → Reads n l → Read n r → o < length l → Reads n (set l o r)
reads_set n l o r R h k w = go (same w o)
  where
    go : (w ≡ o) ⊎ (w ≡ o → ⊥) → Read n (get_or (set l o r) w empty_route)
    go (inl q) = rw (q, get_or-set_same l o r empty_route k) h
    go (inr q) = rw (get_or-set_other l o w r empty_route q) (R w)

-- ── an owner's route becomes another ──

module _ (b : Base) (l : List Route) (t s : Heads) (o : ℕ) (r : Route) (h : o < length l)
    (R : Reads b.jobs l) (i : Read b.jobs r) where
  old_inside : Inside b.jobs (links_of (get_or l o empty_route))
  old_inside = links_inside b.jobs (get_or l o empty_route).stops (R o).low

  new_inside : Inside b.jobs (links_of r)
  new_inside = links_inside b.jobs r.stops i.low

  pub tells : (e : Pair) → holders b (set l o r) e + times e (links_of (get_or l o empty_route)) ≡ holders b l e + times e (links_of r)
  unfolding holders
  tells e = let a = sum_set (λ r. times e (links_of r)) empty_route l o r h in omega arith

  fits : (e : Pair) → times e (links_of r) ≤ holders b (set l o r) e
  unfolding holders
  fits e =
      let k : o < length (set l o r) = (let z = length-set l o r in omega arith) in
      let a = sum_at (λ r. times e (links_of r)) empty_route (set l o r) o k in
      let q = ap (λ (x : Route). times e (links_of x)) (get_or-set_same l o r empty_route h) in
      omega arith

  pub staged_kept : Kept b.jobs (holders b l) t → Kept b.jobs (holders b (set l o r)) (staged b l t s o r).heads
  unfolding staged exchange
  staged_kept = relist_kept b.jobs t (holders b l) (holders b (set l o r)) (links_of (get_or l o empty_route)) (links_of r)
      (inside_from b.jobs (links_of (get_or l o empty_route)) old_inside) (inside_from b.jobs (links_of r) new_inside)
      tells fits

  pub staged_tails : Kept b.jobs (λ e. holders b l (turned e)) s
      → Kept b.jobs (λ e. holders b (set l o r) (turned e)) (staged b l t s o r).tails
  unfolding staged exchange
  staged_tails = relist_kept b.jobs s (λ e. holders b l (turned e)) (λ e. holders b (set l o r) (turned e))
      (map turned (links_of (get_or l o empty_route))) (map turned (links_of r))
      (inside_from b.jobs (map turned (links_of (get_or l o empty_route))) (inside_turned b.jobs (links_of (get_or l o empty_route)) old_inside))
      (inside_from b.jobs (map turned (links_of r)) (inside_turned b.jobs (links_of r) new_inside))
      (λ e. rw (times_turned e (links_of (get_or l o empty_route)), times_turned e (links_of r)) (tells (turned e)))
      (λ e. rw (times_turned e (links_of r)) (fits (turned e)))

  pub staged_same : Kept b.jobs (holders b l) t → (u v : ℕ) → memb v (tips (staged b l t s o r).came) ≡ false
      → memb v (tips (staged b l t s o r).went) ≡ false → memb v (outs t u) ≡ memb v (outs (staged b l t s o r).heads u)
  unfolding staged exchange
  staged_same K =
      relist_same b.jobs t (staged b l t s o r).heads (holders b l) (holders b (set l o r))
      (links_of (get_or l o empty_route)) (links_of r) tells K (staged_kept K)

  -- what came and what went are edges between jobs below n
  pub staged_inside : Inside b.jobs (staged b l t s o r).came × Inside b.jobs (staged b l t s o r).went
  unfolding staged exchange
  staged_inside = (
    inside_keep b.jobs (λ e. is_zero (holders b l e)) (links_of r) new_inside,
    inside_keep b.jobs (λ e. is_zero (holders b (set l o r) e)) (links_of (get_or l o empty_route)) old_inside,
  )

-- an edge that is held leads between jobs below n
pub held_inside : (b : Base) (l : List Route) → Reads b.jobs l → Inside b.jobs (valid_fixed b) → (u v : ℕ)
    → (holders b l (u, v) ≡ 0) ⊎ ((u < b.jobs) × (v < b.jobs))
unfolding holders
held_inside b l R F u v = go (inside_times b.jobs (valid_fixed b) F u v) (test (ltb u b.jobs && ltb v b.jobs))
  where
    none : ltb u b.jobs && ltb v b.jobs ≡ false → (o : ℕ) → times (u, v) (links_of (get_or l o empty_route)) ≡ 0
    none e o = out
        (inside_times b.jobs (links_of (get_or l o empty_route)) (links_inside b.jobs (get_or l o empty_route).stops (R o).low) u v)
      where
        out : (times (u, v) (links_of (get_or l o empty_route)) ≡ 0) ⊎ ((u < b.jobs) × (v < b.jobs))
            → times (u, v) (links_of (get_or l o empty_route)) ≡ 0
        out (inl x) = x
        out (inr (x, y)) = clash (rw (lt-ltb u b.jobs x, lt-ltb v b.jobs y)) e

    go : (times (u, v) (valid_fixed b) ≡ 0) ⊎ ((u < b.jobs) × (v < b.jobs)) → Test (ltb u b.jobs && ltb v b.jobs)
        → (times (u, v) (valid_fixed b) + sum_of (λ r. times (u, v) (links_of r)) l ≡ 0) ⊎ ((u < b.jobs) × (v < b.jobs))
    go (inr x) t = inr x
    go (inl x) (pass e) = let (p, q) = and_true {a = ltb u b.jobs} e in inr (ltb-true u b.jobs p, ltb-true v b.jobs q)
    go (inl x) (fail e) = inl (let y = sum_zero (λ r. times (u, v) (links_of r)) empty_route l (none e) in omega arith)
