-- One stage of a put, from the edges' words of a plan to those of the next: what `exchange` does by numbers is the rules' stage, and there is
-- room for it. Assumes nothing.
use Rattle.std.proofs.Common.{◌≡◌, ℕ, suc, ◌+◌, ◌*◌, ◌<◌, ◌≤◌, Bool, true, false, eqb, List, [], ◌∷◌, ◌++◌, map, length, get_or, take, drop, set, sym, refl, ap, ◌∙◌, subst, ⊎_elim, arith, length-append, length-set, get_or-set_other, get_or-set_same}
use mathlib.Core.List.{map-map}
use lib.ListN.{length-map}
use Rattle.rules.specs.Lists.{is_zero, keep, memb, Pair, times}
use Rattle.rules.specs.Sizes.{most_jobs}
use Rattle.rules.specs.Routes.{Plan, Route, Heads, outs, alter, vanish, appear, drops, adds, relist, turned, holders, links_of, route_of, empty_route, exchange, staged}
use Rattle.rules.specs.Scores.{times_in}
use Rattle.rules.specs.Sound.{Inside, Read, Sound}
use Rattle.rules.specs.Steps.{staging, turning}
use Rattle.rules.proofs.Ranges.{pass, fail, test, same}
use Rattle.rules.proofs.Tabled.{table_length}
use Rattle.rules.proofs.Stages.{inside_turned, links_inside, sum_at, tells}
use Rattle.rules.proofs.Steps.{push_once}
use Rattle.rules.proofs.Puts.{live_inside}
use Rattle.rules.proofs.Bounds.{holders_few}
use Rattle.edges.specs.Layout.{most_edges}
use Rattle.edges.specs.Rows.{flat}
use Rattle.edges.specs.Edges.{Edge, Model, count_of, more_in, add_edge, Holds}
use Rattle.edges.proofs.Rows.{flat_split, flat_set}
use Rattle.routes.specs.Stops.{words}
use Rattle.routes.specs.Differs.{codes, Differs}
use Rattle.routes.specs.Turning.{tail, head, is_edge, turn_one, turn_all, ReadyAll, heads_all}
use Rattle.routes.specs.Desks.{edges_from, edges_of}
use Rattle.routes.specs.Promises.{Queues}
use Rattle.routes.proofs.Lists.{keep_map}
use Rattle.routes.proofs.Fitting.{Fit, fit, pair_of, heads_in, heads_of, count_at, count_by, outs_row, tail_small}
use Rattle.routes.proofs.OneByOne.{all_fit, turn_fit, put_count}
use Rattle.routes.proofs.Closing.{Given, heads_once, counted, heads_are, tails_are, went, came}
use Rattle.routes.proofs.Codes.{pair_of_lem, edge_of, times_pairs, codes_links, codes_edges, low_stops}
use Rattle.edges.proofs.Plans.{out_is, pre_is, count_is}
use Rattle.routes.proofs.Desking.{model_is}
use Rattle.routes.proofs.Wellformed.{edges_wf, edges_room}

-- ── tables with the same rows ──

-- t and t' hold the same rows, both at least n of them
record Alike (n : ℕ) (t t' : Heads) : Type 0 where
  rows : (u : ℕ) → outs t u ≡ outs t' u
  long : n ≤ length t
  long' : n ≤ length t'

alter_alike : (n : ℕ) (f : ℕ → List ℕ → List ℕ) (t t' : Heads) (e : Pair) → e.0 < n → Alike n t t' → Alike n (alter f t e) (alter f t' e)
alter_alike n f t t' e h A = let b = A.long in let c = A.long' in record {
  rows = λ u. ⊎_elim
      (λ q. rw (
        q,
        get_or-set_same t e.0 (f e.1 (outs t e.0)) [] (omega arith),
        get_or-set_same t' e.0 (f e.1 (outs t' e.0)) [] (omega arith),
        A.rows e.0,
      ))
      (λ q. rw (
        get_or-set_other t e.0 u (f e.1 (outs t e.0)) [] q,
        get_or-set_other t' e.0 u (f e.1 (outs t' e.0)) [] q,
      ) (A.rows u)) (same u e.0);
  long = rw length-set b;
  long' = rw length-set c;
}

-- tests that agree on edges between jobs below n
abbrev Agree : ℕ → (Pair → Bool) → (Pair → Bool) → Type 0
Agree n c c' = (e : Pair) → e.0 < n → e.1 < n → c e ≡ c' e

drops_alike : (n : ℕ) (c c' : Pair → Bool) (l : List Pair) (t t' : Heads) → Agree n c c' → Inside n l → Alike n t t'
    → Alike n (drops c t l) (drops c' t' l)
drops_alike n c c' [] t t' g h A = A
drops_alike n c c' (e ∷ l) t t' g (a, b, h) A = drops_alike n c c' l _ _ g h (rw (g e a b) (elim (test (c' e)) [
  | pass z ↦ rw z (alter_alike n vanish t t' e a A)
  | fail z ↦ rw z A
]))

-- lists that are alike stay alike when the same edges give way
relist_alike : (n : ℕ) (c c' : Pair → Bool) (old new : List Pair) (t t' : Heads) → Agree n c c' → Inside n old → Inside n new
    → Alike n t t' → Alike n (relist t c old new) (relist t' c' old new)
relist_alike n c c' old new t t' g h k A = adds_alike new (drops c t old) (drops c' t' old) k (drops_alike n c c' old t t' g h A)
  where
    adds_alike : (l : List Pair) (t t' : Heads) → Inside n l → Alike n t t' → Alike n (adds t l) (adds t' l)
    adds_alike [] t t' h A = A
    adds_alike (e ∷ l) t t' (a, b, h) A = adds_alike l (alter appear t e) (alter appear t' e) h (alter_alike n appear t t' e a A)

keep_agree : (n : ℕ) (c c' : Pair → Bool) (l : List Pair) → Agree n c c' → Inside n l → keep c l ≡ keep c' l
keep_agree n c c' [] g h = refl
keep_agree n c c' (e ∷ l) g (a, b, h) = rw (g e a b, keep_agree n c c' l g h)

-- ── there is room for edges that come, if there is for all of them ──

more_long : (x : ℕ) (r : List Edge) → length r ≤ length (more_in x r)
unfolding more_in
more_long x [] = omega arith
more_long x (d ∷ r) = let a = more_long x r in elim (test (eqb x d.to)) [ pass z ↦ rw z (omega arith) | fail z ↦ rw z (omega arith) ]

grows : (m : Model) (x : ℕ) → Fit m → length (flat m.succ) ≤ length (flat (turn_one true m x).succ)
unfolding add_edge
grows m x f = elim (test (is_edge x)) [
  | fail e ↦ rw e (omega arith)
  | pass e ↦
      let h : tail x < length m.succ = (let a = tail_small x e in let b = f.rows in omega arith) in
      let a = more_long (head x) (get_or m.succ (tail x) []) in
      rw (e, flat_set m.succ (tail x) (more_in (head x) (get_or m.succ (tail x) [])) h)
      (omega (
        arith,
        simp length-append at (ap length (flat_split m.succ (tail x) h)),
        length-append (flat (take (tail x) m.succ)) (more_in (head x) (get_or m.succ (tail x) []) ++ flat (drop (suc (tail x)) m.succ)),
        length-append (more_in (head x) (get_or m.succ (tail x) [])) (flat (drop (suc (tail x)) m.succ)),
      ))
]

grows_all : (l : List ℕ) (m : Model) → Fit m → length (flat m.succ) ≤ length (flat (turn_all true m l).succ)
unfolding turn_all
grows_all [] m f = omega arith
grows_all (x ∷ l) m f = let a = grows m x f in let b = grows_all l (turn_one true m x) (turn_fit true m x f) in omega arith

ready_all : (l : List ℕ) (m : Model) → Fit m → length (flat (turn_all true m l).succ) < most_edges
    → ((x : ℕ) → is_edge x ≡ true → count_at (turn_all true m l) x < 65535) → ReadyAll true m l
unfolding ReadyAll turn_all
ready_all [] m f h k = tt
ready_all (x ∷ l) m f h k = (
  λ e. let a = grows_all (x ∷ l) m f in let b = put_count (x ∷ l) m f x e in let c = k x e in record { edges = omega arith; times = omega arith },
  ready_all l (turn_one true m x) (turn_fit true m x f) h k,
)

-- ── a stage ──

module _ {p : Plan} {o : ℕ} {x : Route} (S : Sound p) (h : o < p.base.owners) (R : Read p.base.jobs x) (S' : Sound (turning p o x)) where
  abbrev old : List ℕ
  old = codes 0 (words (route_of p o).stops)

  abbrev new : List ℕ
  new = codes 0 (words x.stops)

  abbrev n : ℕ
  n = p.base.jobs

  n_low : n ≤ most_jobs
  n_low = S.loaded.jobs

  model_fit : Fit (edges_of p)
  model_fit = fit (edges_of p) (edges_wf p S)

  old_links : map pair_of old ≡ links_of (route_of p o)
  old_links = codes_links (route_of p o).stops (low_stops n n_low (route_of p o).stops (S.reads o).low) (S.reads o).apart

  new_links : map pair_of new ≡ links_of x
  new_links = codes_links x.stops (low_stops n n_low x.stops R.low) R.apart

  old_inside : Inside n (links_of (route_of p o))
  old_inside = links_inside n (route_of p o).stops (S.reads o).low

  new_inside : Inside n (links_of x)
  new_inside = links_inside n x.stops R.low

  -- what the owner's old route holds is held
  held : (y : ℕ) → times_in y old ≤ count_at (edges_of p) y
  unfolding holders
  held y =
      let a = sum_at (λ r. times (pair_of y) (links_of r)) empty_route p.desk.routes o (let z = S.rows in omega arith) in
      rw (times_pairs, old_links, count_is p S (tail y) (head y)) (omega arith)

  module _ {gone left : List ℕ} (D : Differs old new gone left) (from : (y : ℕ) → memb y gone ≡ true → memb y old ≡ true) where
    given : Given (edges_of p) old new gone left
    given =
        let edges = codes_edges (route_of p o).stops 0 (omega arith) (low_stops n n_low (route_of p o).stops (S.reads o).low) in
        record {
          old_edges = edges;
          new_edges = codes_edges x.stops 0 (omega arith) (low_stops n n_low x.stops R.low);
          gone_edges = λ y m. edges y (from y m);
          held = λ y e. held y;
          differs = D;
        }

    abbrev next : Model
    next = turn_all true (turn_all false (edges_of p) gone) left

    abbrev after : Pair → ℕ
    after e = holders p.base (set p.desk.routes o x) e

    next_fit : Fit next
    next_fit = all_fit true left (turn_all false (edges_of p) gone) (all_fit false gone (edges_of p) model_fit)

    counts : (u v : ℕ) → u < most_jobs → v < most_jobs → count_of next u v ≡ after (u, v)
    counts u v hu hv =
        let y : ℕ = u * most_jobs + v in
        let q = pair_of_lem u v hv in
        let a = counted model_fit given y (edge_of u v hu hv) in
        let b = ap (count_by next) q in
        let c = ap (count_by (edges_of p)) q ∙ count_is p S u v in
        let d : times_in y old ≡ times (u, v) (links_of (route_of p o)) = times_pairs y old ∙ rw (q, old_links) in
        let e : times_in y new ≡ times (u, v) (links_of x) = times_pairs y new ∙ rw (q, new_links) in
        let f = tells p.base p.desk.routes p.desk.heads p.desk.tails o x (let z = S.rows in omega arith) S.reads R (u, v) in
        let g = held y in
        omega arith

    agree : Agree n (λ e. is_zero (count_by next e)) (λ e. is_zero (after e))
    agree e a b = let c = n_low in rw (counts e.0 e.1 (omega arith) (omega arith))

    next_is : next ≡ edges_of (turning p o x)
    unfolding turning staging staged exchange edges_of
    next_is = model_is (turning p o x) next next_fit
        (λ u hu. sym (outs_row next u) ∙ rw (heads_are model_fit given, old_links, new_links)
        ((relist_alike n (λ e. is_zero (count_by next e)) (λ e. is_zero (after e)) (links_of (route_of p o)) (links_of x)
        (heads_of (edges_of p)) p.desk.heads agree old_inside new_inside (record {
          rows = λ u. outs_row (edges_of p) u ∙ out_is p S u;
          long = let a = length-map (edges_of p).succ heads_in in let b = table_length most_jobs (edges_from p) in let c = n_low in omega arith;
          long' = let a = S.kept.tidy.size in omega arith;
        })).rows u))
        (λ u v hu m. counts u v hu (let a = (live_inside (turning p o x) S' u v m).1 in let b = S'.loaded.jobs in omega arith))
        (λ v hv. rw (tails_are model_fit given, old_links, new_links)
        ((relist_alike n (λ e. is_zero (count_by next (turned e))) (λ e. is_zero (after (turned e))) (map turned (links_of (route_of p o)))
        (map turned (links_of x)) (edges_of p).pred p.desk.tails (λ e a b. agree (turned e) b a)
        (inside_turned n (links_of (route_of p o)) old_inside) (inside_turned n (links_of x) new_inside) (record {
          rows = pre_is p S;
          long = let b = table_length most_jobs (outs p.desk.tails) in let c = n_low in omega arith;
          long' = let a = S.kept_tails.tidy.size in omega arith;
        })).rows v))

    -- the heads of edges, each edge once, queue what the heads of all of them do
    once_queues : (c : Pair → Bool) (l : List ℕ) → Queues (heads_once (keep (λ y. c (pair_of y)) l)) (keep c (map pair_of l))
    once_queues c l q = push_once head q (keep (λ y. c (pair_of y)) l) ∙ rw (← keep_map pair_of c l, map-map)

    pub went_queues : Queues (heads_all false (edges_of p) gone) (staging p o x).went
    unfolding staging staged exchange
    went_queues = rw (
      went model_fit given,
      ← keep_agree n (λ e. is_zero (count_by next e)) (λ e. is_zero (after e)) (links_of (route_of p o)) agree old_inside,
      ← old_links,
    )
        (once_queues (λ e. is_zero (count_by next e)) old)

    pub came_queues : Queues (heads_all true (turn_all false (edges_of p) gone) left) (staging p o x).came
    unfolding staging staged exchange
    came_queues = rw (
      came model_fit given,
      ← keep_agree n (λ e. is_zero (count_by (edges_of p) e)) (λ e. is_zero (holders p.base p.desk.routes e)) (links_of x)
          (λ e a b. rw (count_is p S e.0 e.1)) new_inside,
      ← new_links,
    )
        (once_queues (λ e. is_zero (count_by (edges_of p) e)) new)

    pub ready : ReadyAll true (turn_all false (edges_of p) gone) left
    ready = ready_all left (turn_all false (edges_of p) gone) (all_fit false gone (edges_of p) model_fit)
        (rw next_is (let a = edges_room (turning p o x) S' in omega arith))
        (λ y e. rw (next_is, count_is (turning p o x) S' (tail y) (head y)) (let a = holders_few (turning p o x) S' (pair_of y) in omega arith))

    pub staged_holds : {e' : List ℕ} → Holds e' next → Holds e' (edges_of (turning p o x))
    staged_holds {e'} H = subst (Holds e') next_is H
