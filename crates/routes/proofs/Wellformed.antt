-- A sound plan's models are well formed: what the layers' words ask of their models holds of every plan that calls could leave.
-- Assumes nothing.
use Rattle.std.proofs.Common.{◌≡◌, ℕ, zero, suc, ◌+◌, ◌-◌, ◌<◌, ◌≤◌, Bool, true, false, ◌&&◌, eqb, ◌⊎◌, List, [], ◌∷◌, map, length, get_or, sym, refl, ap, ◌∙◌, subst, inl, inr, ⊎_elim, arith, length-append, eq-eqb, ne_eqb, eqb-true}
use lib.ListN.{length-map, get_or-eq_default}
use Rattle.rules.specs.Lists.{table, memb, Once, tick, count, sum_below, sum_of, less}
use Rattle.rules.specs.Sizes.{most_jobs, most_owners, most_entries, most_fixed}
use Rattle.rules.specs.Routes.{Plan, Route, Stop, outs, holders, route_of, empty_route, jobs_of, in_force, violations_of}
use Rattle.rules.specs.Scores.{assigned}
use Rattle.rules.specs.Sound.{LowStops, Sound}
use Rattle.rules.proofs.Ranges.{clash, same, lt_or_le, count_less, count_same, count_none}
use Rattle.rules.proofs.Members.{or-true}
use Rattle.rules.proofs.Checks.{sum_same}
use Rattle.rules.proofs.Tabled.{table_length, table_at, table_past}
use Rattle.rules.proofs.Puts.{live_inside}
use Rattle.rules.proofs.Bounds.{sum_places, edges_few, above_zero}
use Rattle.edges.specs.Rows.{flat}
use Rattle.edges.specs.Edges.{Edge, Wf, encode as edge_words, times_of, has_edge, AllPos}
use Rattle.routes.specs.Stops.{word}
use Rattle.routes.specs.Store.{row, rows, route_at, encode, Wf as RoutesWf}
use Rattle.routes.specs.Desks.{edges_from, edges_of, routes_of, Desked}
use Rattle.routes.proofs.Lists.{in_first, in_rest}
use Rattle.edges.proofs.Plans.{out_is, pre_is}

-- ── a list without a job twice is as long as its jobs are many ──

count_memb : (n : ℕ) (l : List ℕ) → Once l → ((v : ℕ) → memb v l ≡ true → v < n) → length l ≡ count n (λ v. memb v l)
count_memb n [] o h = sym (count_none n (λ v. false) (λ w k. refl))
count_memb n (v ∷ l) (a, o) h =
    let b = count_less n (λ w. memb w (v ∷ l)) v (h v (in_first v l)) (in_first v l) in
    let c = count_same n (λ w. memb w l) (less (λ w. memb w (v ∷ l)) v) (λ w k. without w (same w v)) in
    let d = count_memb n l o (λ w k. h w (in_rest v w l k)) in
    omega arith
  where
    and_true : (b : Bool) → b ≡ b && true
    and_true true = refl
    and_true false = refl

    without : (w : ℕ) → (w ≡ v) ⊎ (w ≡ v → ⊥) → memb w l ≡ less (λ w. memb w (v ∷ l)) v w
    without w (inl q) = rw (q, a, eq-eqb v v refl)
    without w (inr q) = rw (ne_eqb w v q) (and_true (memb w l))

-- ── edges counted by their tails and by their heads ──

count_both : (n m : ℕ) (E : ℕ → ℕ → Bool) → sum_below n (λ u. count m (E u)) ≡ sum_below m (λ v. count n (λ u. E u v))
count_both zero m E = sym (none m)
  where
    none : (m : ℕ) → sum_below m (λ v. 0) ≡ 0
    none zero = refl
    none (suc m) = let a = none m in omega arith
count_both (suc n) m E = let a = count_both n m E in let b = row m in omega arith
  where
    tick_is : (b : Bool) (k : ℕ) → tick b k ≡ k + tick b 0
    tick_is true k = omega arith
    tick_is false k = omega arith

    row : (m : ℕ) → sum_below m (λ v. tick (E n v) (count n (λ u. E u v))) ≡ sum_below m (λ v. count n (λ u. E u v)) + count m (E n)
    row zero = refl
    row (suc m) = omega (arith, row m, tick_is (E n m) (count n (λ u. E u m)), tick_is (E n m) (count m (E n)))

flat_length : {A : Type 0} (l : List (List A)) → length (flat l) ≡ sum_of (λ (r : List A). length r) l
unfolding flat
flat_length [] = refl
flat_length (r ∷ l) = let a = length-append r (flat l) in let b = flat_length l in omega arith

flat_table : {A : Type 0} (n : ℕ) (f : ℕ → List A) → length (flat (table n f)) ≡ sum_below n (λ u. length (f u))
flat_table n f =
    flat_length (table n f) ∙ sum_places (λ (r : List _). length r) [] (table n f)
    ∙ rw (table_length n f) (sum_same n (λ u. length (get_or (table n f) u [])) (λ u. length (f u)) (λ u h. rw (table_at n f [] u h)))

-- a sum over places, some of which lie beyond the list
wide_sum : {A : Type 0} (f : A → ℕ) (d : A) → f d ≡ 0 → (l : List A) (m : ℕ) → length l ≤ m → sum_below m (λ u. f (get_or l u d)) ≡ sum_of f l
wide_sum f d z l zero h = let e : length l ≡ 0 = omega arith in
    ap (λ (j : ℕ). sum_below j (λ u. f (get_or l u d))) (sym e) ∙ sym (sum_places f d l)
wide_sum f d z l (suc m) h = ⊎_elim
    (λ i. let e : length l ≡ suc m = omega arith in ap (λ (j : ℕ). sum_below j (λ u. f (get_or l u d))) (sym e) ∙ sym (sum_places f d l))
    (λ i. let a = wide_sum f d z l m i in let b = ap f (get_or-eq_default l d i) in omega arith) (lt_or_le m (length l))

-- ── the edges' model ──

pos_all : (f : ℕ → ℕ) (l : List ℕ) → ((v : ℕ) → memb v l ≡ true → 0 < f v) → AllPos (map times_of (map (λ (v : ℕ). record { to = v; times = f v }) l))
unfolding AllPos
pos_all f [] h = tt
pos_all f (v ∷ l) h = (h v (in_first v l), pos_all f l (λ w k. h w (in_rest v w l k)))

module _ (p : Plan) (S : Sound p) where
  abbrev t : ℕ → List ℕ
  t = outs p.desk.heads

  abbrev s : ℕ → List ℕ
  s = outs p.desk.tails

  n_low : p.base.jobs ≤ most_jobs
  n_low = S.loaded.jobs

  -- an edge is listed at its tail exactly if it is at its head
  both_ways : (u v : ℕ) → memb v (t u) ≡ memb u (s v)
  both_ways u v = S.kept.held u v ∙ sym (S.kept_tails.held v u)

  head_low : (u v : ℕ) → memb v (t u) ≡ true → v < most_jobs
  head_low u v e = let a = (live_inside p S u v e).1 in let b = n_low in omega arith

  tail_low : (u v : ℕ) → memb u (s v) ≡ true → u < most_jobs
  tail_low u v e = let a = (live_inside p S u v (both_ways u v ∙ e)).0 in let b = n_low in omega arith

  edges_length_lem : length (flat (edges_of p).succ) ≡ sum_below most_jobs (λ u. length (t u))
  unfolding edges_of edges_from
  edges_length_lem = flat_table most_jobs (edges_from p) ∙ sum_same most_jobs (λ u. length (edges_from p u)) (λ u. length (t u)) (λ u h. length-map (t u) _)

  pub edges_room : length (flat (edges_of p).succ) ≤ most_fixed + (most_entries - 1)
  edges_room = subst (λ (k : ℕ). k ≤ most_fixed + (most_entries - 1))
      (sym (edges_length_lem ∙ wide_sum (λ (r : List ℕ). length r) [] refl p.desk.heads most_jobs
      (let a = S.kept.tidy.size in let b = n_low in omega arith))) (edges_few p S)

  -- as many edges at their heads as at their tails
  paired : length (flat (edges_of p).pred) ≡ length (flat (edges_of p).succ)
  unfolding edges_of
  paired =
      flat_table most_jobs s
      ∙ sum_same most_jobs (λ v. length (s v)) (λ v. count most_jobs (λ u. memb v (t u)))
      (λ v h. count_memb most_jobs (s v) (S.kept_tails.tidy.once v) (λ u e. tail_low u v e)
      ∙ count_same most_jobs (λ u. memb u (s v)) (λ u. memb v (t u)) (λ u k. sym (both_ways u v)))
      ∙ sym (count_both most_jobs most_jobs (λ u v. memb v (t u)))
      ∙ sum_same most_jobs (λ u. count most_jobs (λ v. memb v (t u))) (λ u. length (t u))
      (λ u h. sym (count_memb most_jobs (t u) (S.kept.tidy.once u) (head_low u)))
      ∙ sym edges_length_lem

  has_is : (u v : ℕ) → has_edge (edges_of p) u v ≡ memb v (t u)
  unfolding has_edge
  has_is u v = rw (out_is p S u)

  pre_memb : (u v : ℕ) → memb u (get_or (edges_of p).pred v []) ≡ memb u (s v)
  pre_memb u v = rw (pre_is p S v)

  positive : (u : ℕ) → AllPos (map times_of (get_or (edges_of p).succ u []))
  unfolding edges_of edges_from AllPos
  positive u = ⊎_elim
      (λ h. subst (λ (r : List Edge). AllPos (map times_of r)) (sym (table_at most_jobs (edges_from p) [] u h))
      (pos_all (λ v. holders p.base p.desk.routes (u, v)) (t u) (λ v e. above_zero _ (sym (S.kept.held u v) ∙ e))))
      (λ h. subst (λ (r : List Edge). AllPos (map times_of r)) (sym (table_past most_jobs (edges_from p) [] u h)) tt) (lt_or_le u most_jobs)

  pub edges_wf : Wf (edges_of p)
  unfolding edges_of
  edges_wf = record {
    succ_rows = table_length most_jobs (edges_from p);
    pred_rows = table_length most_jobs s;
    room = let a = edges_room in omega arith;
    paired = paired;
    once = λ u. rw (out_is p S u) (S.kept.tidy.once u);
    pred_once = λ v. rw (pre_is p S v) (S.kept_tails.tidy.once v);
    linked = λ u v a b. has_is u v ∙ both_ways u v ∙ sym (pre_memb u v);
    small = λ u v e. head_low u v (sym (has_is u v) ∙ e);
    pred_small = λ u v e. tail_low u v (sym (pre_memb u v) ∙ e);
    positive = positive;
  }

-- ── the routes' model ──

pub low_jobs : (n : ℕ) (l : List Stop) → LowStops n l → (v : ℕ) → memb v (map (λ (s : Stop). s.0) l) ≡ true → v < n
low_jobs n [] L v e = clash e refl
low_jobs n (s ∷ l) (a, L) v e = ⊎_elim (λ (q : eqb v s.0 ≡ true). rw (eqb-true v s.0 q) a) (low_jobs n l L v) (or-true {a = eqb v s.0} e)

pub flat_long : (l : List Route) → length (flat (map row l)) ≡ in_force l
unfolding flat
flat_long [] = refl
flat_long (x ∷ l) =
    length-append (row x) (flat (map row l)) ∙ (let a = length-map x.stops word in let b = flat_long l in omega arith)

module _ (p : Plan) (S : Sound p) where
  few_owners : length p.desk.routes ≤ most_owners
  few_owners = let a = S.rows in let b = S.loaded.owners in omega arith

  -- an owner's route in the words' model is the plan's
  pub route_at_lem : (w : ℕ) → route_at (routes_of p) w ≡ route_of p w
  unfolding routes_of
  route_at_lem w = ⊎_elim (λ h. table_at most_owners (route_of p) empty_route w h)
      (λ h. table_past most_owners (route_of p) empty_route w h
      ∙ sym (get_or-eq_default p.desk.routes empty_route (let a = few_owners in omega arith))) (lt_or_le w most_owners)

  pub routes_force : in_force (routes_of p).routes ≡ in_force p.desk.routes
  unfolding routes_of
  routes_force =
      sum_places stops_in empty_route (table most_owners (route_of p))
      ∙ sum_same most_owners (λ o. stops_in (get_or (table most_owners (route_of p)) o empty_route)) (λ o. stops_in (route_of p o))
      (λ o h. ap stops_in (table_at most_owners (route_of p) empty_route o h))
      ∙ wide_sum stops_in empty_route refl p.desk.routes most_owners few_owners
    where
      stops_in : Route → ℕ
      stops_in r = length r.stops

  pub routes_long : length (flat (rows (routes_of p))) ≡ in_force p.desk.routes
  routes_long = flat_long (routes_of p).routes ∙ routes_force

  pub routes_wf : RoutesWf (routes_of p)
  unfolding routes_of
  routes_wf = record {
    owners = table_length most_owners (route_of p);
    room = subst (λ (k : ℕ). k ≤ most_entries) (sym routes_long) S.room;
    low = λ o v e. let b = S.loaded.jobs in let a = low_jobs p.base.jobs (route_of p o).stops (S.reads o).low v
        (sym (ap (λ (r : Route). memb v (jobs_of r)) (route_at_lem o)) ∙ e) in omega arith;
    violated = table_length most_owners (λ o. violations_of p.base o (route_of p o));
    assigned = table_length most_jobs (assigned p.desk.routes);
    once = S.once;
    small = λ v e. let a = S.waits v e in let b = S.loaded.owners in omega arith;
  }

  -- so every plan that calls could leave has its words, and no promise that goes by them is empty
  pub has_words : Desked (encode (routes_of p)) (edge_words (edges_of p)) p
  has_words = record {
    routes = record { words = refl; wf = routes_wf };
    edges = record { words = refl; wf = edges_wf p S };
    sound = S;
  }
