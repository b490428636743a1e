-- How the four moves keep their promise. Assumes nothing.
use Prim.Native.Nat.{ℕ, zero, suc, ◌+◌, ◌-◌, ◌≤◌, ◌<◌}
use native.Mathlib.Omega.{arith}
use mathlib.Core.Path.{◌≡◌, refl, sym, ap, ◌∙◌}
use mathlib.Core.Bool.{Bool, true, false, cond, not, ◌&&◌}
use mathlib.Core.Option.{Option, none, some}
use mathlib.Core.Logic.{◌⊎◌, inl, inr}
use mathlib.Core.List.{List, [], ◌∷◌, ◌++◌, append_assoc, map}
use lib.Dec.{eqb, ltb}
use lib.ListN.{length, get_or, take, drop, length-drop, length-map, replicate}
use lib.Seq.{sets, length-sets, length-take-le, take-take, take_at, drop_at}
use borrow.Author.Tests.{ne_eqb, le-leb, lt-leb, le-ltb, lt-ltb, ltb-true, ltb-false}
use Rattle.rules.specs.declared.Plan.{Plan as Counts}
use Rattle.rules.specs.declared.Refusal.{Refusal}
use Rattle.rules.specs.declared.Refusal.TheVariants.{BadPositions, BadStore, BrokenRoute, NoSuchOwner, ShortAnswer}
use Rattle.rules.specs.Calls.{Reply, accepted, refused, rerouted, to_move}
use Rattle.rules.specs.Graphs.{Graph}
use Rattle.rules.specs.Lists.{Pair, all_below, is_zero, keep, memb, tick, times}
use Rattle.rules.specs.Moves.{Move, full_check, good_positions, is_fixed, is_moved_cyclic, is_moved_quick, moved, moved_on, moved_stays, new_route, occurs, quick_check}
use Rattle.rules.specs.Refusals.{number_of, first_of, is_broken, no_owner, no_positions, too_few}
use Rattle.rules.specs.Routes.{Plan, Stop, empty_route, jobs_of, route_of}
use Rattle.rules.specs.Scores.{is_cyclic}
use Rattle.rules.specs.Sizes.{Base, base_length, edges_length, falls, is_short, most_entries, most_fixed, most_owners, pair_up, routes_length}
use Rattle.rules.specs.Sound.{LowStops}
use Rattle.rules.proofs.Checks.{below_all, checks_agree_calm, new_jobs}
use Rattle.rules.proofs.Ranges.{Test, clash, fail, lt_or_le, pass, same, test}
use Rattle.routes.specs.Desks.{edges_of, routes_of}
use Rattle.routes.specs.Store.{Holds as RoutesHold, Model, route_at}
use Rattle.graphs.proofs.Kahn.{memb_later, memb_self}
use Rattle.times.proofs.Graphing.{below, live_fun}
use Rattle.stores.specs.Headers.{open_of, counts_of}
use Rattle.stores.specs.Promise.{Heeds, Decided, Held, Promise, Slices, answer_of, lent_of}
use Rattle.stores.specs.Says.{places}
use Rattle.stores.specs.Words.{base_words, from_at, froms, padded, to_at, tos}
use Rattle.stores.proofs.Laying.{padded_length}
use Rattle.stores.proofs.Openings.{open_short, open_some}
use Rattle.stores.proofs.Promises.{closed_kept, decided_read, decided_refused, opened_kept, refusal_long, heeds_first, heeds_later}
use Rattle.times.specs.Words.{cyclic_in}
use Rattle.stores.proofs.Scores.{timed}
use Rattle.edges.proofs.Listing.{between}
use Rattle.rules.proofs.Tabled.{table_at}
use Rattle.stores.proofs.Tabled.{places_take, taken_sets}
use Rattle.moves.specs.Calls.{Answers, Begins, Finishes, Judges, Opens, Places, Route, Words, says_moved}
use Rattle.probes.specs.Judges.{Checks, on_for, stays_for, verdicts}
use Rattle.probes.specs.Pairs.{Rising}
use Rattle.probes.specs.declared.checks.Checked.{Checked}
use Rattle.moves.specs.Stopping.{Stops, Whole}
use Rattle.moves.specs.declared.moved.Moved.{Moved}
use Rattle.std.specs.Prelude.{Result, Ok, Err}

-- ── the fixed pairs ──

-- the k words from f on, of a slice that begins with the words b
part_of : (l b : List ℕ) (n f k : ℕ) → take n l ≡ b → f + k ≤ n → take k (drop f l) ≡ take k (drop f b)
part_of l b n f k e h =
    let q : f + k - f ≡ k = omega arith in
    ap (λ (j : ℕ). take j (drop f l)) (sym q) ∙ between f (f + k) l (omega arith)
    ∙ ap (drop f) (sym (take-take (f + k) n l h) ∙ ap (take (f + k)) e)
    ∙ sym (between f (f + k) b (omega arith)) ∙ ap (λ (j : ℕ). take j (drop f b)) q

pairs_up : (l : List Pair) → pair_up (map (λ (e : Pair). e.0) l) (map (λ (e : Pair). e.1) l) ≡ l
pairs_up [] = refl
pairs_up (e ∷ l) = ap (λ (r : List Pair). e ∷ r) (pairs_up l)

module _ (base : List ℕ) (b : Base) (held : take base_length base ≡ base_words b) (few : length b.fixed ≤ most_fixed) where
  froms_are : take (length b.fixed) (drop from_at base) ≡ froms b
  unfolding base_words
  froms_are =
      part_of base (base_words b) base_length from_at (length b.fixed) held (omega arith)
      ∙ front (froms b) (most_fixed - length (froms b)) _ (length-map b.fixed (λ (e : Pair). e.0))
    where
      front : (x : List ℕ) (j : ℕ) (y : List ℕ) → length x ≡ length b.fixed → take (length b.fixed) ((x ++ replicate j 0) ++ y) ≡ x
      front x j y q = ap (take (length b.fixed)) (append_assoc x (replicate j 0) y)
          ∙ take_at x (replicate j 0 ++ y) (length b.fixed) q

  tos_are : take (length b.fixed) (drop to_at base) ≡ tos b
  unfolding base_words
  tos_are =
      part_of base (base_words b) base_length to_at (length b.fixed) held (omega arith)
      ∙ ap (take (length b.fixed)) (drop_at (padded most_fixed (froms b)) (padded most_fixed (tos b) ++ _) most_fixed
      (padded_length most_fixed (froms b) 0 (let a = length-map b.fixed (λ (e : Pair). e.0) in omega arith)))
      ∙ ap (take (length b.fixed)) (append_assoc (tos b) (replicate (most_fixed - length (tos b)) 0) _)
      ∙ take_at (tos b) _ (length b.fixed) (length-map b.fixed (λ (e : Pair). e.1))

  module _ {k : ℕ} {from to : List ℕ} (ek : k ≡ length b.fixed) (ef : from ≡ take k (drop from_at base)) (et : to ≡ take k (drop to_at base)) where
    pub pairs_are : pair_up from to ≡ b.fixed
    pairs_are = rw (ef, et, ek, froms_are, tos_are) (pairs_up b.fixed)

    pub rising_is : falls 0 (froms b) ≡ false → Rising from
    rising_is h = rw (ef, ek, froms_are) (rises h)
      where
        rises : falls 0 (froms b) ≡ false → Rising (froms b)
        rises h = record { is = h }

-- a pair whose head is below n is one of the valid ones
valid_times : (n u v : ℕ) (l : List Pair) → v < n → times (u, v) (keep (λ e. ltb e.1 n) l) ≡ times (u, v) l
valid_times n u v [] h = refl
valid_times n u v ((a, b) ∷ l) h = look (test (ltb b n)) (valid_times n u v l h)
  where
    no : ltb b n ≡ false → (v ≡ b) ⊎ (v ≡ b → ⊥) → eqb u a && eqb v b ≡ false
    no q (inl e) = let x = ltb-false b n q in absurd (omega arith)
    no q (inr e) = rw (ne_eqb v b e) (none (eqb u a))
      where
        none : (c : Bool) → c && false ≡ false
        none true = refl
        none false = refl

    look : Test (ltb b n) → times (u, v) (keep (λ e. ltb e.1 n) l) ≡ times (u, v) l
        → times (u, v) (cond (ltb b n) ((a, b) ∷ keep (λ e. ltb e.1 n) l) (keep (λ e. ltb e.1 n) l))
        ≡ tick (eqb u a && eqb v b) (times (u, v) l)
    look (pass q) ih = rw (q, ih)
    look (fail q) ih = rw (q, no q (same v b), ih)

-- ── the jobs of a route ──

pub route_long : {p : Plan} {o : ℕ} {old : List ℕ} → Route p o old → length old ≡ length (route_of p o).stops
route_long {p} {o} R = ap length R.are ∙ length-map (route_of p o).stops (λ (s : Stop). s.0)

low_stops : (n : ℕ) (l : List Stop) → LowStops n l → all_below n (map (λ (s : Stop). s.0) l) ≡ true
low_stops n [] h = refl
low_stops n (s ∷ l) (a, h) = rw (lt-ltb s.0 n a, low_stops n l h)

all_low : (n : ℕ) (l : List ℕ) → ((v : ℕ) → memb v l ≡ true → v < n) → all_below n l ≡ true
all_low n [] f = refl
all_low n (v ∷ l) f =
    rw (lt-ltb v n (f v (memb_self v l)), all_low n l (λ w e. f w (memb_later w v l e)))

-- ── the verdicts ──

counted : {base e tms : List ℕ} {plan : Counts} {p : Plan} → Words base e tms plan p → plan.jobs ≡ p.base.jobs
counted W = ap (λ (x : Counts). x.jobs) W.counts

module _ {base e tms : List ℕ} {plan : Counts} {p : Plan} (W : Words base e tms plan p) {o : ℕ} {old : List ℕ} (R : Route p o old)
    (new : List ℕ) (m : Move) (good : good_positions (length old) m ≡ true) (made : new ≡ moved m old) where
  good_stops : good_positions (length (route_of p o).stops) m ≡ true
  good_stops = rw (route_long R) at good

  new_is : new ≡ new_route p o m
  unfolding new_route
  new_is = made ∙ ap (moved m) R.are

  old_low : all_below p.base.jobs old ≡ true
  old_low = rw R.are (low_stops p.base.jobs (route_of p o).stops (W.sound.reads o).low)

  new_low : all_below p.base.jobs new ≡ true
  new_low = rw new_is (all_low p.base.jobs (new_route p o m) (λ v q.
      below_all p.base.jobs (jobs_of (route_of p o)) (rw R.are at old_low) v
      (sym (new_jobs p o m good_stops v) ∙ q)))

  on_moved : on_for old new (edges_of p) (is_fixed p) ≡ moved_on p o m
  unfolding moved_on
  on_moved = rw (R.are, new_is, live_fun p W.sound)

  stays_moved : stays_for old new (edges_of p) (is_fixed p) ≡ moved_stays p o m
  unfolding moved_stays
  stays_moved = rw (R.are, new_is, live_fun p W.sound)

  abbrev quick_of : Bool
  quick_of = quick_check p.base.jobs (on_for old new (edges_of p) (is_fixed p)) (stays_for old new (edges_of p) (is_fixed p))

  abbrev full_of : Bool
  full_of = full_check p.base.jobs (on_for old new (edges_of p) (is_fixed p))

  quick_moved : quick_of ≡ is_moved_quick p o m
  unfolding is_moved_quick
  quick_moved =
      ap (λ (E : Graph). quick_check p.base.jobs E (stays_for old new (edges_of p) (is_fixed p))) on_moved
      ∙ ap (λ (S : Graph). quick_check p.base.jobs (moved_on p o m) S) stays_moved

  full_moved : full_of ≡ is_moved_cyclic p o m
  unfolding is_moved_cyclic
  full_moved = ap (full_check p.base.jobs) on_moved

  module _ {from to : List ℕ} {was : Bool}
      (ef : from ≡ take plan.fixed (drop from_at base)) (et : to ≡ take plan.fixed (drop to_at base)) (ew : was ≡ cyclic_in tms) where
    fixed_long : plan.fixed ≡ length p.base.fixed
    fixed_long = ap (λ (x : Counts). x.fixed) W.counts

    fixed_is : (u v : ℕ) → u < p.base.jobs → v < p.base.jobs → is_fixed p u v ≡ occurs (pair_up from to) u v
    unfolding is_fixed
    fixed_is u v hu hv =
        ap (λ (x : ℕ). not (is_zero x)) (valid_times p.base.jobs u v p.base.fixed hv)
        ∙ ap (λ (l : List Pair). occurs l u v) (sym (pairs_are base p.base W.base W.sound.loaded.fixed fixed_long ef et))

    calm : was ≡ false → (b : Bool) → get_or tms 0 0 ≡ tick b 0 → b ≡ false
    calm q true h = let x : was ≡ true = ew ∙ rw h in clash x q
    calm q false h = refl

    pub checks_are : {c : Checked} → Checks from to e old new plan.jobs was c → c ≡ verdicts (is_moved_quick p o m) (is_moved_cyclic p o m)
    checks_are {c} C =
        let C' : Checks from to e old new p.base.jobs was c = rw (counted W) at C in
        C'.is (edges_of p) (is_fixed p) W.edges (below p W.sound)
        (rising_is base p.base W.base W.sound.loaded.fixed fixed_long ef et W.sound.loaded.rising) fixed_is
        (λ q. quick_moved ∙ sym (checks_agree_calm p o m (calm q (is_cyclic p) (timed p tms W.times).0)) ∙ sym full_moved)
        ∙ ap (λ (x : Bool). verdicts x full_of) quick_moved
        ∙ ap (λ (x : Bool). verdicts (is_moved_quick p o m) x) full_moved

  pub answers_are : {out out' : List ℕ} {x y : Bool} → length new ≤ length out → out' ≡ sets out 0 new
      → x ≡ is_moved_quick p o m → y ≡ is_moved_cyclic p o m
      → Answers p o m out (Ok (record { length = length new; quick = x; full = y })) out'
  answers_are {out} {out'} {x} {y} room w a b =
      let q : places (length new) out' ≡ new_route p o m =
      places_take (length new) out' (let a = length-sets out 0 new in let b = ap length w in omega arith)
      ∙ ap (take (length new)) w ∙ taken_sets out new (length new) refl room ∙ new_is in
      record { says = rw (q, a, b); answers = w ∙ ap (sets out 0) new_is }

-- ── what the code answers ──

bad_twelve : (j : Refusal) → ◌≡◌ {A = Result Moved Refusal} (Err BadStore) (Err j) → j ≡ BadStore
bad_twelve j e = cc

module _ {s : Slices} {plan : Counts} {old new out : List ℕ} where
  pub judge_old : {b : Bool} {out' : List ℕ} → b ≡ all_below plan.jobs old → b ≡ false → Judges s plan old new out (Err BadStore) out'
  judge_old q f = record {
    twelve = bad_twelve;
    is = λ p W o m R g w. clash (rw (counted W) (old_low W R new m g w)) (sym q ∙ f);
  }

  pub judge_new : {b : Bool} {out' : List ℕ} → b ≡ all_below plan.jobs new → b ≡ false → Judges s plan old new out (Err BadStore) out'
  judge_new q f = record {
    twelve = bad_twelve;
    is = λ p W o m R g w. clash (rw (counted W) (new_low W R new m g w)) (sym q ∙ f);
  }

  pub judge_shown : {from to : List ℕ} {was : Bool} {c : Checked} {out' : List ℕ}
      → Checks from to (take edges_length s.edges) old new plan.jobs was c → out' ≡ sets out 0 new
      → from ≡ take plan.fixed (drop from_at s.base) → to ≡ take plan.fixed (drop to_at s.base) → was ≡ cyclic_in s.times
      → length new ≤ length out
      → Judges s plan old new out (Ok (record { length = length new; quick = c.quick; full = c.full })) out'
  judge_shown {c = c} C w' ef et ew room = record {
    twelve = λ j z. absurd (let y : ◌≡◌ {A = ℕ} 0 1 = cc in omega arith);
    is = λ p W o m R g w.
        let q = checks_are W R new m g w ef et ew C in
        answers_are W R new m g w room w'
        (ap (λ (x : Checked). x.quick) q) (ap (λ (x : Checked). x.full) q);
  }

-- ── what the check asks ──

-- the fixed list's two parts are of one length
pub parts_even : (base : List ℕ) {from to : List ℕ} {k : ℕ} → from ≡ take k (drop from_at base) → to ≡ take k (drop to_at base)
    → base_length ≤ length base → k ≤ most_fixed → length from ≡ length to
parts_even base {k = k} ef et h hk =
    ap length ef ∙ length-take-le k (drop from_at base) (simp length-drop (omega arith))
    ∙ sym (ap length et ∙ length-take-le k (drop to_at base) (simp length-drop (omega arith)))

module _ {s : Slices} {plan : Counts} {old new out : List ℕ} where
  pub finish_few : length out < length new → Finishes s plan old new out (Err ShortAnswer) out
  finish_few h = record { few = λ _. (refl, refl); enough = λ g. absurd (omega arith) }

  pub finish_judged : {r : Result Moved Refusal} {out' : List ℕ} → length new ≤ length out → Judges s plan old new out r out'
      → Finishes s plan old new out r out'
  finish_judged h J = record { few = λ g. absurd (omega arith); enough = λ _. J }

-- ── the owner's route ──

-- which check refuses first
module _ (p : Plan) (o : ℕ) (m : Move) (room : ℕ) where
  abbrev first : Option Refusal
  first = first_of (no_owner p o ∷ is_broken p o ∷ no_positions p o m ∷ too_few room (length (route_of p o).stops) ∷ [])

  no_owner_lem : p.base.owners ≤ o → first ≡ some NoSuchOwner
  no_owner_lem h = rw (le-leb p.base.owners o h)

  module _ (owner : o < p.base.owners) where
    broken : 0 < (route_of p o).invalid → first ≡ some BrokenRoute
    broken h = rw (lt-leb p.base.owners o owner, some_zero (route_of p o).invalid h)
      where
        some_zero : (k : ℕ) → 0 < k → is_zero k ≡ false
        some_zero zero h = absurd (omega arith)
        some_zero (suc k) h = refl

    module _ (whole : (route_of p o).invalid ≡ 0) where
      positions : good_positions (length (route_of p o).stops) m ≡ false → first ≡ some BadPositions
      positions g = rw (lt-leb p.base.owners o owner, whole, g)

      module _ (good : good_positions (length (route_of p o).stops) m ≡ true) where
        short : room < length (route_of p o).stops → first ≡ some ShortAnswer
        short h = rw (lt-leb p.base.owners o owner, whole, good, lt-ltb room (length (route_of p o).stops) h)

        fine : length (route_of p o).stops ≤ room → first ≡ none
        fine h = rw (lt-leb p.base.owners o owner, whole, good, le-ltb room (length (route_of p o).stops) h)

module _ (s : Slices) (o : ℕ) {h : Result Counts Refusal} (opens : h ≡ open_of (lent_of s) s.base) where
  pub begins_closed : {jobs : List ℕ} {r : Refusal} → h ≡ Err r → Begins s o jobs (Err r)
  begins_closed q = record { is = λ m out. closed_kept (to_move o m (length out)) s opens out refl q }

  module _ {plan : Counts} (is : h ≡ Ok plan) where
    -- refused for what is true of every plan that the store stands for
    refuses : {jobs : List ℕ} (r : Refusal) → ((m : Move) (out : List ℕ) → Heeds (to_move o m (length out)) s s out out (refused r)) → ((p : Plan) → Held s p → plan ≡ counts_of p.base → (m : Move) (k : ℕ) → first p o m k ≡ some r)
        → Begins s o jobs (Err r)
    refuses r n f = record {
      is = λ m out. opened_kept (to_move o m (length out)) s opens s out out (refused r) is (λ g p H q.
          decided_refused (some p) (to_move o m (length out)) s out r
          (refusal_long (some p) (to_move o m (length out)) s g ∙ f p H q m (length out)))
          (n m out);
    }

    -- a refusal that the header does not give
    heeded : o < plan.owners → (r : Refusal) → memb (number_of r) (12 ∷ 11 ∷ 8 ∷ 10 ∷ []) ≡ true → (m : Move) (out : List ℕ)
        → Heeds (to_move o m (length out)) s s out out (refused r)
    heeded w r y m out = heeds_later (to_move o m (length out)) s opens (rw (is, lt-leb plan.owners o w))
        (λ k e. let z : r ≡ k = cc in rw z at y) (λ k e x. (refl, refl))

    pub begins_nobody : {jobs : List ℕ} {b : Bool} → b ≡ ltb o plan.owners → b ≡ false → Begins s o jobs (Err NoSuchOwner)
    begins_nobody e f = refuses NoSuchOwner (λ m out. heeds_first (to_move o m (length out)) s opens out
        (rw (is, le-leb plan.owners o (ltb-false o plan.owners (sym e ∙ f))))) (λ p H q m k. no_owner_lem p o m k (rw q at (ltb-false o plan.owners (sym e ∙ f))))

    module _ {b : Bool} (e : b ≡ ltb o plan.owners) (t : b ≡ true) (few : plan.owners ≤ most_owners) where
      low : o < plan.owners
      low = ltb-true o plan.owners (sym e ∙ t)

      owner_of : (p : Plan) → plan ≡ counts_of p.base → o < p.base.owners
      owner_of p q = rw q at low

      route_at_lem : (p : Plan) → route_at (routes_of p) o ≡ route_of p o
      unfolding routes_of
      route_at_lem p = table_at most_owners (route_of p) empty_route o (let a = low in omega arith)

      module _ {jobs : List ℕ} {x : Result ℕ Refusal} (S : Stops (take routes_length s.routes) o x jobs) where
        pub begins_broken : {r : Refusal} → x ≡ Err r → Begins s o jobs (Err r)
        begins_broken {r} y =
            let (a, f) : (r ≡ BrokenRoute) × ((m : Model) → RoutesHold (take routes_length s.routes) m → 0 < (route_at m o).invalid) = rw y at S.is in
            rw a (refuses BrokenRoute (heeded low BrokenRoute refl) (λ p H q m k.
            broken p o m k (owner_of p q) (rw (route_at_lem p) at (f (routes_of p) H.desk.routes))))

        pub begins_of : {k : ℕ} → x ≡ Ok k → Begins s o jobs (Ok (plan, k))
        begins_of {k} y =
            let (a, f) : (k ≤ most_entries) × ((m : Model) → RoutesHold (take routes_length s.routes) m → Whole m o k jobs) = rw y at S.is in
            record {
              is = record {
                opens = sym opens ∙ is;
                owned = low;
                few = a;
                is = λ p H.
                    let z = f (routes_of p) H.desk.routes in
                    let q : plan ≡ counts_of p.base = planned p H in
                    record {
                      owner = owner_of p q;
                      whole = rw (← route_at_lem p) z.whole;
                      are = rw (← route_at_lem p) z.are;
                    };
              };
            }
          where
            opened_long : h ≡ Ok plan → is_short (lent_of s) ≡ false
            opened_long i = look (test (is_short (lent_of s)))
              where
                look : Test (is_short (lent_of s)) → is_short (lent_of s) ≡ false
                look (fail q) = q
                look (pass q) =
                    let y = open_short s.base (lent_of s) q in
                    let z : ◌≡◌ {A = ℕ} 0 1 = cc in
                    absurd (omega arith)

            planned : (p : Plan) → Held s p → plan ≡ counts_of p.base
            planned p H = let y = open_some s (opened_long is) p H in let z = sym opens ∙ is in cc

-- ── the call ──

says_refused : (out : List ℕ) (r : Result Moved Refusal) (k : Refusal) → says_moved out r ≡ refused k → r ≡ Err k
says_refused out (Ok m) k e = absurd (let y : ◌≡◌ {A = ℕ} 0 1 = cc in omega arith)
says_refused out (Err r) k e = cc

pub ready : {s : Slices} {o : ℕ} {jobs : List ℕ} {x : Result (Counts × ℕ) Refusal} {plan : Counts} {k : ℕ} → Begins s o jobs x → x ≡ Ok (plan, k) → Opens s o jobs plan k
ready B q = rw q at B.is

module _ (s : Slices) (o : ℕ) (m : Move) (out : List ℕ) {jobs : List ℕ} {x : Result (Counts × ℕ) Refusal} (B : Begins s o jobs x) where
  pub moved_refused : {r : Refusal} → x ≡ Err r → Promise (to_move o m (length out)) s s out out (refused r)
  moved_refused q = (rw q at B.is) m out

  module _ {plan : Counts} {k : ℕ} (q : x ≡ Ok (plan, k)) where
    module _ {b : Bool} {old new : List ℕ} (e : old ≡ take k jobs) (P : Places m old b new) where
      route : (p : Plan) → Held s p → Route p o old
      route p H = rw e ((ready B q).is p H)

      pub moved_positions : b ≡ false → Promise (to_move o m (length out)) s s out out (refused BadPositions)
      moved_positions f = opened_kept (to_move o m (length out)) s {h = open_of (lent_of s) s.base} refl s out out (refused BadPositions)
          (ready B q).opens (λ g p H c.
          let R = route p H in
          decided_refused (some p) (to_move o m (length out)) s out BadPositions
          (refusal_long (some p) (to_move o m (length out)) s g
          ∙ positions p o m (length out) R.owner R.whole (rw (route_long R) at (sym P.good ∙ f))))
          (heeded s o refl (ready B q).opens (ready B q).owned BadPositions refl m out)

      module _ (t : b ≡ true) (even : length new ≡ length old) {r : Result Moved Refusal} {out' : List ℕ}
          (F : Finishes s plan old new out r out') where
        good : good_positions (length old) m ≡ true
        good = sym P.good ∙ t

        decided : is_short (lent_of s) ≡ false → (p : Plan) → Held s p → plan ≡ counts_of p.base
            → (length out < length new) ⊎ (length new ≤ length out)
            → Decided (some p) (to_move o m (length out)) s s out out' (says_moved out' r)
        unfolding accepted
        decided g p H c (inl h) =
            let R = route p H in
            let l = route_long R in
            let (a, z) = F.few h in
            rw (a, z)
            (decided_refused (some p) (to_move o m (length out)) s out ShortAnswer
            (refusal_long (some p) (to_move o m (length out)) s g
            ∙ short p o m (length out) R.owner R.whole (rw l at good) (omega arith)))
        decided g p H c (inr h) =
            let R = route p H in
            let l = route_long R in
            let W : Words s.base (take edges_length s.edges) s.times plan p =
            record { base = H.base; edges = H.desk.edges; sound = H.desk.sound; times = H.times; counts = c } in
            let A = (F.enough h).is p W o m R good (P.is t) in
            let d = decided_read p (to_move o m (length out)) s H
            (refusal_long (some p) (to_move o m (length out)) s g
            ∙ fine p o m (length out) R.owner R.whole (rw l at good) (omega arith)) out
            (rerouted (new_route p o m) (is_moved_quick p o m) (is_moved_cyclic p o m)) refl refl in
            record {
              says = A.says ∙ d.says;
              leaves = d.leaves;
              answers = A.answers ∙ ap (λ (y : Reply). sets out 0 (answer_of y))
                  (sym A.says);
            }

        -- of any contents: 10 or 12
        heeding : (length out < length new) ⊎ (length new ≤ length out) → Heeds (to_move o m (length out)) s s out out' (says_moved out' r)
        heeding (inl h) =
            let (a, z) = F.few h in
            rw (a, z) (heeded s o refl (ready B q).opens (ready B q).owned ShortAnswer refl m out)
        heeding (inr h) = heeds_later (to_move o m (length out)) s {h = open_of (lent_of s) s.base} refl
            (rw ((ready B q).opens, lt-leb plan.owners o (ready B q).owned))
            (λ j e. let z = (F.enough h).twelve j (says_refused out' r j e) in rw z)
            (λ j e n. absurd (n ((F.enough h).twelve j (says_refused out' r j e))))

        pub moved_finished : Promise (to_move o m (length out)) s s out out' (says_moved out' r)
        moved_finished = opened_kept (to_move o m (length out)) s {h = open_of (lent_of s) s.base} refl s out out' (says_moved out' r)
            (ready B q).opens (λ g p H c. decided g p H c (lt_or_le (length out) (length new))) (heeding (lt_or_le (length out) (length new)))
