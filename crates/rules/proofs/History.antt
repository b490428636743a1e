-- Every history of calls, refused ones and waiting retractions included, leaves a sound plan or none. Assumes nothing.
use Prim.Native.Nat.{ℕ, zero, suc, ◌≤◌, ◌<◌}
use mathlib.Core.Path.{◌≡◌, refl, sym, ap, ◌∙◌}
use mathlib.Core.Bool.{Bool, true, false, not, cond}
use mathlib.Core.Option.{Option, none, some}
use mathlib.Core.Logic.{⊎_elim}
use mathlib.Core.List.{List, [], ◌∷◌, ◌++◌, map}
use native.Mathlib.Omega.{arith}
use lib.Dec.{eqb, ltb, leb}
use lib.ListN.{length, get_or, replicate, length-replicate}
use borrow.Author.Tests.{eqb-true, leb-false, ltb-true, ltb-false, not-true, not-false}
use Rattle.rules.specs.declared.Refusal.{Refusal}
use Rattle.rules.specs.declared.Refusal.TheVariants.{ShortStore}
use Rattle.rules.specs.Calls.{Ask, Call, Turn, accepted, checks_of, decide, refusal, run, step, to_blocks, to_load, to_move, to_put, to_reset, to_retract, to_score, to_starts, to_verdict}
use Rattle.rules.specs.Lists.{Pair, any_of, is_zero, keep, memb, sum_of, times}
use Rattle.rules.specs.Refusals.{Check, first_of, load_checks, no_owner, no_room, too_many}
use Rattle.rules.specs.Routes.{Heads, Plan, Route, State, adds, empty_route, fresh, holders, in_force, links_of, put_plan, turned, wait}
use Rattle.rules.specs.Sizes.{Base, Loading, bad_from, base_of, breaks_size, falls, fits_sizes, has_long, is_long, is_short, longest, most_entries, most_fixed, most_jobs, most_owners, pair_up, valid_fixed}
use Rattle.rules.specs.Sound.{Loaded, Sound, Inside, Kept, Tidy}
use Rattle.rules.proofs.Members.{once_snoc, or_false}
use Rattle.rules.proofs.Puts.{put_sound}
use Rattle.rules.proofs.Ranges.{Test, and_true, clash, fail, pass, test}
use Rattle.rules.proofs.Stages.{empty_read, inside_from, inside_turned, never, times_turned}
use Rattle.rules.proofs.Stored.{From, adds_at, adds_tidy}
use Rattle.rules.proofs.Walks.{memb_snoc}

-- ── an accepted load ──

-- what is refused by none of a list of checks
abbrev pub Passed : List Check → Type 0
Passed [] = Unit {0}
Passed (c ∷ l) = (c.1 ≡ false) × Passed l

pub passed : (l : List Check) → first_of l ≡ none → Passed l
passed [] e = tt
passed (c ∷ l) e = go (test c.1) (passed l)
  where
    go : Test c.1 → (first_of l ≡ none → Passed l) → (c.1 ≡ false) × Passed l
    go (fail q) ih = (q, ih (sym (ap (λ (b : Bool). cond b (some c.0) (first_of l)) q) ∙ e))
    go (pass q) ih = let z = sym (ap (λ (b : Bool). cond b (some c.0) (first_of l)) q) ∙ e in let y : ◌≡◌ {A = ℕ} 0 1 = cc in
        never (omega arith)

-- no duration is too long
shorts : (l : List ℕ) → any_of is_long l ≡ false → (v : ℕ) → get_or l v 0 ≤ longest
shorts [] h v = omega arith
shorts (d ∷ l) h zero = ltb-false longest d (or_false {a = is_long d} h).0
shorts (d ∷ l) h (suc v) = shorts l (or_false {a = is_long d} h).1 v

fixed_inside : (n : ℕ) (f t : List ℕ) → any_of (leb n) f ≡ false → Inside n (keep (λ e. ltb e.1 n) (pair_up f t))
fixed_inside n [] t h = tt
fixed_inside n (a ∷ f) [] h = tt
fixed_inside n (a ∷ f) (b ∷ t) h = let (x, y) = or_false {a = leb n a} h in go (ltb b n) refl (leb-false n a x) (fixed_inside n f t y)
  where
    go : (k : Bool) → ltb b n ≡ k → a < n → Inside n (keep (λ e. ltb e.1 n) (pair_up f t))
        → Inside n (cond k ((a, b) ∷ keep (λ e. ltb e.1 n) (pair_up f t)) (keep (λ e. ltb e.1 n) (pair_up f t)))
    go true e x ih = (x, ltb-true b n e, ih)
    go false e x ih = ih

-- the tails of the pairs are the first of the list
pairs_rise : (a : ℕ) (f t : List ℕ) → falls a f ≡ false → falls a (map (λ (e : Pair). e.0) (pair_up f t)) ≡ false
pairs_rise a [] t h = refl
pairs_rise a (b ∷ f) [] h = refl
pairs_rise a (b ∷ f) (c ∷ t) h = let (x, y) = or_false {a = ltb b a} h in rw (x, pairs_rise b f t y)

pub pair_length : (f t : List ℕ) → length (pair_up f t) ≤ length f
pair_length [] t = omega arith
pair_length (a ∷ f) [] = omega arith
pair_length (a ∷ f) (b ∷ t) = let z = pair_length f t in omega arith

-- sizes that fit
record Fits (l : Loading) : Type 0 where
  jobs : l.jobs ≤ most_jobs
  owners : l.owners ≤ most_owners
  fixed : length l.from ≤ most_fixed
  durations : length l.durations ≡ l.jobs

sizes_fit : (l : Loading) → breaks_size l ≡ false → Fits l
unfolding breaks_size
sizes_fit l h =
    let (a, x) = or_false {a = not (fits_sizes l.jobs l.owners (length l.from))} h in
    let (b, y) = or_false {a = not (eqb (length l.from) (length l.to))} x in
    let (c, z) = or_false {a = not (eqb (length l.durations) l.jobs)} y in
    let (i, j) = and_true {a = not (ltb most_jobs l.jobs)} (not-false _ a) in
    let (j', k) = and_true {a = not (ltb most_owners l.owners)} j in
    record {
      jobs = ltb-false most_jobs l.jobs (not-true _ i);
      owners = ltb-false most_owners l.owners (not-true _ j');
      fixed = ltb-false most_fixed (length l.from) (not-true _ k);
      durations = eqb-true (length l.durations) l.jobs (not-false _ c);
    }

pub load_loaded : (l : Loading) → Passed (load_checks l) → Loaded (base_of l)
unfolding base_of has_long bad_from
load_loaded l (a, (b, (c, d))) = let F = sizes_fit l a in record {
  jobs = F.jobs;
  owners = F.owners;
  fixed = let x = F.fixed in let y = pair_length l.from l.to in omega arith;
  durations = F.durations;
  short = shorts l.durations b;
  inside = fixed_inside l.jobs l.from l.to (or_false {a = any_of (leb l.jobs) l.from} c).0;
  rising = pairs_rise 0 l.from l.to (or_false {a = any_of (leb l.jobs) l.from} c).1;
}

blank : (n u : ℕ) → ◌≡◌ {A = List ℕ} (get_or (replicate n []) u []) []
blank zero u = refl
blank (suc n) zero = refl
blank (suc n) (suc u) = blank n u

pub blank_route : (n o : ℕ) → get_or (replicate n empty_route) o empty_route ≡ empty_route
blank_route zero o = refl
blank_route (suc n) zero = refl
blank_route (suc n) (suc o) = blank_route n o

blank_sum : (n : ℕ) (f : Route → ℕ) → f empty_route ≡ 0 → sum_of f (replicate n empty_route) ≡ 0
blank_sum zero f h = refl
blank_sum (suc n) f h = let a = blank_sum n f h in omega arith

-- lists from nothing: those of the edges that are added
fresh_kept : (n : ℕ) (l : List Pair) → From n l → Kept n (λ e. times e l) (adds (replicate n []) l)
fresh_kept n l ok = record {
  tidy = adds_tidy n l (replicate n []) ok tidy₀;
  held = λ u v. adds_at n l (replicate n []) u v ok tidy₀ ∙ rw (blank n u) (shape (times (u, v) l));
}
  where
    tidy₀ : Tidy n (replicate n [])
    tidy₀ = record { size = length-replicate n []; once = λ u. rw (blank n u) tt }

    shape : (x : ℕ) → cond (is_zero x) false true ≡ not (is_zero x)
    shape zero = refl
    shape (suc x) = refl

-- the same counts, the same lists
pub kept_as : (n : ℕ) (c d : Pair → ℕ) (t : Heads) → ((e : Pair) → c e ≡ d e) → Kept n c t → Kept n d t
kept_as n c d t h K = record { tidy = K.tidy; held = λ u v. K.held u v ∙ ap (λ (x : ℕ). not (is_zero x)) (h (u, v)) }

pub fresh_holders : (b : Base) (e : Pair) → times e (valid_fixed b) ≡ holders b (replicate b.owners empty_route) e
unfolding holders
fresh_holders b e = let a = blank_sum b.owners (λ r. times e (links_of r)) refl in omega arith

pub fresh_sound : (b : Base) → Loaded b → Sound (fresh b)
unfolding fresh
fresh_sound b L = record {
  loaded = L;
  kept = kept_as b.jobs (λ e. times e (valid_fixed b)) _ _ (fresh_holders b)
      (fresh_kept b.jobs (valid_fixed b) (inside_from b.jobs (valid_fixed b) L.inside));
  kept_tails = kept_as b.jobs (λ e. times e (map turned (valid_fixed b))) _ _
      (λ e. times_turned e (valid_fixed b) ∙ fresh_holders b (turned e))
      (fresh_kept b.jobs (map turned (valid_fixed b))
      (inside_from b.jobs (map turned (valid_fixed b)) (inside_turned b.jobs (valid_fixed b) L.inside)));
  rows = length-replicate b.owners empty_route;
  reads = λ o. rw (blank_route b.owners o) (empty_read b.jobs);
  room = let a = blank_sum b.owners (λ (r : Route). length r.stops) refl in omega arith;
  waits = λ w m. clash m refl;
  once = tt;
}

-- ── a retraction ──

pub wait_sound : (o : ℕ) (p : Plan) → Sound p → o < p.base.owners → Sound (wait o p)
unfolding wait
wait_sound o p S h = go (test (memb o p.desk.waiting))
  where
    waits : (w : ℕ) → memb w (p.desk.waiting ++ o ∷ []) ≡ true → w < p.base.owners
    waits w m = ⊎_elim (S.waits w) (λ (q : w ≡ o). rw q h) (memb_snoc w p.desk.waiting o m)

    go : Test (memb o p.desk.waiting) → Sound (wait o p)
    go (pass e) = rw e S
    go (fail e) = rw e (record {
      loaded = S.loaded;
      kept = S.kept;
      kept_tails = S.kept_tails;
      rows = S.rows;
      reads = S.reads;
      room = S.room;
      waits = waits;
      once = once_snoc p.desk.waiting o S.once e;
    })

-- ── every call, every history ──

abbrev pub Soundly : State → Type 0
Soundly none = Unit {0}
Soundly (some p) = Sound p

decide_sound : (r : Option Refusal) (s : State) (t : Turn) → Soundly s → (r ≡ none → Soundly t.state) → Soundly (decide r s t).state
decide_sound none s t S f = f refl
decide_sound (some r) s t S f = S

pub put_of : (p : Plan) (o : ℕ) (l : List ℕ) → Sound p → Passed (no_owner p o ∷ too_many l ∷ no_room p o l ∷ []) → Sound (put_plan p o l)
put_of p o l S (a, (b, (c, d))) =
    put_sound p o l S (leb-false p.base.owners o a) (ltb-false most_entries (length l) b)
    (ltb-false most_entries (in_force (put_plan p o l).desk.routes) c)

accepted_sound : (s : State) (a : Ask) → Soundly s → Passed (checks_of s a) → Soundly (accepted s a).state
unfolding accepted
accepted_sound s (to_load l) S h = fresh_sound (base_of l) (load_loaded l h)
accepted_sound s to_reset S h = tt
accepted_sound none (to_retract o) S h = tt
accepted_sound (some p) (to_retract o) S (h, d) = wait_sound o p S (leb-false p.base.owners o h)
accepted_sound none (to_put o l) S h = tt
accepted_sound (some p) (to_put o l) S h = put_of p o l S h
accepted_sound none to_score S h = tt
accepted_sound (some p) to_score S h = S
accepted_sound none (to_verdict k) S h = tt
accepted_sound (some p) (to_verdict k) S h = S
accepted_sound none (to_starts k) S h = tt
accepted_sound (some p) (to_starts k) S h = S
accepted_sound none (to_blocks os k) S h = tt
accepted_sound (some p) (to_blocks os k) S h = S
accepted_sound none (to_move o m k) S h = tt
accepted_sound (some p) (to_move o m k) S h = S

pub step_sound : (s : State) (c : Call) → Soundly s → Soundly (step s c).state
unfolding step refusal
step_sound s c S = decide_sound (refusal s c) s (accepted s c.asks) S
    (λ e. accepted_sound s c.asks S (passed ((ShortStore, is_short c.lent) ∷ checks_of s c.asks) e).1)

pub run_sound : (s : State) (cs : List Call) → Soundly s → Soundly (run s cs)
run_sound s [] S = S
run_sound s (c ∷ cs) S = run_sound (step s c).state cs (step_sound s c S)
