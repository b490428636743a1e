-- The waiting owners are emptied one after the other, and then nobody waits. Assumes nothing.
use Prim.Native.Nat.{ℕ, ◌+◌, ◌-◌, ◌≤◌, ◌<◌}
use native.Mathlib.Numerals.{add-one}
use native.Mathlib.Omega.{arith}
use mathlib.Core.Path.{◌≡◌, refl, sym, ap, subst, ◌∙◌}
use mathlib.Core.Bool.{Bool, true, false, cond}
use mathlib.Core.List.{List, [], ◌++◌, append-nil}
use lib.Dec.{eqb}
use lib.ListN.{length, get_or, take, drop, length-take, length-append, length-drop}
use lib.Seq.{take-suc, take_all, take_at, drop_at, take-add, take-append-le, length-take-le}
use borrow.Author.Rules.{rules}
use borrow.Author.Tests.{eq-eqb, ne_eqb}
use Rattle.std.specs.Prelude.{Result, Ok, Err}
use Rattle.std.specs.Result.{IsErr}
use Rattle.rules.specs.Sizes.{most_entries}
use Rattle.rules.specs.Routes.{Plan, Route, Emptied, empty_route, route_of, in_force, empty, emptied, without}
use Rattle.rules.specs.Sound.{Sound}
use Rattle.rules.specs.Steps.{staging, turning, amid, begun, unwaited}
use Rattle.rules.proofs.Stages.{empty_read, sum_at}
use Rattle.rules.proofs.Steps.{without_turns, without_went, empty_more, empty_none, emptied_all, given_up_lem}
use Rattle.rules.specs.declared.Senseless.{Senseless}
use Rattle.routes.specs.Handing.{Waiting}
use Rattle.routes.specs.Desks.{edges_from, edges_of, Desked}
use Rattle.routes.specs.Promises.{Gives, Queues, Cleared}
use Rattle.edges.specs.Raw.{put}
use Rattle.routes.proofs.Lists.{in_list}
use Rattle.routes.proofs.Sweeping.{err_never, ok_same, never_ok}
use Rattle.routes.proofs.Swapping.{done_both}
use Rattle.routes.proofs.Waits.{waits_in, unwaited_sound}
use Rattle.puts.specs.Puts.{Turned, RouteTurn, Emptier, OneEmptied, Freely, EachEmptied, AllEmptied}
use Rattle.puts.proofs.Lists.{queues_none, queues_join}

-- ── one of them ──

-- no stops are a route for every owner
none_gives : {p : Plan} {w : ℕ} → Sound p → w < p.base.owners → Gives p w [] empty_route
none_gives {p} {w} S h = record {
  owner = h;
  reads = empty_read p.base.jobs;
  stops = refl;
  room = let a = given_up_lem p.desk.routes w (let z = S.rows in omega arith) in let b = S.room in omega arith;
}

-- the owner of the put
pub one_own : {r e : List ℕ} {w o : ℕ} {went : List ℕ} → w ≡ o → OneEmptied r e w o r e went went (Ok 0)
one_own {w = w} {o} {went} q = let b : eqb w o ≡ true = eq-eqb w o q in record {
  within = λ h z. let k = ok_same z in omega arith;
  emptier = λ p D h u. record {
    gone = [];
    answer = refl;
    listed = refl;
    desked = rw b D;
    queues = rw b queues_none;
    few = omega arith;
  };
}

module _ {r e : List ℕ} {w o : ℕ} {r' e' went went' came' : List ℕ} {a : Result (ℕ × ℕ) Senseless}
    (T : RouteTurn r e w [] 0 0 r' e' went went' came' a) (n : w ≡ o → ⊥) where
  turned_one : (p : Plan) → Desked r e p → w < p.base.owners → length (route_of p w).stops ≤ length went
      → Turned p w empty_route r' e' went' came' a
  turned_one p D h u = T.turned p empty_route D (none_gives D.sound h) refl refl u

  pub one_bad : {z : Senseless} (b : Result ℕ Senseless) → a ≡ Err z → IsErr b → OneEmptied r e w o r' e' went went' b
  one_bad b q k = record {
    within = λ h y. err_never k y;
    emptier = λ p D h u. never_ok (sym q ∙ (turned_one p D h u).edges.answer);
  }

  pub one_done : {g c : ℕ} → a ≡ Ok (g, c) → OneEmptied r e w o r' e' went went' (Ok g)
  one_done {g} {c} q = let b : eqb w o ≡ false = ne_eqb w o n in record {
    within = λ h z. let (x, y) = T.short g c q in omega (arith, ok_same z);
    emptier = λ p D h u. let U = turned_one p D h u in record {
      gone = U.edges.gone;
      answer = ap Ok (done_both (sym q ∙ U.edges.answer)).0;
      listed = U.edges.went_listed;
      desked = rw b U.desked;
      queues = rw b U.edges.went_queues;
      few = rw b U.few;
    };
  }

pub ruleset emptying_one = (rules, one_own, one_bad, one_done)

-- ── after some of them ──

-- the first i
abbrev upto : Plan → ℕ → ℕ → Emptied
upto p o i = empty p.base o (take i p.desk.waiting) (begun p)

record Emptying (p : Plan) (o i : ℕ) (r e went : List ℕ) (at : ℕ) : Type 0 where
  desked : Desked r e (amid p (upto p o i))
  queues : Queues (take at went) (upto p o i).went
  few : at + in_force (upto p o i).routes ≤ in_force p.desk.routes

emptying_start : {r e : List ℕ} {p : Plan} (o : ℕ) (went : List ℕ) → Desked r e p → Emptying p o 0 r e went 0
emptying_start {p = p} o went D =
    let none : upto p o 0 ≡ begun p = empty_none p.base o (begun p) in
    record { desked = rw none D; queues = rw none queues_none; few = rw none (omega arith) }

module _ (p : Plan) (w : ℕ) (x : Emptied) where
  amid_more : (b : Bool) → amid p (cond b x (without p.base w x)) ≡ cond b (amid p x) (turning (amid p x) w empty_route)
  amid_more true = refl
  amid_more false = without_turns p w x

  went_more : (b : Bool) → (cond b x (without p.base w x)).went ≡ x.went ++ cond b [] (staging (amid p x) w empty_route).went
  went_more true = sym (append-nil x.went)
  went_more false = without_went p w x

  force_more : (b : Bool) → w < length x.routes
      → in_force (cond b x (without p.base w x)).routes + cond b 0 (length (get_or x.routes w empty_route).stops) ≡ in_force x.routes
  unfolding without
  force_more true h = omega arith
  force_more false h = given_up_lem x.routes w h

module _ {p : Plan} {o i : ℕ} {r e went : List ℕ} {at : ℕ} (S : Sound p) (F : Emptying p o i r e went at)
    (h : i < length p.desk.waiting) (long : most_entries ≤ length went) where
  abbrev w : ℕ
  w = get_or p.desk.waiting i 0

  abbrev q : Plan
  q = amid p (upto p o i)

  owner : w < p.base.owners
  owner = S.waits w (in_list p.desk.waiting i h)

  low : w < length (upto p o i).routes
  low = let a = owner in let b = F.desked.sound.rows in omega arith

  own_few : length (get_or (upto p o i).routes w empty_route).stops ≤ in_force (upto p o i).routes
  own_few = sum_at (λ (x : Route). length x.stops) empty_route (upto p o i).routes w low

  more : upto p o (i + 1) ≡ cond (eqb w o) (upto p o i) (without p.base w (upto p o i))
  more =
      ap (λ (l : List ℕ). empty p.base o l (begun p))
      (ap (λ (k : ℕ). take k p.desk.waiting) (add-one i) ∙ take-suc p.desk.waiting i 0 h)
      ∙ empty_more p.base o (take i p.desk.waiting) w (begun p)

  -- its heads are listed behind those of the owners before it
  module _ {part r' e' behind : List ℕ} {a : Result ℕ Senseless} (E : OneEmptied r e w o r' e' part behind a) (inside : at ≤ length went)
      (size : length part ≡ length went - at) where
    emptier : Emptier q o w r' e' behind a
    emptier = E.emptier q F.desked owner (let a = F.few in let b = own_few in let c = S.room in omega arith)

    joined : take (at + length emptier.gone) (put at (length went - at) went behind) ≡ take at went ++ emptier.gone
    joined =
        let x : length (take at went) ≡ at = length-take-le at went inside in
        let rest : List ℕ = drop (length went - at) (drop at went) in
        let n : ℕ = length emptier.gone in
        let k : n ≤ length behind = omega (arith, ap length emptier.listed, length-take n behind) in
        take-add at n (put at (length went - at) went behind)
        ∙ rw (take_at (take at went) (behind ++ rest) at x, drop_at (take at went) (behind ++ rest) at x, take-append-le n behind rest k, emptier.listed)

    gone_few : length emptier.gone + in_force (upto p o (i + 1)).routes ≤ in_force (upto p o i).routes
    gone_few =
        let a = emptier.few in
        let b = force_more p w (upto p o i) (eqb w o) low in
        let c = ap (λ (x : Emptied). in_force x.routes) more in
        omega arith

    emptying_next : Emptying p o (i + 1) r' e' (put at (length went - at) went behind) (at + length emptier.gone)
    emptying_next = record {
      desked = rw (more, amid_more p w (upto p o i) (eqb w o)) emptier.desked;
      queues = rw (more, went_more p w (upto p o i) (eqb w o), joined)
          (queues_join (take at went) emptier.gone (upto p o i).went (cond (eqb w o) [] (staging q w empty_route).went) F.queues
          emptier.queues);
      few = let a = gone_few in let b = F.few in omega arith;
    }

-- ── the loop ──

pub record Rounds (r₀ e₀ row : List ℕ) (o : ℕ) (went₀ r e went : List ℕ) (at i : ℕ) : Type 0 where
  pub within : at ≤ length went
  pub kept : length went ≡ length went₀
  pub long : most_entries ≤ length went₀
  emptying : (p : Plan) → Desked r₀ e₀ p → row ≡ p.desk.waiting → Emptying p o i r e went at

pub rounds_none : (r e row : List ℕ) (o : ℕ) (went : List ℕ) → most_entries ≤ length went → Rounds r e row o went r e went 0 0
rounds_none r e row o went h =
    record { within = omega arith; kept = refl; long = h; emptying = λ p D q. emptying_start o went D }

module _ {r₀ e₀ row : List ℕ} {o : ℕ} {went₀ r e went : List ℕ} {at i : ℕ} (I : Rounds r₀ e₀ row o went₀ r e went at i) where
  module _ {part r' e' behind : List ℕ} {a : Result ℕ Senseless} (E : OneEmptied r e (get_or row i 0) o r' e' part behind a)
      (size : length part ≡ length went - at) (h : i < length row) where
    abbrev went' : List ℕ
    went' = put at (length went - at) went behind

    next : (p : Plan) → Desked r₀ e₀ p → row ≡ p.desk.waiting
        → ((z : Senseless) → a ≡ Err z → ⊥) × ((g : ℕ) → a ≡ Ok g → Emptying p o (i + 1) r' e' went' (at + g))
    next p D q =
        let F = I.emptying p D q in
        let k : i < length p.desk.waiting = rw q at h in
        let long : most_entries ≤ length went = (let x = I.kept in let y = I.long in omega arith) in
        let E' : OneEmptied r e (get_or p.desk.waiting i 0) o r' e' part behind a = rw q at E in
        let is = (emptier D.sound F k long E' I.within size).answer in (
          λ z y. never_ok (sym y ∙ is),
          λ g z. subst (λ (n : ℕ). Emptying p o (i + 1) r' e' went' (at + n)) (sym (ok_same (sym z ∙ is)))
              (emptying_next D.sound F k long E' I.within size),
        )

    pub rounds_bad : {z : Senseless} (b : Result ℕ Senseless) → a ≡ Err z → IsErr b → EachEmptied r₀ e₀ row o r' e' went₀ went' b
    rounds_bad {z} b q k = record { within = λ h y. err_never k y; freely = λ p D e. absurd ((next p D e).0 z q) }

    pub rounds_on : {g : ℕ} → a ≡ Ok g → length behind ≡ length part → Rounds r₀ e₀ row o went₀ r' e' went' (at + g) (i + 1)
    rounds_on {g} z l =
        let x = I.within in
        let y = length-take-le at went x in
        let k : length went' ≡ length went = simp (length-append, length-drop) (omega arith) in
        record {
          within = let f = E.within g z in omega arith;
          kept = k ∙ I.kept;
          long = I.long;
          emptying = λ p D q. (next p D q).1 g z;
        }

  pub rounds_done : length row ≤ i → EachEmptied r₀ e₀ row o r e went₀ went (Ok at)
  rounds_done h = record {
    within = λ k y. let z = I.within in let x = I.kept in omega (arith, ok_same y);
    freely = λ p D q.
        let F = I.emptying p D q in
        let all : upto p o i ≡ emptied p o =
        ap (λ (l : List ℕ). empty p.base o l (begun p)) (take_all i p.desk.waiting (rw q at h)) ∙ sym (emptied_all p o) in
        record {
          count = at;
          answer = refl;
          desked = rw all at F.desked;
          queues = rw all at F.queues;
          few = let a = F.few in let b = D.sound.room in omega arith;
        };
  }

pub ruleset emptying_each = (rules, rounds_none, rounds_bad, rounds_on, rounds_done)

-- ── all, and nobody waits any more ──

unwaited_desked : {r r' e : List ℕ} {p : Plan} → Desked r e p → Cleared r r' → Desked r' e (unwaited p)
unfolding edges_of edges_from
unwaited_desked {p = p} D C = record {
  routes = C p D.sound D.routes;
  edges = D.edges;
  sound = unwaited_sound p D.sound;
}

-- who waits was copied, and stands in front
module _ {r e row copy : List ℕ} (behind : List ℕ) (W : Waiting r row) (copied : copy ≡ row) {o : ℕ} {r' e' went went' : List ℕ} {a : Result ℕ Senseless} (E : EachEmptied r e (take (length row) (copy ++ behind)) o r' e' went went' a) where
  each : (p : Plan) → Desked r e p → Freely p o (amid p (emptied p o)) r' e' went' a
  each p D = E.freely p D (rw copied (take_at row behind (length row) refl) ∙ waits_in p D.routes W)

  pub all_bad : {z : Senseless} (b : Result ℕ Senseless) → a ≡ Err z → IsErr b → AllEmptied r e o r' e' went went' b
  all_bad b q k = record { within = λ h y. err_never k y; freely = λ p D. never_ok (sym q ∙ (each p D).answer) }

  pub all_done : {g : ℕ} {r'' : List ℕ} → a ≡ Ok g → Cleared r' r'' → AllEmptied r e o r'' e' went went' (Ok g)
  all_done {g} q C = record {
    within = λ h z. E.within h (q ∙ z);
    freely = λ p D. let F = each p D in record {
      count = F.count;
      answer = sym q ∙ F.answer;
      desked = unwaited_desked F.desked C;
      queues = F.queues;
      few = F.few;
    };
  }

pub ruleset emptying_all = (rules, all_bad, all_done)
