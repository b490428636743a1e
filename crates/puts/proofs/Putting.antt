-- A put: is there room, the waiting owners are emptied, then the owner's route becomes the new one. Assumes nothing.
use Prim.Native.Nat.{ℕ, ◌+◌, ◌≤◌, ◌<◌}
use native.Mathlib.Omega.{arith}
use mathlib.Core.Path.{◌≡◌, refl, sym, ap, ◌∙◌}
use mathlib.Core.Bool.{Bool, true, false, cond}
use mathlib.Core.List.{List, [], ◌∷◌, ◌++◌}
use lib.Dec.{eqb, ltb}
use lib.ListN.{length, take, length-map, length-take}
use borrow.Author.Rules.{rules}
use borrow.Author.Tests.{lt-ltb, le-ltb, ltb-true, ltb-false}
use Rattle.std.specs.Prelude.{Result, Ok, Err}
use Rattle.std.proofs.Common.{inl, inr}
use Rattle.std.specs.Result.{IsErr, IsErrAnd, is_err}
use Rattle.std.proofs.lemmas.Result.{err_from_is_err_and}
use Rattle.rules.specs.Lists.{sum_of}
use Rattle.rules.specs.Sizes.{most_entries}
use Rattle.rules.specs.Routes.{Plan, Route, route_of, violations_of, in_force, read, emptied, own_stage, put_plan}
use Rattle.rules.specs.Reports.{push, seeds}
use Rattle.rules.specs.Sound.{Sound}
use Rattle.rules.specs.Steps.{staging, turning, amid, unwaited}
use Rattle.rules.proofs.Ranges.{clash, pass, fail, test}
use Rattle.rules.proofs.Stages.{read_read}
use Rattle.rules.proofs.Steps.{put_entries, freed_of}
use Rattle.routes.specs.declared.snap.Snap.{Snap}
use Rattle.rules.specs.declared.Refusal.{Refusal}
use Rattle.rules.specs.declared.Refusal.TheVariants.{NoRoom, BadStore}
use Rattle.rules.specs.declared.Senseless.{Senseless}
use Rattle.puts.specs.declared.put.Heads.{Heads}
use Rattle.routes.specs.Stops.{word, words}
use Rattle.routes.specs.Store.{route_at}
use Rattle.routes.specs.Handing.{Stopped, Forced, Freed, given_up}
use Rattle.routes.specs.Snapped.{Snapped}
use Rattle.routes.specs.Desks.{routes_of}
use Rattle.routes.specs.Promises.{Gives, Queues}
use Rattle.routes.proofs.Sweeping.{ok_same, never_ok}
use Rattle.routes.proofs.Swapping.{done_both}
use Rattle.routes.proofs.Wellformed.{route_at_lem, routes_force}
use Rattle.puts.specs.Puts.{Turned, RouteTurn, Freely, AllEmptied, Crowded, PutWithin, PutDone, Entered, StopsPut, Asked, PutPromised}
use Rattle.puts.proofs.Lists.{taken, queues_join}

-- ── is there room ──

-- what the waiting owners give up
freed_is : (p : Plan) → Sound p → (o : ℕ) (ws : List ℕ) → sum_of (λ w. given_up o w (routes_of p)) ws ≡ freed_of o ws p.desk.routes
freed_is p S o [] = refl
freed_is p S o (w ∷ ws) =
    let a = ap (λ (x : Route). cond (eqb w o) 0 (length x.stops)) (route_at_lem p S w) in
    let b = freed_is p S o ws in
    omega arith

pub crowd_told : {r : List ℕ} {o out n : ℕ} {own : List ℕ} (k : ℕ) → Freed r o out → Stopped r o own → Forced r n
    → Crowded r o k (ltb (most_entries + out + length own) (n + k))
unfolding routes_of
crowd_told {o = o} {out} {n} {own} k F T N p l S H h q =
    let a = put_entries p o l S h in
    let b : out ≡ freed_of o p.desk.waiting p.desk.routes = F.is (routes_of p) H ∙ freed_is p S o p.desk.waiting in
    let c : length own ≡ length (route_of p o).stops =
    ap length (T.is (routes_of p) H) ∙ length-map (route_at (routes_of p) o).stops word ∙ ap (λ (x : Route). length x.stops) (route_at_lem p S o) in
    let d : n ≡ in_force p.desk.routes = N.is (routes_of p) H ∙ routes_force p S in
    elim (test (ltb most_entries (in_force (put_plan p o l).desk.routes))) [
      | pass z ↦ let y = ltb-true most_entries (in_force (put_plan p o l).desk.routes) z in
          lt-ltb (most_entries + out + length own) (n + k) (omega arith) ∙ sym z
      | fail z ↦ let y = ltb-false most_entries (in_force (put_plan p o l).desk.routes) z in
          le-ltb (most_entries + out + length own) (n + k) (omega arith) ∙ sym z
    ]

pub ruleset crowding = (rules, crowd_told)

-- ── both steps ──

-- the plan before the owner's own stage, once nobody waits
abbrev ready : Plan → ℕ → Plan
ready p o = unwaited (amid p (emptied p o))

-- who waits does not matter to a stage
turned_put : (p : Plan) (o : ℕ) (l : List ℕ) → turning (ready p o) o (read p.base.jobs l) ≡ put_plan p o l
unfolding put_plan own_stage turning staging
turned_put p o l = refl

own_stage_lem : (p : Plan) (o : ℕ) (l : List ℕ) → staging (ready p o) o (read p.base.jobs l) ≡ own_stage p o l
unfolding own_stage staging
own_stage_lem p o l = refl

module _ {p : Plan} {o : ℕ} {s : List ℕ} {i v : ℕ} {l : List ℕ} (N : Entered p o s i v l) where
  abbrev x : Route
  x = read p.base.jobs l

  gives : Gives (ready p o) o s x
  unfolding put_plan
  gives = record { owner = N.owner; reads = read_read p.base.jobs l N.entries; stops = N.stops; room = N.room }

  module _ {r₁ e₁ gone₁ : List ℕ} {b : Result ℕ Senseless} (F : Freely p o (ready p o) r₁ e₁ gone₁ b) {r₂ e₂ went went₂ came₂ : List ℕ} {a : Result (ℕ × ℕ) Senseless}
      (T : RouteTurn r₁ e₁ o s i v r₂ e₂ went went₂ came₂ a) (long : most_entries ≤ length went) where
    turned : Turned (ready p o) o x r₂ e₂ went₂ came₂ a
    turned = T.turned (ready p o) x F.desked gives N.invalid N.violations (let z = (F.desked.sound.reads o).few in omega arith)

    own_came : Queues (take turned.edges.fresh came₂) (own_stage p o l).came
    own_came = rw (own_stage_lem p o l) at turned.edges.came_queues

    own_went : Queues turned.edges.gone (own_stage p o l).went
    own_went = rw (own_stage_lem p o l) at turned.edges.went_queues

    queued : push [] (take turned.edges.fresh came₂ ++ (turned.edges.gone ++ take F.count gone₁)) ≡ seeds p o l
    unfolding seeds
    queued =
        queues_join (take turned.edges.fresh came₂) (turned.edges.gone ++ take F.count gone₁) (own_stage p o l).came
        ((own_stage p o l).went ++ (emptied p o).went) own_came
        (queues_join turned.edges.gone (take F.count gone₁) (own_stage p o l).went (emptied p o).went own_went F.queues) []

    put_done : {h c g : ℕ} → a ≡ Ok (h, c) → b ≡ Ok g → length s ≤ most_entries
        → PutDone {E = Senseless} p o l r₂ e₂ came₂ went₂ gone₁ (Ok (record { came = c; went = h; gone = g }))
    put_done {h} {c} {g} q z few =
        let (hw, hc) = done_both (sym q ∙ turned.edges.answer) in
        let hg : g ≡ F.count = ok_same (sym z ∙ F.answer) in
        record {
          heads = record { came = turned.edges.fresh; went = length turned.edges.gone; gone = F.count };
          answer = rw (hc, hw, hg);
          desked = rw (turned_put p o l) at turned.desked;
          queued = rw turned.edges.went_listed queued;
          few_came = let (y, w) = T.short h c q in omega arith;
          few_went = let y = turned.few in let w = (F.desked.sound.reads o).few in omega arith;
          few_gone = F.few;
          came_queued = own_came [];
        }

-- an error puts nothing
within_err : {E : Type 0} (a : Result Heads E) (i j k : ℕ) → IsErr a → PutWithin a i j k
within_err (Ok h) i j k q = clash q refl
within_err (Err d) i j k q = tt

refusal_same : {k l : Refusal} → ◌≡◌ {A = Result Heads Refusal} (Err k) (Err l) → k ≡ l
refusal_same q = cc

bad_is_no_room : BadStore ≡ NoRoom → ⊥
bad_is_no_room q = cc

ok_no_refusal : {A : Type 0} {x : Heads} {k : Refusal} → ◌≡◌ {A = Result Heads Refusal} (Ok x) (Err k) → A
ok_no_refusal q = absurd (cc)

-- ── the stops ──

module _ {r e : List ℕ} {o : ℕ} {r₁ e₁ gone gone₁ : List ℕ} {b : Result ℕ Senseless} (A : AllEmptied r e o r₁ e₁ gone gone₁ b) where
  pub stops_never : {s : List ℕ} {i v : ℕ} {came went : List ℕ} {z : Senseless} (a : Result Heads Senseless) → b ≡ Err z → IsErr a
      → StopsPut r e o s i v r₁ e₁ came came went went gone gone₁ a
  stops_never a q k = record { within = within_err _ _ _ _ k; done = λ p l D N. never_ok (sym q ∙ (A.freely p D).answer) }

  module _ {s : List ℕ} {i v : ℕ} {r₂ e₂ went went₂ came came₂ : List ℕ} {a : Result (ℕ × ℕ) Senseless}
      (T : RouteTurn r₁ e₁ o s i v r₂ e₂ went went₂ came₂ a) (long : most_entries ≤ length went) where
    pub stops_bad : {z : Senseless} (x : Result Heads Senseless) → a ≡ Err z → IsErr x
        → StopsPut r e o s i v r₂ e₂ came came₂ went went₂ gone gone₁ x
    stops_bad x q k = record {
      within = within_err _ _ _ _ k;
      done = λ p l D N. never_ok (sym q ∙ (turned N (A.freely p D) T long).edges.answer);
    }

    pub stops_done : {g h c : ℕ} → b ≡ Ok g → a ≡ Ok (h, c) → length s ≤ most_entries → most_entries ≤ length came
        → StopsPut r e o s i v r₂ e₂ came came₂ went went₂ gone gone₁ (Ok (record { came = c; went = h; gone = g }))
    stops_done {g} {h} {c} q z few room = record {
      within = let (x, y) = T.short h c z in (omega arith, x, A.within g q);
      done = λ p l D N. put_done N (A.freely p D) T long z q few;
    }

-- ── the put ──

module _ {n o : ℕ} {l expected out stops : List ℕ} {sn : Snap} (N : Snapped n l expected o out stops sn) (few : length l ≤ most_entries) where
  pub valid_few : sn.valid ≤ most_entries
  valid_few = let a = N.all in omega arith

  pub stops_few : length (take sn.valid stops) ≤ most_entries
  stops_few = let a = valid_few in omega (arith, length-take sn.valid stops)

  -- the stops as they were written
  stops_read : length out ≡ most_entries → take sn.valid stops ≡ words (read n l).stops
  stops_read h =
      let k : sn.valid ≡ length (words (read n l).stops) = N.valid ∙ sym (length-map (read n l).stops word) in
      rw N.written (taken out (words (read n l).stops) sn.valid k (let a = valid_few in omega arith))

  module _ {r e : List ℕ} {b : Bool} (C : Crowded r o sn.valid b) where
    told : (p : Plan) → Asked r e p expected n o → b ≡ ltb most_entries (in_force (put_plan p o l).desk.routes)
    told p Q = C p l Q.desked.sound Q.desked.routes Q.owner (N.valid ∙ ap (λ (j : ℕ). length (read j l).stops) Q.jobs)

    pub put_full : {came went gone : List ℕ} → b ≡ true → PutPromised r e expected n o l r e came came went went gone gone (Err NoRoom)
    put_full q = record {
      within = tt;
      done = λ p Q z. clash (sym (told p Q) ∙ q) (le-ltb most_entries (in_force (put_plan p o l).desk.routes) z);
      full = λ p Q z. (refl, refl, refl);
      stays = λ q. (refl, refl);
      refuses = λ k z. inr (sym (refusal_same z));
    }

    module _ {i v : ℕ} {came went gone r' e' came' went' gone' : List ℕ} {a : Result Heads Senseless} (q : b ≡ false)
        (h : length out ≡ most_entries) (ei : i ≡ sn.invalid) (ev : v ≡ sn.violations)
        (T : StopsPut r e o (take sn.valid stops) i v r' e' came came' went went' gone gone' a) where
      put_done_in : (p : Plan) → Asked r e p expected n o → in_force (put_plan p o l).desk.routes ≤ most_entries
          → PutDone p o l r' e' came' went' gone' a
      put_done_in p Q z = T.done p l Q.desked (record {
        owner = Q.owner;
        entries = few;
        stops = stops_read h ∙ ap (λ (j : ℕ). words (read j l).stops) Q.jobs;
        invalid = ei ∙ N.invalid ∙ ap (λ (j : ℕ). (read j l).invalid) Q.jobs;
        violations = ev ∙ N.violations p.base Q.stated ∙ ap (λ (j : ℕ). violations_of p.base o (read j l)) Q.jobs;
        room = z;
      })

      roomy : {A : Type 0} (p : Plan) → Asked r e p expected n o → most_entries < in_force (put_plan p o l).desk.routes → A
      roomy p Q z = clash (lt-ltb most_entries (in_force (put_plan p o l).desk.routes) z) (sym (told p Q) ∙ q)

      pub put_senseless : {z : Senseless} (x : Result Heads Refusal) → a ≡ Err z → IsErrAnd x (λ k. k ≡ BadStore)
          → PutPromised r e expected n o l r' e' came came' went went' gone gone' x
      put_senseless x k y = let (d, at, is) = err_from_is_err_and x y in record {
        within = within_err _ _ _ _ (ap is_err at);
        done = λ p Q z. never_ok (sym k ∙ (put_done_in p Q z).answer);
        full = λ p Q z. roomy p Q z;
        stays = λ z. absurd (bad_is_no_room (sym is ∙ refusal_same (sym at ∙ z)));
        refuses = λ c z. inl (sym (refusal_same (sym at ∙ z)) ∙ is);
      }

      pub put_stops : {x : Heads} → a ≡ Ok x → PutPromised r e expected n o l r' e' came came' went went' gone gone' (Ok x)
      put_stops k = record {
        within = rw k at T.within;
        done = λ p Q z. let D = put_done_in p Q z in record {
          heads = D.heads;
          answer = ap Ok (ok_same (sym k ∙ D.answer));
          desked = D.desked;
          queued = D.queued;
          few_came = D.few_came;
          few_went = D.few_went;
          few_gone = D.few_gone;
          came_queued = D.came_queued;
        };
        full = λ p Q z. roomy p Q z;
        stays = λ z. ok_no_refusal z;
        refuses = λ c z. ok_no_refusal z;
      }

pub ruleset putting = (rules, valid_few, stops_few, put_full, put_senseless, put_stops)
