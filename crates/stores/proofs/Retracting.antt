-- Retract keeps its promise: the owner waits, and every word but the routes' stays. Assumes nothing.
use Prim.Native.Nat.{ℕ, ◌<◌}
use native.Mathlib.Omega.{arith}
use mathlib.Core.Path.{◌≡◌, refl, sym, ap, ◌∙◌}
use mathlib.Core.Bool.{Bool, true, false, cond}
use mathlib.Core.Option.{some}
use mathlib.Core.List.{List, [], ◌∷◌, ◌++◌}
use lib.ListN.{take, drop}
use lib.Dec.{ltb}
use borrow.Author.Tests.{ltb-true, ltb-false, lt-leb, le-leb}
use Rattle.rules.specs.declared.Plan.{Plan as Counts}
use Rattle.rules.specs.declared.Refusal.{Refusal}
use Rattle.rules.specs.declared.Refusal.TheVariants.{NoSuchOwner, BadStore}
use Rattle.rules.specs.Lists.{memb}
use Rattle.rules.specs.Sizes.{is_short, base_length, edges_length, routes_length, spans_length, times_length}
use Rattle.rules.specs.Routes.{Plan, live, wait}
use Rattle.rules.specs.Scores.{no_change}
use Rattle.rules.specs.Calls.{refused, scored, to_retract, accepted}
use Rattle.rules.specs.declared.Senseless.{Senseless}
use Rattle.routes.specs.Promises.{Retracted}
use Rattle.routes.specs.Desks.{Desked}
use Rattle.routes.proofs.Waits.{retracts}
use Rattle.times.specs.Words.{span_words, time_words}
use Rattle.times.proofs.Timing.{same_words}
use Rattle.std.specs.Prelude.{Result, Ok, Err}
use Rattle.stores.specs.Words.{base_words}
use Rattle.stores.specs.Headers.{open_of, counts_of}
use Rattle.stores.specs.Promise.{Slices, slices, lent_of, Held, holding, Decided, Promise}
use Rattle.stores.proofs.Promises.{closed_kept, opened_kept, decided_refused, decided_written, refusal_long, heeds_first, heeds_done, heeds_bad, front_back, holding_is}

-- a plan in which one more waits has the same base, edges and times
wait_base : (o : ℕ) (p : Plan) → (wait o p).base ≡ p.base
unfolding wait
wait_base o p = by_mark (memb o p.desk.waiting)
  where
    by_mark : (b : Bool)
        → (cond b p (record { base = p.base; desk = record { routes = p.desk.routes; waiting = p.desk.waiting ++ o ∷ []; heads = p.desk.heads; tails = p.desk.tails } })).base ≡ p.base
    by_mark true = refl
    by_mark false = refl

wait_live : (o : ℕ) (p : Plan) → live (wait o p) ≡ live p
unfolding wait
wait_live o p = by_mark (memb o p.desk.waiting)
  where
    by_mark : (b : Bool)
        → live (cond b p (record { base = p.base; desk = record { routes = p.desk.routes; waiting = p.desk.waiting ++ o ∷ []; heads = p.desk.heads; tails = p.desk.tails } })) ≡ live p
    by_mark true = refl
    by_mark false = refl

wait_times : (o : ℕ) (p : Plan) → time_words (wait o p) ≡ time_words p
wait_times o p = same_words (wait o p) p (wait_base o p) (wait_live o p)

unlike : {z : Senseless} → ◌≡◌ {A = Result (Unit {0}) Senseless} (Err z) (Ok tt) → ⊥
unlike e = let z : ◌≡◌ {A = ℕ} 0 1 = cc in omega arith

module _ (o : ℕ) (s : Slices) {h : Result Counts Refusal} (opens : h ≡ open_of (lent_of s) s.base) where
  pub retract_closed : {r : Refusal} → h ≡ Err r → Promise (to_retract o) s s [] [] (refused r)
  retract_closed = closed_kept (to_retract o) s opens [] refl

  module _ {plan : Counts} (is : h ≡ Ok plan) {t : Bool} (has : t ≡ ltb o plan.owners) where
    pub retract_nobody : t ≡ false → Promise (to_retract o) s s [] [] (refused NoSuchOwner)
    retract_nobody e = let k = ltb-false o plan.owners (sym has ∙ e) in
        opened_kept (to_retract o) s opens s [] [] (refused NoSuchOwner) is (λ f p H q.
        decided_refused (some p) (to_retract o) s [] NoSuchOwner
        (refusal_long (some p) (to_retract o) s f ∙ rw (le-leb p.base.owners o (rw q at k))))
        (heeds_first (to_retract o) s opens [] (rw (is, le-leb plan.owners o k)))

    module _ (e : t ≡ true) {r' : List ℕ} {d : Result (Unit {0}) Senseless} (R : Retracted (take routes_length s.routes) o r' d) where
      k : o < plan.owners
      k = ltb-true o plan.owners (sym has ∙ e)

      abbrev left : Slices
      left = slices s.base s.spans s.edges (r' ++ drop routes_length s.routes) s.times

      waits : (p : Plan) → Held s p → plan ≡ counts_of p.base → (d ≡ Ok tt) × Desked r' (take edges_length s.edges) (wait o p)
      waits p H q = retracts R H.desk (rw q at k)

      written : (p : Plan) → Held s p → Desked r' (take edges_length s.edges) (wait o p) → left ≡ holding (wait o p) s
      written p H D = holding_is (wait o p) s left
          (sym (front_back base_length s.base _ (H.base ∙ ap base_words (sym (wait_base o p)))))
          (sym (front_back spans_length s.spans _ (H.spans ∙ ap span_words (sym (wait_base o p)))))
          (sym (front_back edges_length s.edges _ D.edges.words))
          (ap (λ (l : List ℕ). l ++ drop routes_length s.routes) D.routes.words)
          (sym (front_back times_length s.times _ (H.times ∙ sym (wait_times o p))))

      some_waits : is_short (lent_of s) ≡ false → (p : Plan) → Held s p → plan ≡ counts_of p.base
          → Decided (some p) (to_retract o) s left [] [] (scored no_change)
      unfolding accepted
      some_waits f p H q = decided_written p (wait o p) (to_retract o) s left (scored no_change)
          (refusal_long (some p) (to_retract o) s f ∙ rw (lt-leb p.base.owners o (rw q at k))) refl refl refl
          (written p H (waits p H q).1)

      pub retract_waits : d ≡ Ok tt → Promise (to_retract o) s left [] [] (scored no_change)
      retract_waits f = opened_kept (to_retract o) s opens left [] [] (scored no_change) is some_waits
          (heeds_done (to_retract o) s opens (rw (is, lt-leb plan.owners o k)) (λ k f. let z : ◌≡◌ {A = ℕ} 0 1 = cc in omega arith))

      pub retract_bad : {z : Senseless} → d ≡ Err z → Promise (to_retract o) s left [] [] (refused BadStore)
      retract_bad f = opened_kept (to_retract o) s opens left [] [] (refused BadStore) is
          (λ g p H q. absurd (unlike (sym f ∙ (waits p H q).0)))
          (heeds_bad (to_retract o) s opens (rw (is, lt-leb plan.owners o k)) refl)
