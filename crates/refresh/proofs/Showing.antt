-- The verdict call: what is shown of a plan, and how its promise is kept. Assumes nothing.
use Prim.Native.Nat.{ℕ, zero, suc, ◌≤◌, ◌<◌}
use native.Mathlib.Omega.{arith}
use mathlib.Core.Path.{◌≡◌, refl, sym, ap, subst, ◌∙◌}
use mathlib.Core.Bool.{Bool, true, false}
use mathlib.Core.Option.{Option, none, some}
use mathlib.Core.List.{List}
use lib.ListN.{length, take}
use lib.Seq.{sets, length-sets, length-take-le}
use borrow.Author.Tests.{lt-ltb, le-ltb}
use Rattle.rules.specs.declared.Plan.{Plan as Counts}
use Rattle.rules.specs.declared.Refusal.{Refusal}
use Rattle.rules.specs.declared.Refusal.TheVariants.{ShortAnswer}
use Rattle.rules.specs.Sizes.{is_short, edges_length, most_jobs}
use Rattle.rules.specs.Routes.{Plan}
use Rattle.rules.specs.Shown.{order, cycle, shown_line_up, shown_cycle}
use Rattle.rules.specs.Calls.{to_verdict, Reply, refused, lined_up, cycled, verdict_of, accepted}
use Rattle.rules.specs.Sound.{Sound}
use Rattle.edges.specs.Edges.{Holds}
use Rattle.routes.specs.Desks.{edges_of}
use Rattle.graphs.specs.Graph.{live as live_in, Below}
use Rattle.shown.specs.Lowests.{Lowest, Shown}
use Rattle.shown.specs.Cycles.{Cycles, Looped}
use Rattle.std.specs.Prelude.{Result, Ok, Err}
use Rattle.refresh.specs.declared.verdict.Judged.{Judged}
use Rattle.refresh.specs.declared.verdict.Judged.TheVariants.{LineUp, Cycle}
use Rattle.stores.specs.Headers.{open_of}
use Rattle.stores.specs.Promise.{Slices, lent_of, Held, answer_of, Decided, Promise}
use Rattle.stores.specs.Says.{places}
use Rattle.refresh.specs.Shows.{shown_as, Showing, Shows, Closing}
use Rattle.stores.proofs.Tabled.{places_take, taken_sets}
use Rattle.stores.proofs.Promises.{decided_refused, refusal_long, decided_read, closed_kept, opened_kept, heeds_first, heeds_done}
use Rattle.times.proofs.Graphing.{below}
use Rattle.times.proofs.Judging.{order_is, cycle_is}

-- ── what is shown ──

-- what is shown is no refusal
pub never_refused : (out : List ℕ) (v : Judged) (k : Refusal) → shown_as out v ≡ refused k → ⊥
never_refused out (LineUp n) k e = let z : ◌≡◌ {A = ℕ} 0 1 = cc in omega arith
never_refused out (Cycle n) k e = let z : ◌≡◌ {A = ℕ} 0 1 = cc in omega arith

-- the answer buffer begins with what was written
placed : (out l : List ℕ) (k : ℕ) → k ≤ length l → k ≤ length out → places k (sets out 0 (take k l)) ≡ take k l
placed out l k h i =
    places_take k (sets out 0 (take k l)) (let a = length-sets out 0 (take k l) in omega arith)
    ∙ taken_sets out (take k l) k (length-take-le k l h) i

below_at : (p : Plan) → Sound p → (n : ℕ) → n ≡ p.base.jobs → Below n (edges_of p)
below_at p S n j = subst (λ (k : ℕ). Below k (edges_of p)) (sym j) (below p S)

module _ {e o o' : List ℕ} {n r : ℕ} (C : Cycles e n o r o') (out : List ℕ) where
  module _ (p : Plan) (S : Sound p) (H : Holds e (edges_of p)) (j : n ≡ p.base.jobs) where
    cycle_shown : (c : Option (List ℕ)) → cycle n (live_in (edges_of p)) ≡ c → shown_cycle p ≡ c
    cycle_shown c x = sym (cycle_is p S) ∙ ap (λ (k : ℕ). cycle k (live_in (edges_of p))) (sym j) ∙ x

    cycled_is : (k : ℕ) → Looped (edges_of p) n o' k → length o' ≡ most_jobs → k ≤ most_jobs → k ≤ length out → shown_line_up p ≡ none
        → {out' : List ℕ} → out' ≡ sets out 0 (take k o') → Showing p out (Cycle k) out'
    unfolding places
    cycled_is zero L len h i x w = record { says = rw (x, cycle_shown none L); answers = w }
    cycled_is (suc k) L len h i x {out'} w =
        let y : places (suc k) out' ≡ take (suc k) o' = ap (places (suc k)) w ∙ placed out o' (suc k) (omega arith) i in
        record { says = rw (x, cycle_shown _ L) (ap cycled y); answers = w ∙ ap (sets out 0) (sym y) }

  pub closing_shown : n ≤ most_jobs → n ≤ length out → length o' ≡ most_jobs → {out' : List ℕ} → out' ≡ sets out 0 (take r o')
      → Closing e n out (Cycle r) out'
  closing_shown i l len w = let h = C.within in record {
    is = λ p S H j x. cycled_is p S H j r (C.is (edges_of p) H (below_at p S n j)) len (omega arith) (omega arith) x w;
  }

module _ {e o o' : List ℕ} {n : ℕ} {r : Bool} (L : Lowest e n o r o') (out : List ℕ) where
  module _ (p : Plan) (S : Sound p) (H : Holds e (edges_of p)) (j : n ≡ p.base.jobs) where
    lined : Shown (edges_of p) n o' r
    lined = L.is (edges_of p) H (below_at p S n j)

    line_up_shown : (c : Option (List ℕ)) → order n (live_in (edges_of p)) ≡ c → shown_line_up p ≡ c
    line_up_shown c x = sym (order_is p S) ∙ ap (λ (k : ℕ). order k (live_in (edges_of p))) (sym j) ∙ x

  pub shows_closed : r ≡ false → {v : Judged} {out' : List ℕ} → Closing e n out v out' → Shows e n out v out'
  shows_closed q C = record { is = λ p S H j. C.is p S H j (line_up_shown p S H j none (rw q at (lined p S H j))) }

  pub shows_lined : r ≡ true → n ≤ most_jobs → n ≤ length out → length o' ≡ most_jobs → {out' : List ℕ} → out' ≡ sets out 0 (take n o')
      → Shows e n out (LineUp n) out'
  shows_lined q i l len {out'} w = record {
    is = λ p S H j.
        let x = line_up_shown p S H j (some (take n o')) (rw q at (lined p S H j)) in
        let y : places n out' ≡ take n o' = ap (places n) w ∙ placed out o' n (omega arith) l in
        record { says = rw x (ap lined_up y); answers = w ∙ ap (sets out 0) (sym y) };
  }

-- ── the call ──

module _ (s : Slices) (out : List ℕ) {h : Result Counts Refusal} (opens : h ≡ open_of (lent_of s) s.base) where
  pub verdict_closed : {r : Refusal} → h ≡ Err r → Promise (to_verdict (length out)) s s out out (refused r)
  verdict_closed = closed_kept (to_verdict (length out)) s opens out refl

  module _ {plan : Counts} (is : h ≡ Ok plan) where
    pub verdict_few : length out < plan.jobs → Promise (to_verdict (length out)) s s out out (refused ShortAnswer)
    verdict_few k = opened_kept (to_verdict (length out)) s opens s out out (refused ShortAnswer) is (λ f p H q.
        decided_refused (some p) (to_verdict (length out)) s out ShortAnswer
        (refusal_long (some p) (to_verdict (length out)) s f ∙ rw (lt-ltb (length out) p.base.jobs (rw q at k))))
        (heeds_first (to_verdict (length out)) s opens out (rw (is, lt-ltb (length out) plan.jobs k)))

    some_verdict : is_short (lent_of s) ≡ false → (p : Plan) → Held s p → p.base.jobs ≤ length out → (r : Reply)
        → r ≡ verdict_of (shown_line_up p) (shown_cycle p) → Decided (some p) (to_verdict (length out)) s s out (sets out 0 (answer_of r)) r
    unfolding accepted
    some_verdict f p H k r e = decided_read p (to_verdict (length out)) s H
        (refusal_long (some p) (to_verdict (length out)) s f ∙ rw (le-ltb (length out) p.base.jobs k)) out r refl (sym e)

    pub verdict_shown : {n : ℕ} {v : Judged} {out' : List ℕ} → n ≡ plan.jobs → n ≤ length out
        → Shows (take edges_length s.edges) n out v out' → Promise (to_verdict (length out)) s s out out' (shown_as out' v)
    verdict_shown {n} {v} {out'} m k X = opened_kept (to_verdict (length out)) s opens s out out' (shown_as out' v) is (λ f p H q.
        let m' : n ≡ p.base.jobs = m ∙ ap (λ (c : Counts). c.jobs) q in
        let x = X.is p H.desk.sound H.desk.edges m' in
        let d = some_verdict f p H (rw m' at k) (shown_as out' v) x.says in
        record { says = d.says; leaves = d.leaves; answers = x.answers })
        (heeds_done (to_verdict (length out)) s opens (rw (is, le-ltb (length out) plan.jobs (rw m at k)))
        (never_refused out' v))
