-- The first score of a plan, and how load keeps its promise, whatever the store holds. Assumes nothing.
use Prim.Native.Nat.{ℕ, ◌≤◌}
use mathlib.Core.Path.{◌≡◌, sym, ap, ◌∙◌}
use mathlib.Core.Bool.{Bool, true, false}
use mathlib.Core.Option.{none}
use mathlib.Core.List.{List, [], ◌++◌}
use lib.ListN.{length, take, drop}
use lib.Seq.{sets}
use Rattle.rules.specs.declared.Refusal.{Refusal}
use Rattle.rules.specs.declared.Report.{Report}
use Rattle.rules.specs.declared.Refusal.TheVariants.{ShortStore}
use Rattle.rules.specs.Sizes.{Loading, is_short, base_of, edges_length, spans_length, times_length}
use Rattle.rules.specs.Refusals.{first_of, load_checks}
use Rattle.rules.specs.Routes.{Plan, State, fresh}
use Rattle.rules.specs.Calls.{refused, to_load, refusal, accepted, change_of}
use Rattle.rules.proofs.Refused.{accepted_step}
use Rattle.times.specs.Words.{time_words}
use Rattle.times.specs.Settles.{Given, Renews}
use Rattle.rules.specs.declared.Score.{Score}
use Rattle.stores.specs.Promise.{Slices, slices, lent_of, call_of, Held, after, answer_of, AnyPromise}
use Rattle.std.specs.Prelude.{Result, Ok, Err}
use Rattle.refresh.specs.Loads.{checked_as}
use Rattle.stores.specs.Says.{says_scored}
use Rattle.stores.specs.Sums.{ScoredBy}
use Rattle.refresh.specs.Fills.{Loadable, Over, Untimed, Rated, Rates, Filled}
use Rattle.refresh.proofs.Checking.{checked_none, checked_some}
use Rattle.stores.proofs.Openings.{long}
use Rattle.stores.proofs.Promises.{decided_refused, refusal_short, refusal_long}
use Rattle.stores.proofs.Scores.{scored_held}
use Rattle.refresh.proofs.Fresh.{over}

-- ── the first score ──

module _ {b s e r : List ℕ} {m n : ℕ} (same : m ≡ n) where
  given : (p : Plan) → Untimed p b s e r n → Given p (take edges_length e) (take spans_length s) m
  given p U = record { sound = U.desk.sound; edges = U.desk.edges; spans = U.spans; jobs = same ∙ U.jobs }

  pub rates_is : {t ts : List ℕ} {w : Report} {x : Result Score Refusal} → Renews (take edges_length e) (take spans_length s) m w ts → length ts ≡ times_length
      → ScoredBy b r (ts ++ drop times_length t) n x → Rates b s e r t n x (ts ++ drop times_length t)
  rates_is {t} {ts} {x = x} R k S = record { is = rated }
    where
      rated : (p : Plan) → Untimed p b s e r n → Rated p t x (ts ++ drop times_length t)
      rated p U =
          let timed : ts ≡ time_words p = (R.is p (given p U)).times in
          let O : Over times_length (time_words p) t (ts ++ drop times_length t) = over times_length (time_words p) t (sym (ap length timed) ∙ k)
          (ap (λ (y : List ℕ). y ++ drop times_length t) timed) in
          let H : Held (slices b s e r (ts ++ drop times_length t)) p
          = record { base = U.base; spans = U.spans; desk = U.desk; times = O.front } in
          record {
            says = scored_held (slices b s e r (ts ++ drop times_length t)) p H S U.jobs;
            times = O;
          }

-- ── load: by what the lengths and the checks told ──

module _ (l : Loading) (s : Slices) {b : Bool} (lengths : b ≡ is_short (lent_of s)) where
  pub load_short : b ≡ true → AnyPromise (to_load l) s s (refused ShortStore)
  load_short e = record {
    decides = λ t. decided_refused t (to_load l) s [] ShortStore (refusal_short t (to_load l) s (sym lengths ∙ e));
    zero = λ k q. ap change_of q;
  }

  module _ (e : b ≡ false) {k : Result (Unit {0}) Refusal} (checks : k ≡ checked_as (first_of (load_checks l))) where
    refusal_is : (t : State) → refusal t (call_of (to_load l) s) ≡ first_of (load_checks l)
    refusal_is t = refusal_long t (to_load l) s (sym lengths ∙ e)

    pub load_refused : {r : Refusal} → k ≡ Err r → AnyPromise (to_load l) s s (refused r)
    load_refused {r} q = record {
      decides = λ t. decided_refused t (to_load l) s [] r (refusal_is t ∙ checked_some (first_of (load_checks l)) (sym q ∙ checks));
      zero = λ k q. ap change_of q;
    }

    module _ (q : k ≡ Ok tt) where
      fine : first_of (load_checks l) ≡ none
      fine = checked_none (first_of (load_checks l)) (sym q ∙ checks)

      pub loadable : Loadable l (length s.base) (length s.spans) (length s.edges) (length s.routes)
          × (times_length ≤ length s.times)
      loadable = let x = long (lent_of s) (sym lengths ∙ e) in
          (record { fine = fine; base_long = x.base; spans_long = x.spans; edges_long = x.edges; routes_long = x.routes }, x.times)

      none_refused : (t : State) → refusal t (call_of (to_load l) s) ≡ none
      none_refused t = refusal_is t ∙ fine

      module _ {s' : Slices} {x : Result Score Refusal} (F : Filled (fresh (base_of l)) s s' x) where
        leaves : (t : State) → s' ≡ after t (call_of (to_load l) s) s
        unfolding after accepted
        leaves t = F.leaves ∙ sym (rw (none_refused t, accepted_step t (call_of (to_load l) s) (none_refused t)))

        says : (t : State) → says_scored x ≡ (accepted t (to_load l)).reply
        unfolding accepted
        says t = ap says_scored F.says

        -- a load has no answer buffer
        silent : [] ≡ sets [] 0 (answer_of (says_scored x))
        silent = rw F.says

        pub load_done : AnyPromise (to_load l) s s' (says_scored x)
        load_done = record {
          decides = λ t. record {
            says = says t ∙ sym (ap (λ y. y.reply) (accepted_step t (call_of (to_load l) s) (none_refused t)));
            leaves = leaves t;
            answers = silent;
          };
          zero = λ k q. ap change_of q;
        }
