-- Reset keeps its promise, whatever the store holds. Assumes nothing.
use mathlib.Core.Path.{◌≡◌, refl, sym, ap, ◌∙◌}
use mathlib.Core.Bool.{true, false}
use mathlib.Core.Option.{none}
use mathlib.Core.List.{[]}
use lib.ListN.{set}
use Rattle.rules.specs.declared.Refusal.TheVariants.{ShortStore}
use Rattle.rules.specs.Sizes.{is_short}
use Rattle.rules.specs.Routes.{State}
use Rattle.rules.specs.Scores.{no_change}
use Rattle.rules.specs.Calls.{refused, scored, to_reset, refusal, accepted, change_of}
use Rattle.rules.proofs.Refused.{accepted_step}
use Rattle.stores.specs.Promise.{Slices, slices, lent_of, call_of, unmarked, after, AnyPromise}
use Rattle.stores.proofs.Promises.{decided_refused, refusal_short, refusal_long}

module _ (s : Slices) where
  pub reset_short : is_short (lent_of s) ≡ true → AnyPromise to_reset s s (refused ShortStore)
  reset_short e = record {
    decides = λ t. decided_refused t to_reset s [] ShortStore (refusal_short t to_reset s e);
    zero = λ k q. ap change_of q;
  }

  module _ (e : is_short (lent_of s) ≡ false) where
    fine : (t : State) → refusal t (call_of to_reset s) ≡ none
    fine t = refusal_long t to_reset s e

    leaves : (t : State) → slices (set s.base 0 0) s.spans s.edges s.routes s.times ≡ after t (call_of to_reset s) s
    unfolding after unmarked accepted
    leaves t = rw (fine t, accepted_step t (call_of to_reset s) (fine t))

    says : (t : State) → scored no_change ≡ (accepted t to_reset).reply
    unfolding accepted
    says t = refl

    pub reset_done : AnyPromise to_reset s (slices (set s.base 0 0) s.spans s.edges s.routes s.times) (scored no_change)
    reset_done = record {
      decides = λ t. record {
        says = says t ∙ sym (ap (λ x. x.reply) (accepted_step t (call_of to_reset s) (fine t)));
        leaves = leaves t;
        answers = refl;
      };
      zero = λ k q. ap change_of q;
    }
