-- A call of blocks stands in a history like any other: what it promises of its records is what `Promise` says of reply and store. Assumes
-- nothing.
use Prim.Native.Nat.{ℕ}
use mathlib.Core.Path.{◌≡◌, refl, sym, ap, ◌∙◌}
use mathlib.Core.Option.{Option, none, some}
use mathlib.Core.List.{List, []}
use lib.ListN.{length}
use lib.Seq.{sets}
use Rattle.rules.specs.declared.Block.{Block}
use Rattle.rules.specs.declared.Refusal.{Refusal}
use Rattle.rules.specs.Routes.{State}
use Rattle.rules.specs.Calls.{Reply, to_blocks, refusal, accepted, reply}
use Rattle.rules.proofs.Refused.{refused_stays, accepted_step}
use Rattle.stores.specs.Promise.{Slices, answer_of}
use Rattle.refresh.specs.History.{Kept}
use Rattle.blocks.specs.Promise.{BlocksPromise, blocks_call}

-- no number is written: the records are the answer
accepted_none : (t : State) (os : List ℕ) (k : ℕ) → answer_of (accepted t (to_blocks os k)).reply ≡ []
unfolding accepted
accepted_none none os k = refl
accepted_none (some p) os k = refl

none_written : (t : State) (os : List ℕ) (s : Slices) (out : List Block) → answer_of (reply t (blocks_call os s out)) ≡ []
none_written t os s out = go (refusal t (blocks_call os s out)) refl
  where
    go : (o : Option Refusal) → refusal t (blocks_call os s out) ≡ o → answer_of (reply t (blocks_call os s out)) ≡ []
    go none e = ap (λ x. answer_of x.reply) (accepted_step t (blocks_call os s out) e) ∙ accepted_none t os (length out)
    go (some r) e = ap answer_of (refused_stays t (blocks_call os s out) r e).1

pub blocks_kept : (os : List ℕ) (s s' : Slices) (out out' : List Block) (r : Reply) → BlocksPromise os s s' out out' r
    → Kept (to_blocks os (length out)) s s' [] [] r
blocks_kept os s s' out out' r B = record {
  decides = λ t h. let D = B.decides t h in record {
    says = D.says;
    leaves = D.leaves;
    answers = ap (λ (l : List ℕ). sets [] 0 l) (sym (none_written t os s out) ∙ ap answer_of (sym D.says));
  };
  heeds = let H = B.heeds in record { first = H.first; later = H.later; stays = λ k e n. ((H.stays k e n).0, refl); zero = H.zero };
}
