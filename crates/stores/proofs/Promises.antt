-- How a promise is kept: by a refusal, which leaves all as it was, or by a reading of a store that stands for a plan. Assumes nothing.
use Prim.Native.Nat.{ℕ}
use native.Mathlib.Omega.{arith}
use mathlib.Core.Path.{◌≡◌, refl, sym, ap, ◌∙◌}
use mathlib.Core.Bool.{true, false}
use mathlib.Core.Option.{Option, none, some}
use mathlib.Core.List.{List, [], ◌∷◌, ◌++◌}
use lib.ListN.{take, drop, take-append-drop}
use lib.Seq.{sets}
use Rattle.rules.specs.declared.Plan.{Plan as Counts}
use Rattle.rules.specs.declared.Refusal.{Refusal}
use Rattle.rules.specs.declared.Refusal.TheVariants.{NotLoaded, ShortStore, BadStore}
use Rattle.rules.specs.Lists.{memb}
use Rattle.rules.specs.Sizes.{is_short, base_length, edges_length, routes_length, spans_length, times_length}
use Rattle.rules.specs.Refusals.{first_of, number_of}
use Rattle.rules.specs.Routes.{Plan, State}
use Rattle.rules.specs.Calls.{Ask, Reply, refused, checks_of, refusal, accepted, change_of}
use Rattle.rules.proofs.Ranges.{Test, pass, fail, test}
use Rattle.rules.proofs.Refused.{refused_stays, accepted_step}
use Rattle.edges.specs.Edges.{encode as edge_words}
use Rattle.routes.specs.Store.{encode as route_words}
use Rattle.routes.specs.Desks.{edges_of, routes_of}
use Rattle.times.specs.Words.{span_words, time_words}
use Rattle.stores.specs.Words.{base_words}
use Rattle.std.specs.Prelude.{Result, Ok, Err}
use Rattle.std.specs.Result.{IsErrAnd}
use Rattle.std.proofs.lemmas.Result.{err_from_is_err_and}
use Rattle.stores.specs.Headers.{open_of, counts_of}
use Rattle.stores.specs.Promise.{Slices, lent_of, call_of, Held, Stands, StandsFor, holding, after, answer_of, Decided, Promise, refused_by, later_of, Heeds}
use Rattle.stores.proofs.Openings.{open_short, open_none, open_some}

-- ── what a plan's words leave ──

pub front_back : (k : ℕ) (l m : List ℕ) → take k l ≡ m → m ++ drop k l ≡ l
front_back k l m e = ap (λ (x : List ℕ). x ++ drop k l) (sym e) ∙ take-append-drop k l

-- the slices that hold a plan are those that its words make
pub held_same : (s : Slices) (p : Plan) → Held s p → s ≡ holding p s
unfolding holding
held_same s p H = sym (rw (
  front_back base_length s.base _ H.base,
  front_back 512 s.spans _ H.spans,
  front_back edges_length s.edges _ H.desk.edges.words,
  front_back routes_length s.routes _ H.desk.routes.words,
  front_back times_length s.times _ H.times,
))

-- what is written, slice by slice
pub holding_is : (p : Plan) (s s' : Slices) → s'.base ≡ base_words p.base ++ drop base_length s.base
    → s'.spans ≡ span_words p.base ++ drop spans_length s.spans → s'.edges ≡ edge_words (edges_of p) ++ drop edges_length s.edges
    → s'.routes ≡ route_words (routes_of p) ++ drop routes_length s.routes → s'.times ≡ time_words p ++ drop times_length s.times → s' ≡ holding p s
unfolding holding
holding_is p s s' b u e r t = λ i. record { base = b i; spans = u i; edges = e i; routes = r i; times = t i }

-- ── a refusal ──

module _ (t : State) (a : Ask) (s : Slices) where
  refused_after : (r : Refusal) → refusal t (call_of a s) ≡ some r → s ≡ after t (call_of a s) s
  unfolding after
  refused_after r e = rw e

  pub decided_refused : (out : List ℕ) (r : Refusal) → refusal t (call_of a s) ≡ some r → Decided t a s s out out (refused r)
  decided_refused out r e = record {
    says = sym (refused_stays t (call_of a s) r e).1;
    leaves = refused_after r e;
    answers = refl;
  }

  pub refusal_short : is_short (lent_of s) ≡ true → refusal t (call_of a s) ≡ some ShortStore
  unfolding refusal
  refusal_short e = rw e

  pub refusal_long : is_short (lent_of s) ≡ false → refusal t (call_of a s) ≡ first_of (checks_of t a)
  unfolding refusal
  refusal_long e = rw e

-- ── a reading ──

module _ (p : Plan) (a : Ask) (s : Slices) (H : Held s p) (fine : refusal (some p) (call_of a s) ≡ none) where
  read_after : (accepted (some p) a).state ≡ some p → s ≡ after (some p) (call_of a s) s
  unfolding after
  read_after k = rw (fine, accepted_step (some p) (call_of a s) fine, k) (held_same s p H)

  pub decided_read : (out : List ℕ) (r : Reply) → (accepted (some p) a).state ≡ some p → (accepted (some p) a).reply ≡ r
      → Decided (some p) a s s out (sets out 0 (answer_of r)) r
  decided_read out r k e = record {
    says = sym (ap (λ x. x.reply) (accepted_step (some p) (call_of a s) fine) ∙ e);
    leaves = read_after k;
    answers = refl;
  }

-- ── a change ──

-- an accepted call that writes the words of the plan q, and has no answer buffer
pub decided_written : (p q : Plan) (a : Ask) (s s' : Slices) (r : Reply) → refusal (some p) (call_of a s) ≡ none
    → (accepted (some p) a).state ≡ some q → (accepted (some p) a).reply ≡ r → answer_of r ≡ [] → s' ≡ holding q s
    → Decided (some p) a s s' [] [] r
unfolding after
decided_written p q a s s' r fine k e n w = record {
  says = sym (ap (λ x. x.reply) (accepted_step (some p) (call_of a s) fine) ∙ e);
  leaves = w ∙ rw (fine, accepted_step (some p) (call_of a s) fine, k);
  answers = rw n;
}

-- ── of any contents ──

none_some : {A : Type 0} {r : Refusal} {x : Option Refusal} → x ≡ none → x ≡ some r → A
none_some e f = absurd (let z : ◌≡◌ {A = ℕ} 0 1 = cc in omega arith)

module _ {A : Type 0} (a : Ask) (s : Slices) {h : Result Counts Refusal} (opens : h ≡ open_of (lent_of s) s.base) where
  -- lengths and header refuse
  pub heeds_first : (out : List A) {r : Refusal} → refused_by h a ≡ some r → Heeds a s s out out (refused r)
  heeds_first out {r} e = record {
    first = λ k f. let q : r ≡ k = (let x = sym e ∙ ap (λ (h : Result Counts Refusal). refused_by h a) opens ∙ f in cc) in ap refused q;
    later = λ f k q. none_some f (sym (ap (λ (h : Result Counts Refusal). refused_by h a) opens) ∙ e);
    stays = λ k q n. (refl, refl);
    zero = λ k q. ap change_of q;
  }

  module _ (none_first : refused_by h a ≡ none) {s' : Slices} {out out' : List A} {r : Reply} where
    -- they do not: what is refused then
    pub heeds_later : ((k : Refusal) → r ≡ refused k → memb (number_of k) (12 ∷ later_of a) ≡ true)
        → ((k : Refusal) → r ≡ refused k → (k ≡ BadStore → ⊥) → (s' ≡ s) × (out' ≡ out)) → Heeds a s s' out out' r
    heeds_later l k = record {
      first = λ k f. none_some none_first (ap (λ (h : Result Counts Refusal). refused_by h a) opens ∙ f);
      later = λ f. l;
      stays = k;
      zero = λ k q. ap change_of q;
    }

    pub heeds_done : ((k : Refusal) → r ≡ refused k → ⊥) → Heeds a s s' out out' r
    heeds_done n = heeds_later (λ k e. absurd (n k e)) (λ k e. absurd (n k e))

    pub heeds_bad : r ≡ refused BadStore → Heeds a s s' out out' r
    heeds_bad e = heeds_later (λ k f. let q = same k f in rw q) (λ k f n. absurd (n (same k f)))
      where
        same : (k : Refusal) → r ≡ refused k → k ≡ BadStore
        same k f = cc

-- ── of every state that the store stands for ──

module _ (a : Ask) (s s' : Slices) (out out' : List ℕ) (r : Reply) where
  -- it is enough to go by what the store stands for
  pub promised : (is_short (lent_of s) ≡ true → (t : State) → Decided t a s s' out out' r)
      → (is_short (lent_of s) ≡ false → Stands s none → Decided none a s s' out out' r)
      → (is_short (lent_of s) ≡ false → (p : Plan) → Held s p → Decided (some p) a s s' out out' r)
      → Heeds a s s' out out' r → Promise a s s' out out' r
  promised f g h H = record { decides = λ t k. go t k (test (is_short (lent_of s))); heeds = H }
    where
      go : (t : State) → StandsFor s t → Test (is_short (lent_of s)) → Decided t a s s' out out' r
      go t k (pass e) = f e t
      go none k (fail e) = g e (k e)
      go (some p) k (fail e) = h e p (k e)

-- ── the exit of a `?` ──

-- what is answered is the refusal that the call before told
pub exit_err : {A : Type 0} {k : Refusal} {r : Result A Refusal} → IsErrAnd r (λ y. y ≡ k) → r ≡ Err k
exit_err {r = r} e = let p = err_from_is_err_and r e in p.1 ∙ ap Err p.2

-- ── by what the header says ──

unlike : {r : Refusal} {c : Counts} → Ok c ≡ Err r → ⊥
unlike e = let z : ◌≡◌ {A = ℕ} 0 1 = cc in omega arith

module _ (a : Ask) (s : Slices) {h : Result Counts Refusal} (opens : h ≡ open_of (lent_of s) s.base) where
  -- a store that does not open: 9, then 1
  pub closed_kept : (out : List ℕ) → checks_of none a ≡ (NotLoaded, true) ∷ [] → {r : Refusal} → h ≡ Err r
      → Promise a s s out out (refused r)
  closed_kept out k {r} e = promised a s s out out (refused r)
      (λ f t. let x = open_short s.base (lent_of s) f in
      let q : r ≡ ShortStore = cc in
      rw q (decided_refused t a s out ShortStore (refusal_short t a s f)))
      (λ f z. let x = open_none s f z in
      let q : r ≡ NotLoaded = cc in
      rw q (decided_refused none a s out NotLoaded (refusal_long none a s f ∙ ap first_of k)))
      (λ f p H. let x = open_some s f p H in absurd (unlike (sym x ∙ sym opens ∙ e)))
      (heeds_first a s opens out (ap (λ (h : Result Counts Refusal). refused_by h a) e))

  -- a store that opens: it stands for a plan, if it stands for anything
  pub opened_kept : (s' : Slices) (out out' : List ℕ) (r : Reply) {plan : Counts} → h ≡ Ok plan
      → (is_short (lent_of s) ≡ false → (p : Plan) → Held s p → plan ≡ counts_of p.base → Decided (some p) a s s' out out' r)
      → Heeds a s s' out out' r → Promise a s s' out out' r
  opened_kept s' out out' r {plan} e g H = promised a s s' out out' r
      (λ f t. let x = open_short s.base (lent_of s) f in absurd (unlike (sym e ∙ opens ∙ x)))
      (λ f z. let x = open_none s f z in absurd (unlike (sym e ∙ opens ∙ x)))
      (λ f p H. let x = open_some s f p H in
      let q : plan ≡ counts_of p.base = cc in
      g f p H q) H
