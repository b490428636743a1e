-- A run of turns prints what the rules say of its lines: each is answered in the state that those before it left, and the store stands for it. Assumes nothing.
use Prim.Native.Nat.{ℕ, suc, ◌≤◌, ◌<◌, min}
use native.Mathlib.Omega.{arith}
use mathlib.Core.Path.{◌≡◌, refl, sym, ap, ◌∙◌}
use mathlib.Core.Bool.{Bool, true, false}
use mathlib.Core.Option.{Option, none, some}
use mathlib.Core.Logic.{◌⊎◌, inl, inr}
use mathlib.Core.List.{List, [], ◌∷◌, ◌++◌, append-nil}
use lib.ListN.{length, take, drop, length-append, length-drop, length-set, drop_of_length-le, get_or}
use lib.Seq.{get_or-set_same, take_at}
use Rattle.rules.specs.declared.Refusal.{Refusal}
use Rattle.rules.specs.declared.Refusal.TheVariants.{ShortStore}
use Rattle.rules.specs.Lists.{memb}
use Rattle.rules.specs.Sizes.{most_owners, Lent, Loading, base_of, is_short, base_length, spans_length, edges_length, routes_length, times_length}
use Rattle.rules.specs.Refusals.{load_checks}
use Rattle.rules.specs.Routes.{Plan, State, fresh, wait, put_plan}
use Rattle.rules.specs.Calls.{Ask, Call, checks_of, refusal, accepted, step, reply, to_load, to_reset, to_retract, to_put, to_score, to_verdict, to_starts, to_blocks, to_move}
use Rattle.rules.proofs.Ranges.{clash}
use Rattle.rules.proofs.Refused.{refused_stays, accepted_step}
use Rattle.rules.proofs.History.{Soundly, passed, load_loaded, step_sound}
use Rattle.text.specs.declared.vocabulary.Word.{Word}
use Rattle.text.specs.Writes.{Wrote}
use Rattle.text.specs.Grammar.{fitted}
use Rattle.text.specs.Answers.{reply_text}
use Rattle.text.proofs.Tabled.{each_tested}
use Rattle.edges.specs.Edges.{encode as edge_words}
use Rattle.routes.specs.Store.{encode as route_words}
use Rattle.routes.specs.Desks.{edges_of, routes_of}
use Rattle.routes.proofs.Wellformed.{has_words}
use Rattle.times.specs.Words.{span_words, time_words}
use Rattle.std.specs.Prelude.{Result}
use Rattle.rules.specs.declared.Score.{Score}
use Rattle.stores.specs.Words.{base_words}
use Rattle.stores.specs.Promise.{Slices, lent_of, call_of, Stands, StandsFor, holding, unmarked, leaving, after, AnyPromise}
use Rattle.stores.specs.Says.{says_scored}
use Rattle.stores.specs.Headers.{Long}
use Rattle.stores.proofs.Openings.{long}
use Rattle.stores.proofs.Tabled.{taken_sets}
use Rattle.edges.proofs.Store.{encode_long as edges_long}
use Rattle.routes.proofs.Placing.{encode_long as routes_long}
use Rattle.refresh.proofs.Lengths.{base_long, spans_long, times_long}
use Rattle.lines.specs.Opens.{Typing, OpensAll, opened}
use Rattle.lines.specs.Serves.{loading_of, request_of, Asks, GoesOn, Last}
use Rattle.lines.specs.Answers.{Request, asked, text_to, ask_of}
use Rattle.lines.specs.Session.{whole, Serves, ends, unfit, line, RunPrints, goes, Runs, done, turn}
use Rattle.lines.specs.Sizes.{input_limit}
use Rattle.refresh.proofs.Histories.{stands_sound}

-- ── what a call leaves ──

-- so many words in front of what lies beyond them
fills : (n : ℕ) (x l : List ℕ) → length x ≡ n → n ≤ length l → length (x ++ drop n l) ≡ length l
fills n x l e h = length-append x (drop n l) ∙ (let y = length-drop n l in omega arith)

-- an accepted call leaves a store that stands for the state that it leaves, and every slice as long as it was
module _ (s : Slices) (L : Long (lent_of s)) where
  left_stands : (u : State) → Soundly u → Stands (leaving u s) u
  unfolding holding unmarked
  left_stands none S = get_or-set_same s.base 0 0 0 (let x = L.base in omega arith)
  left_stands (some q) S = let D = has_words q S in record {
    base = take_at (base_words q.base) (drop base_length s.base) base_length (base_long q.base S.loaded);
    spans = take_at (span_words q.base) (drop spans_length s.spans) spans_length (spans_long q.base);
    desk = rw (
      take_at (route_words (routes_of q)) (drop routes_length s.routes) routes_length (routes_long (routes_of q) D.routes.wf),
      take_at (edge_words (edges_of q)) (drop edges_length s.edges) edges_length (edges_long (edges_of q) D.edges.wf),
    ) D;
    times = take_at (time_words q) (drop times_length s.times) times_length (times_long q);
  }

  left_lent : (u : State) → Soundly u → lent_of (leaving u s) ≡ lent_of s
  unfolding holding unmarked
  left_lent none S = rw (length-set s.base 0 0)
  left_lent (some q) S = let D = has_words q S in rw (
    fills base_length (base_words q.base) s.base (base_long q.base S.loaded) L.base,
    fills spans_length (span_words q.base) s.spans (spans_long q.base) L.spans,
    fills edges_length (edge_words (edges_of q)) s.edges (edges_long (edges_of q) D.edges.wf) L.edges,
    fills routes_length (route_words (routes_of q)) s.routes (routes_long (routes_of q) D.routes.wf) L.routes,
    fills times_length (time_words q) s.times (times_long q) L.times,
  )

module _ (t : State) (a : Ask) (s : Slices) (f : StandsFor s t) where
  abbrev c : Call
  c = call_of a s

  record Leaves (s' : Slices) : Type 0 where
    stands : StandsFor s' (step t c).state
    long : lent_of s' ≡ lent_of s

  leaves : Leaves (after t c s)
  unfolding after refusal
  leaves = by (refusal t c) refl
    where
      by : (o : Option Refusal) → refusal t c ≡ o → Leaves (after t c s)
      by none e =
          let x : is_short (lent_of s) ≡ false = (passed ((ShortStore, is_short (lent_of s)) ∷ checks_of t a) e).0 in
          let S = step_sound t c (stands_sound s t (f x)) in
          rw e (record {
            stands = λ y. left_stands s (long (lent_of s) x) (step t c).state S;
            long = left_lent s (long (lent_of s) x) (step t c).state S;
          })
      by (some r) e = rw e (record { stands = rw (refused_stays t c r e).0 f; long = refl })

  pub after_stands : StandsFor (after t (call_of a s) s) (step t (call_of a s)).state
  after_stands = leaves.stands

  pub after_long : lent_of (after t (call_of a s) s) ≡ lent_of s
  after_long = leaves.long

-- ── a run of turns ──

-- at the end of the input nothing more goes out
ended : {input : List ℕ} {o at n : ℕ} {s : Slices} {out text : List ℕ} → length input ≤ at → Runs input o at n s out text → text ≡ []
ended h (done k) = refl
ended h (turn T R) = let a = T.ahead in let b = T.within in let z : ⊥ = omega arith in absurd z

-- what a turn wrote in front goes out
gone_out : {out out' bytes : List ℕ} {r : ℕ} → r ≤ length out → Wrote out 0 bytes r out' → take r out' ≡ bytes
gone_out {out} {bytes = bytes} {r = r} h w = rw w.is (taken_sets out bytes r (let e = w.end in omega arith) h)

module _ {o n : ℕ} {s s' : Slices} {out out' : List ℕ} {r : ℕ} {rest rest' text : List ℕ} (t : State) (f : StandsFor s t)
    (k : lent_of s ≡ whole) (h : r ≤ length out) where
  served : GoesOn o rest rest' s s' out r out'
      → ((u : State) → StandsFor s' u → lent_of s' ≡ whole → Serves o u (suc n) rest' text) → Serves o t n rest (take r out' ++ text)
  served F ih =
      let a = ask_of F.request in
      let D = F.answers.decides t f in
      let q : call_of a s ≡ asked whole a = ap (λ x. asked x a) k in
      let S = ih (step t (call_of a s)).state (rw D.leaves (after_stands t a s f)) (ap lent_of D.leaves ∙ after_long t a s f ∙ k) in
      let b : take r out' ≡ text_to whole t F.request = gone_out h D.text ∙ ap (λ x. text_to x t F.request) k in
      rw b (line F.leads F.asks (rw q at S))

  stopped : Last o rest rest' (suc n) s s' out r out' → 0 < length rest → text ≡ [] → Serves o t n rest (take r out' ++ text)
  stopped F z e = rw (e, gone_out h F.text, append-nil) (unfit z F.unasked)

pub runs_serves : {input : List ℕ} {o at n : ℕ} {s : Slices} {out text : List ℕ} (t : State) → StandsFor s t → lent_of s ≡ whole
    → Runs input o at n s out text → Serves o t n (drop at input) text
runs_serves {input} t f k (done h) = rw (drop_of_length-le input h) ends
runs_serves {input} {o} {at} {n} {s} {out} t f k (turn {s' = s'} {out' = out'} {text = text} {r = r} T R) =
    by T.is (λ u g q. runs_serves u g q R)
  where
    by : GoesOn o (drop at input) (drop r.next input) s s' out r.bytes out'
        ⊎ Last o (drop at input) (drop r.next input) (suc n) s s' out r.bytes out'
        → ((u : State) → StandsFor s' u → lent_of s' ≡ whole → Serves o u (suc n) (drop r.next input) text)
        → Serves o t n (drop at input) (take r.bytes out' ++ text)
    by (inl F) ih = served t f k T.few F ih
    by (inr F) ih =
        let a = T.ahead in
        let b = T.within in
        let x = length-drop at input in
        let y = length-drop r.next input in
        let z = ap length F.ends in
        stopped t f k T.few F (omega arith) (ended (omega arith) R)

-- ── all owners ──

-- a plan that was loaded has as many owners as the load said, and no more than fit
load_owners : (k : Lent) (l : Loading) {p : Plan} → (step none (asked k (to_load l))).state ≡ some p → min l.owners most_owners ≡ p.base.owners
unfolding accepted refusal fresh base_of
load_owners k l {p} e = by (refusal none (asked k (to_load l))) refl
  where
    by : (o : Option Refusal) → refusal none (asked k (to_load l)) ≡ o → min l.owners most_owners ≡ p.base.owners
    by none q =
        let x : some (fresh (base_of l)) ≡ some p = sym (ap (λ y. y.state) (accepted_step none (asked k (to_load l)) q)) ∙ e in
        let y : fresh (base_of l) ≡ p = cc in
        let z : l.owners ≡ p.base.owners = ap (λ r. r.base.owners) y in
        let h = (load_loaded l (passed ((ShortStore, is_short k) ∷ load_checks l) q).1).owners in
        omega arith
    by (some r) q =
        let x : none ≡ some p = sym (refused_stays none (asked k (to_load l)) r q).0 ∙ e in
        let y : ◌≡◌ {A = ℕ} 0 1 = cc in
        let z : ⊥ = omega arith in
        absurd z

-- so `crit` asks all owners
pub crit_asks_all : (t : Typing) {p : Plan} → (step none (asked whole (to_load (loading_of t)))).state ≡ some p
    → min (fitted t.owners) most_owners ≡ p.base.owners
crit_asks_all t e = load_owners whole (loading_of t) e

-- and goes on to, line by line: no line but `go` changes how many there are
abbrev pub Owned : ℕ → State → Type 0
Owned o none = Unit {0}
Owned o (some p) = min o most_owners ≡ p.base.owners

wait_base : (w : ℕ) (p : Plan) → (wait w p).base ≡ p.base
unfolding wait
wait_base w p = by (memb w p.desk.waiting) refl
  where
    by : (b : Bool) → memb w p.desk.waiting ≡ b → (wait w p).base ≡ p.base
    by true e = rw e
    by false e = rw e

-- a call that loads nothing, and clears nothing
keeps : Ask → Bool
keeps (to_load l) = false
keeps to_reset = false
keeps (to_retract o) = true
keeps (to_put o l) = true
keeps to_score = true
keeps (to_verdict k) = true
keeps (to_starts k) = true
keeps (to_blocks os k) = true
keeps (to_move o m k) = true

asks_keep : {o : ℕ} {w : Word} {ns : List ℕ} {q : Request} → Asks o w ns q → keeps (ask_of q) ≡ true
unfolding keeps
asks_keep {o} {w} {ns} {q} A = rw (← A.is) at (each_tested (λ v. kept (request_of o ns v)) refl w)
  where
    kept : Option Request → Bool
    kept none = true
    kept (some p) = keeps (ask_of p)

kept_owned : (o : ℕ) (a : Ask) (t : State) → keeps a ≡ true → Owned o t → Owned o (accepted t a).state
unfolding accepted put_plan keeps
kept_owned o (to_load l) t e h = clash e refl
kept_owned o to_reset t e h = clash e refl
kept_owned o (to_retract w) none e h = tt
kept_owned o (to_retract w) (some p) e h = h ∙ ap (λ b. b.owners) (sym (wait_base w p))
kept_owned o (to_put w l) none e h = tt
kept_owned o (to_put w l) (some p) e h = h
kept_owned o to_score none e h = tt
kept_owned o to_score (some p) e h = h
kept_owned o (to_verdict k) none e h = tt
kept_owned o (to_verdict k) (some p) e h = h
kept_owned o (to_starts k) none e h = tt
kept_owned o (to_starts k) (some p) e h = h
kept_owned o (to_blocks os k) none e h = tt
kept_owned o (to_blocks os k) (some p) e h = h
kept_owned o (to_move w m k) none e h = tt
kept_owned o (to_move w m k) (some p) e h = h

pub line_owned : {o : ℕ} {w : Word} {ns : List ℕ} {q : Request} (k : Lent) (t : State) → Asks o w ns q → Owned o t
    → Owned o (step t (asked k (ask_of q))).state
line_owned {o} {q = q} k t A h = by (refusal t (asked k (ask_of q))) refl
  where
    by : (x : Option Refusal) → refusal t (asked k (ask_of q)) ≡ x → Owned o (step t (asked k (ask_of q))).state
    by none e = rw (accepted_step t (asked k (ask_of q)) e) (kept_owned o (ask_of q) t (asks_keep A) h)
    by (some r) e = rw (refused_stays t (asked k (ask_of q)) r e).0 h

-- the lines come to a plan (`gather`), which is loaded into a store that is not loaded (`go`, and `loaded` prints the reply), and the lines behind
-- `go` are answered turn after turn (`answer_line`)
pub run_prints : {input rest out text : List ℕ} {t : Typing} {n : ℕ} {s s' : Slices} (x : Result Score Refusal) → length input ≤ input_limit
    → OpensAll input (opened t rest n) → get_or s.base 0 0 ≡ 0 → lent_of s ≡ whole → AnyPromise (to_load (loading_of t)) s s' (says_scored x)
    → Runs rest (fitted t.owners) 0 n s' out text → RunPrints input (reply_text (says_scored x) ++ text)
run_prints {input} {rest} {out} {text} {t} {n} {s} {s'} x h O z k P R =
    let a = to_load (loading_of t) in
    let d = P.decides none in
    let f : StandsFor s none = λ e. z in
    let q : call_of a s ≡ asked whole a = ap (λ (l : Lent). asked l a) k in
    let g : StandsFor s' (step none (call_of a s)).state = rw d.leaves (after_stands none a s f) in
    let l : lent_of s' ≡ whole = ap lent_of d.leaves ∙ after_long none a s f ∙ k in
    let S : Serves (fitted t.owners) (step none (asked whole a)).state n rest text = rw q at (runs_serves (step none (call_of a s)).state g l R) in
    rw (d.says ∙ ap (λ (c : Call). reply none c) q) (goes h O S)
