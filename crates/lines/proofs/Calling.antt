-- The calls behind `go`: what the library answers is printed, and what a word with its numbers asks for. Assumes nothing.
use Prim.Native.Nat.{ℕ, ◌≤◌, ◌-◌}
use native.Mathlib.Omega.{arith}
use mathlib.Core.Path.{◌≡◌, sym, ap, subst, ◌∙◌, refl}
use mathlib.Core.Option.{Option, none, some}
use mathlib.Core.List.{List, [], map}
use mathlib.Core.Bool.{true}
use borrow.Author.Rules.{rules}
use borrow.Author.Tests.{leb-true}
use lib.ListN.{length, get_or, take, drop, replicate, length-replicate}
use lib.Seq.{sets, length-sets, length-take-le}
use Rattle.rules.specs.declared.Refusal.{Refusal}
use Rattle.rules.specs.declared.Score.{Score}
use Rattle.rules.specs.Routes.{State}
use Rattle.rules.specs.Calls.{Ask, Reply, reply, to_put, to_retract, to_load}
use Rattle.rules.specs.Scores.{no_change}
use Rattle.text.specs.declared.vocabulary.Word.{Word}
use Rattle.text.specs.declared.vocabulary.Word.TheVariants.{Plan as PlanWord, Dur, Fix, Go, Put, Cut, Show, Crit}
use Rattle.text.specs.Writes.{Wrote, Fills}
use Rattle.text.specs.Answers.{reply_text, no_line, ok_line, line_length, score_length}
use Rattle.text.specs.Grammar.{fits_of, fitted}
use Rattle.text.proofs.Pieces.{fills_within}
use Rattle.std.specs.Prelude.{Result, Ok, Err}
use Rattle.stores.specs.Promise.{Slices, call_of, StandsFor, after, Promise, AnyPromise}
use Rattle.stores.specs.Says.{says_scored, says_ended}
use Rattle.refresh.specs.Loads.{loading}
use Rattle.refresh.specs.declared.put.Change.{Change}
use Rattle.refresh.specs.Changes.{says_changed}
use Rattle.lines.specs.declared.steps.Typed.{Typed}
use Rattle.lines.specs.Answers.{call, Answers, Request}
use Rattle.lines.specs.Sizes.{most_numbers}
use Rattle.lines.specs.Steps.{typing_of}
use Rattle.lines.specs.Serves.{loading_of, request_of}
use Rattle.lines.specs.Parts.{Asked}
use Rattle.lines.proofs.Filling.{map_front}

module _ (a : Ask) {s s' : Slices} {out : List ℕ} {most r : ℕ} {out' : List ℕ} where
  -- the bytes are the text of what the rules say
  pub printed : {bytes : List ℕ} → most ≤ length out
      → ((t : State) → StandsFor s t → (bytes ≡ reply_text (reply t (call_of a s))) × (s' ≡ after t (call_of a s) s))
      → Fills out 0 bytes most r out' → Answers (call a) s s' out r out'
  printed room decides W =
      let h = W.few in
      record {
        few = omega arith;
        decides = λ t st. let d = decides t st in record { text = subst (λ (b : List ℕ). Wrote out 0 b r out') d.0 W.wrote; leaves = d.1 };
      }

  -- what was answered is y, which means the reply f y
  pub answered : {Y : Type 0} (f : Y → Reply) {x y : Y} → Fills out 0 (reply_text (f y)) most r out' → Promise a s s' [] [] (f x) → x ≡ y
      → most ≤ length out → Answers (call a) s s' out r out'
  answered f W P e room =
      printed room (λ t st. let d = P.decides t st in (ap reply_text (ap f (sym e) ∙ d.says), d.leaves)) W

-- ── `go` ──

-- the load's own promise, of numbers that fit
pub go_promised : {n o : ℕ} (p : Typed) (d f t : List ℕ) {s s' : Slices} {r : Reply}
    → AnyPromise (to_load (loading n o (take p.durations d) [] (take p.fixed f) (take p.fixed t))) s s' r → n ≡ fitted p.jobs
    → o ≡ fitted p.owners → AnyPromise (to_load (loading_of (typing_of p d f t))) s s' r
go_promised p d f t P e g = rw (e, g) at P

module _ {x : Result Score Refusal} {out : List ℕ} {p : ℕ} {out' : List ℕ} where
  pub loaded_no : {q : Refusal} → Fills out 0 (no_line q) (line_length 2 1) p out' → x ≡ Err q
      → Fills out 0 (reply_text (says_scored x)) (score_length 2) p out'
  loaded_no F e = rw e (fills_within F (omega arith))

  pub loaded_ok : {s : Score} → Fills out 0 (ok_line s) (score_length 2) p out' → x ≡ Ok s → Fills out 0 (reply_text (says_scored x)) (score_length 2) p out'
  loaded_ok F e = rw e F

-- ── `cut` ──

module _ (ns : List ℕ) {o : ℕ} {s s' : Slices} {x : Result (Unit {0}) Refusal} {out : List ℕ} {p : ℕ} {out' : List ℕ} where
  pub cut_no : {r : Refusal} → Fills out 0 (no_line r) (line_length 2 1) p out' → Promise (to_retract o) s s' [] [] (says_ended x) → x ≡ Err r
      → o ≡ fitted (get_or ns 0 0) → score_length 2 ≤ length out → Answers (call (to_retract (fitted (get_or ns 0 0)))) s s' out p out'
  cut_no F P e q h = rw (← q) (answered (to_retract o) says_ended F P e (omega arith))

  pub cut_ok : Fills out 0 (ok_line no_change) (score_length 2) p out' → Promise (to_retract o) s s' [] [] (says_ended x) → x ≡ Ok tt
      → o ≡ fitted (get_or ns 0 0) → score_length 2 ≤ length out → Answers (call (to_retract (fitted (get_or ns 0 0)))) s s' out p out'
  cut_ok F P e q h = rw (← q) (answered (to_retract o) says_ended F P e h)

-- ── `put` ──

-- the numbers reach the library as it takes them
module _ (ns a : List ℕ) {o : ℕ} {s s' : Slices} (x : Result Change Refusal) (out : List ℕ) (p : ℕ) (out' : List ℕ)
    (P : Promise (to_put o (take (length ns - 1) a)) s s' [] [] (says_changed x)) (q : o ≡ fitted (get_or ns 0 0))
    (e : a ≡ sets (replicate most_numbers 0) 0 (map fitted (take (length ns - 1) (drop 1 ns))))
    (pre : (1 ≤ length ns) × (length ns ≤ most_numbers) × (score_length 2 ≤ length out)) where
  arrives : Promise (to_put (fitted (get_or ns 0 0)) (map fitted (drop 1 ns))) s s' [] [] (says_changed x)
  arrives =
      let l : length a ≡ most_numbers = rw (e, length-sets, length-replicate) in
      rw (q, map_front fitted ns a (replicate most_numbers 0) e (omega arith)) at P

  pub put_no : {r : Refusal} → Fills out 0 (no_line r) (line_length 2 1) p out' → x ≡ Err r
      → Answers (call (to_put (fitted (get_or ns 0 0)) (map fitted (drop 1 ns)))) s s' out p out'
  put_no F g = answered (to_put (fitted (get_or ns 0 0)) (map fitted (drop 1 ns))) says_changed F arrives g (omega arith)

  pub put_ok : {c : Change} → Fills out 0 (ok_line c.score) (score_length 2) p out' → x ≡ Ok c
      → Answers (call (to_put (fitted (get_or ns 0 0)) (map fitted (drop 1 ns)))) s s' out p out'
  put_ok F g = answered (to_put (fitted (get_or ns 0 0)) (map fitted (drop 1 ns))) says_changed F arrives g (omega arith)

pub ruleset calls_made = (rules, length-take-le, go_promised, loaded_no, loaded_ok, cut_no, cut_ok, put_no, put_ok)

-- ── what a word with numbers that fit it asks for ──

-- `put` takes at least one number
pub some_are : {w : Word} (k : ℕ) → w ≡ Put → fits_of w k ≡ true → 1 ≤ k
some_are k e f = leb-true 1 k (rw e at f)

-- what may be asked for is answered
abbrev Answering : Option Request → Slices → Slices → List ℕ → ℕ → List ℕ → Type 0
Answering none s s' out r out' = ⊥
Answering (some q) s s' out r out' = Answers q s s' out r out'

-- a word that is v asks for what v asks for
pub asked_as : {o : ℕ} {w v : Word} {ns : List ℕ} {s s' : Slices} {out : List ℕ} {r : ℕ} {out' : List ℕ}
    → w ≡ v → Answering (request_of o ns v) s s' out r out' → Asked w ns o s s' out r out'
asked_as {o} {w} {v} {ns} {s} {s'} {out} {r} {out'} e A = by (request_of o ns v) refl A
  where
    by : (x : Option Request) → x ≡ request_of o ns v → Answering x s s' out r out' → Asked w ns o s s' out r out'
    by none q A = absurd A
    by (some p) q A = record { request = p; asks = record { is = q ∙ ap (request_of o ns) (sym e) }; answers = A }

-- the words up to `go` ask for nothing
pub unasked : (o : ℕ) (ns : List ℕ) (q : Request) (w : Word) → some q ≡ request_of o ns w
    → (w ≡ Put → ⊥) → (w ≡ Cut → ⊥) → (w ≡ Show → ⊥) → (w ≡ Crit → ⊥) → ⊥
unasked o ns q PlanWord e put cut show crit = absurd cc
unasked o ns q Dur e put cut show crit = absurd cc
unasked o ns q Fix e put cut show crit = absurd cc
unasked o ns q Go e put cut show crit = absurd cc
unasked o ns q Put e put cut show crit = put refl
unasked o ns q Cut e put cut show crit = cut refl
unasked o ns q Show e put cut show crit = show refl
unasked o ns q Crit e put cut show crit = crit refl

pub ruleset calling = (rules, some_are, asked_as)
