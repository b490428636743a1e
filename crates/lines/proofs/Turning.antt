-- A line behind `go`: it is asked and answered, and the next one begins behind its LF; or it is the last. Assumes nothing.
use Prim.Native.Nat.{ℕ, ◌+◌, ◌-◌, ◌≤◌, ◌<◌}
use native.Mathlib.Numerals.{add-one}
use native.Mathlib.Omega.{arith}
use mathlib.Core.Path.{◌≡◌, refl}
use mathlib.Core.Logic.{inl, inr}
use mathlib.Core.List.{List}
use borrow.Author.Rules.{rules}
use lib.ListN.{length, take, drop, drop_of_length-le}
use Rattle.text.specs.declared.vocabulary.Word.{Word}
use Rattle.std.specs.Prelude.{Option, Some, None}
use Rattle.text.specs.Reads.{Ends, Parses}
use Rattle.text.specs.Writes.{Fills}
use Rattle.text.specs.Answers.{bad_line, line_length}
use Rattle.text.proofs.LineEnds.{part_short}
use Rattle.stores.specs.Promise.{Slices}
use Rattle.lines.specs.Sizes.{input_limit, longest_answer}
use Rattle.lines.specs.Lines.{Spelt}
use Rattle.lines.specs.Serves.{Unasked, Turns}
use Rattle.lines.specs.Parts.{Calls, LineCalls}
use Rattle.lines.proofs.Stepping.{unparsed, numbers_within, numbers_long, numbers_fit, numbers_most, numbers_spelt}
use Rattle.lines.proofs.Spelling.{spelt_same, none_leads, spelt_leads, leads_spelt}

-- ── a line without its LF ──

-- one that is no text of the grammar asks for nothing
pub unparsed_called : (o : ℕ) (s : Slices) (out : List ℕ) {line a a' : List ℕ} → Parses line a a' None → LineCalls line o s s out None out
unparsed_called o s out P = (λ w ns a S A. unparsed P w ns S, record { store = refl; bytes = refl })

-- of another, its word and numbers decide
line_called : {line ns : List ℕ} {w : Word} → Spelt line w ns → (o : ℕ) (s s' : Slices) (out : List ℕ) (r : Option ℕ) (out' : List ℕ)
    → Calls w ns o s s' out r out' → LineCalls line o s s' out r out'
line_called {ns = ns} {w = w} S o s s' out (Some n) out' A = (w, ns, S, A)
line_called S o s s' out None out' (none, U) = (λ v ms a T A. let (e, f) = spelt_same S T in none a (rw (e, f) A), U)

pub parsed_called : {line a a' : List ℕ} {w : Word} {k : ℕ} (o : ℕ) (s s' : Slices) (out : List ℕ) (r : Option ℕ) (out' : List ℕ)
    → Calls w (take k a') o s s' out r out' → Parses line a a' (Some (w, k)) → LineCalls line o s s' out r out'
parsed_called o s s' out r out' C P = line_called (numbers_spelt P) o s s' out r out' C

-- ── line k of an input, from a place on ──

module _ {input : List ℕ} {at k o : ℕ} {s s' : Slices} {out out' : List ℕ}
    (pre : (at < length input) × (length input ≤ input_limit) × (longest_answer ≤ length out)) where
  -- the last one prints `bad` and its number
  last : {r : ℕ} → Unasked o (drop at input) → s' ≡ s → Fills out 0 (bad_line k) (line_length 3 1) r out'
      → Turns input at k o s s' out (record { next = length input; bytes = r }) out'
  last U same W =
      let i = W.few in
      record {
        ahead = pre.0;
        within = omega arith;
        few = omega arith;
        is = inr record { unasked = U; ends = drop_of_length-le input {i = length input} (omega arith); text = W.wrote; store = same };
      }

  -- without an LF there is no line
  pub turn_endless : {r : ℕ} → Fills out 0 (bad_line k) (line_length 3 1) r out' → (x : Option ℕ) → Ends 10 input at x
      → ((e : ℕ) → x ≡ Some e → ⊥) → s' ≡ s → Turns input at k o s s' out (record { next = length input; bytes = r }) out'
  turn_endless W None n u same = last (λ w ns r a L A. none_leads n L) same W
  turn_endless W (Some e) E u same = absurd (u e refl)

  module _ {e : ℕ} (E : Ends 10 input at (Some e)) where
    pub turn_bad : {r : ℕ} {mid : List ℕ} → Fills mid 0 (bad_line k) (line_length 3 1) r out'
        → LineCalls (take (e - at) (drop at input)) o s s' out None mid
        → Turns input at k o s s' out (record { next = length input; bytes = r }) out'
    turn_bad {mid = mid} W (none, U) =
        last (λ w ns r a L A. none w ns a (leads_spelt _ _ E.text E.line L) A) U.store (rw U.bytes at W)

    pub turn_next : {n : ℕ} → LineCalls (take (e - at) (drop at input)) o s s' out (Some n) out'
        → Turns input at k o s s' out (record { next = e + 1; bytes = n }) out'
    turn_next {n} (w, ns, T, A) =
        let a = E.ahead in
        let h = E.within in
        record {
          ahead = omega arith;
          within = omega arith;
          few = A.answers.few;
          is = inl record {
            word = w;
            numbers = ns;
            request = A.request;
            leads = rw (add-one e) (spelt_leads _ _ E.text T);
            asks = A.asks;
            answers = A.answers;
          };
        }

pub ruleset turning = (rules, part_short, numbers_within, numbers_long, numbers_fit, numbers_most, unparsed_called, parsed_called, turn_endless, turn_bad, turn_next)
