-- A whole run of the program: what its loop does behind `go`, and what is printed for an input. Assumes nothing.
use Rattle.std.specs.Prelude.{ℕ, suc, ◌≤◌, ◌<◌, List, [], ◌++◌, length, take}
use Rattle.std.proofs.Math.Option.{none}
use Rattle.rules.specs.Sizes.{Lent, base_length, spans_length, edges_length, routes_length, times_length}
use Rattle.rules.specs.Routes.{State}
use Rattle.rules.specs.Calls.{to_load, reply, step}
use Rattle.text.specs.declared.vocabulary.Word.{Word}
use Rattle.text.specs.Answers.{reply_text, bad_line}
use Rattle.text.specs.Grammar.{fitted}
use Rattle.stores.specs.Promise.{Slices}
use Rattle.stores.specs.Headers.{lens}
use Rattle.lines.specs.declared.turns.Turn.{Turn}
use Rattle.lines.specs.Serves.{Turns, Asks, Unasked, loading_of}
use Rattle.lines.specs.Sizes.{input_limit}
use Rattle.lines.specs.Lines.{Leads}
use Rattle.lines.specs.Opens.{Typing, OpensAll, opened, bad, nothing}
use Rattle.lines.specs.Answers.{Request, asked, text_to, ask_of}

-- from a place on, n lines already read, on the store and with the bytes as the turns before left them; the last list is what goes out
pub data Runs (input : List ℕ) (o : ℕ) : (at n : ℕ) → Slices → List ℕ → List ℕ → Type 0 where
  done : {at n : ℕ} {s : Slices} {out : List ℕ} → length input ≤ at → Runs input o at n s out []
  turn : {at n : ℕ} {s s' : Slices} {out out' text : List ℕ} {r : Turn} → Turns input at (suc n) o s s' out r out'
      → Runs input o r.next (suc n) s' out' text → Runs input o at n s out (take r.bytes out' ++ text)

-- the program's store: every slice is as long as its constant
abbrev pub whole : Lent
whole = lens base_length spans_length edges_length routes_length times_length

-- the lines behind `go`, n lines already read, of a plan with o owners: each is answered in the state that those before it left
pub data Serves (o : ℕ) : State → ℕ → List ℕ → List ℕ → Type 0 where
  ends : {t : State} {n : ℕ} → Serves o t n [] []
  unfit : {t : State} {n : ℕ} {rest : List ℕ} → 0 < length rest → Unasked o rest → Serves o t n rest (bad_line (suc n))
  line : {t : State} {n : ℕ} {w : Word} {ns rest rest' text : List ℕ} {q : Request} → Leads rest w ns rest' → Asks o w ns q
      → Serves o (step t (asked whole (ask_of q))).state (suc n) rest' text → Serves o t n rest (text_to whole t q ++ text)

-- what is printed for an input
pub data RunPrints (input : List ℕ) : List ℕ → Type 0 where
  -- "input over the byte limit prints only `bad 0`"
  long : input_limit < length input → RunPrints input (bad_line 0)
  unfit : {k : ℕ} → length input ≤ input_limit → OpensAll input (bad k) → RunPrints input (bad_line k)
  ends : length input ≤ input_limit → OpensAll input nothing → RunPrints input []
  -- "a refused `go` leaves the store unloaded"
  goes : {t : Typing} {n : ℕ} {rest text : List ℕ} → length input ≤ input_limit → OpensAll input (opened t rest n)
      → Serves (fitted t.owners) (step none (asked whole (to_load (loading_of t)))).state n rest text
      → RunPrints input (reply_text (reply none (asked whole (to_load (loading_of t)))) ++ text)
