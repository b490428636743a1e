-- "Program lines": the lines behind `go`, and what is printed. Assumes nothing.
use Rattle.std.specs.Prelude.{ℕ, ◌≤◌, ◌<◌, min, ◌≡◌, ◌⊎◌, List, [], map, length, get_or, drop}
use Rattle.std.proofs.Math.Option.{Option, none, some}
use Rattle.rules.specs.Sizes.{most_owners, most_entries, Loading}
use Rattle.rules.specs.Calls.{to_retract, to_put, to_blocks}
use Rattle.text.specs.declared.vocabulary.Word.{Word}
use Rattle.text.specs.declared.vocabulary.Word.TheVariants.{Plan, Dur, Fix, Go, Put, Cut, Show, Crit}
use Rattle.text.specs.Writes.{Wrote}
use Rattle.text.specs.Answers.{bad_line}
use Rattle.text.specs.Grammar.{fitted}
use Rattle.stores.specs.Promise.{Slices}
use Rattle.refresh.specs.Loads.{loading}
use Rattle.lines.specs.declared.turns.Turn.{Turn}
use Rattle.lines.specs.Lines.{Leads}
use Rattle.lines.specs.Opens.{Typing}
use Rattle.lines.specs.Answers.{up_to, Request, call, whole_show, Answers}

-- `go`: what was typed, with no expected owners
abbrev pub loading_of : Typing → Loading
loading_of t = loading (fitted t.jobs) (fitted t.owners) t.durations [] t.from t.to

-- "then `put O` and entries, `cut O` (retract), `show`, `crit`": what a word asks for, with numbers that fit it; o is the number of owners that
-- `plan` named
abbrev pub request_of : ℕ → List ℕ → Word → Option Request
request_of o ns Put = some (call (to_put (fitted (get_or ns 0 0)) (map fitted (drop 1 ns))))
request_of o ns Cut = some (call (to_retract (fitted (get_or ns 0 0))))
request_of o ns Show = some whole_show
-- "`crit` asks all owners, rising": no plan has more
request_of o ns Crit = some (call (to_blocks (up_to (min o most_owners)) most_entries))
request_of o ns Plan = none
request_of o ns Dur = none
request_of o ns Fix = none
request_of o ns Go = none

pub record Asks (o : ℕ) (w : Word) (ns : List ℕ) (q : Request) : Type 0 where
  pub is : some q ≡ request_of o ns w

-- "Any other order or count doesn't fit": what is left begins with no line that asks for anything
abbrev pub Unasked : ℕ → List ℕ → Type 0
Unasked o rest = (w : Word) (ns rest' : List ℕ) (q : Request) → Leads rest w ns rest' → Asks o w ns q → ⊥

-- a line that fits is answered, and the next one begins behind its LF
pub record GoesOn (o : ℕ) (rest rest' : List ℕ) (s s' : Slices) (out : List ℕ) (r : ℕ) (out' : List ℕ) : Type 0 where
  pub word : Word
  pub numbers : List ℕ
  pub request : Request
  pub leads : Leads rest word numbers rest'
  pub asks : Asks o word numbers request
  pub answers : Answers request s s' out r out'

-- "A line that doesn't fit prints `bad` and its number, counted from 1, and ends the run"
pub record Last (o : ℕ) (rest rest' : List ℕ) (k : ℕ) (s s' : Slices) (out : List ℕ) (r : ℕ) (out' : List ℕ) : Type 0 where
  pub unasked : Unasked o rest
  pub ends : rest' ≡ []
  pub text : Wrote out 0 (bad_line k) r out'
  pub store : s' ≡ s

-- line k of an input, from a place on
pub record Turns (input : List ℕ) (at k o : ℕ) (s s' : Slices) (out : List ℕ) (r : Turn) (out' : List ℕ) : Type 0 where
  pub ahead : at < r.next
  pub within : r.next ≤ length input
  pub few : r.bytes ≤ length out
  pub is : GoesOn o (drop at input) (drop r.next input) s s' out r.bytes out'
      ⊎ Last o (drop at input) (drop r.next input) k s s' out r.bytes out'
