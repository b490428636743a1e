-- What the parts of a line's answer promise. Assumes nothing.
use Rattle.std.specs.Prelude.{ℕ, ◌+◌, ◌*◌, ◌≤◌, ◌<◌, ◌≡◌, Option, Some, None, List, length}
use Rattle.rules.specs.declared.Block.{Block}
use Rattle.rules.specs.Sizes.{most_jobs, most_entries}
use Rattle.rules.specs.Routes.{State}
use Rattle.rules.specs.Calls.{to_verdict, to_starts, reply}
use Rattle.text.specs.declared.vocabulary.Word.{Word}
use Rattle.text.specs.Writes.{Wrote}
use Rattle.text.specs.Answers.{reply_text, block_lines, line_length}
use Rattle.stores.specs.Promise.{Slices, call_of, StandsFor}
use Rattle.blocks.specs.declared.blocks.Found.{Found}
use Rattle.blocks.specs.Promise.{Leads}
use Rattle.lines.specs.Sizes.{long_line}
use Rattle.lines.specs.Lines.{Spelt}
use Rattle.lines.specs.Serves.{Asks}
use Rattle.lines.specs.Answers.{Request, Answers, verdict_text}

-- ── `show` ──

-- the line of the starts, at a place
pub record ShowsStarts (s : Slices) (out : List ℕ) (at r : ℕ) (out' : List ℕ) : Type 0 where
  pub few : r ≤ at + long_line
  pub is : (t : State) → StandsFor s t → Wrote out at (reply_text (reply t (call_of (to_starts most_jobs) s))) r out'

-- the lines of the verdict, at a place
pub record ShowsVerdict (s : Slices) (out : List ℕ) (at r : ℕ) (out' : List ℕ) : Type 0 where
  pub few : r ≤ at + 2 * long_line
  pub is : (t : State) → StandsFor s t
      → Wrote out at (verdict_text (reply t (call_of (to_verdict most_jobs) s)) (reply t (call_of (to_starts most_jobs) s))) r out'

-- ── `crit` ──

-- the search found the blocks bs: so many, and it leads to them
pub record Finds (os : List ℕ) (s : Slices) (f : Found) (bs : List Block) : Type 0 where
  pub count : f.count ≡ length bs
  pub leads : 0 < f.count → Leads os s f f.spot bs

-- the lines of the blocks that were found, at a place
pub record ListsBlocks (os : List ℕ) (s : Slices) (f : Found) (out : List ℕ) (at r : ℕ) (out' : List ℕ) : Type 0 where
  pub few : r ≤ at + line_length 5 4 * most_entries
  pub is : (bs : List Block) → Finds os s f bs → Wrote out at (block_lines bs) r out'

-- ── by the word, and by the line ──

-- the word and its numbers ask for something, and are answered
pub record Asked (w : Word) (ns : List ℕ) (o : ℕ) (s s' : Slices) (out : List ℕ) (r : ℕ) (out' : List ℕ) : Type 0 where
  pub request : Request
  pub asks : Asks o w ns request
  pub answers : Answers request s s' out r out'

-- nothing is touched
pub record Untouched (s s' : Slices) (out out' : List ℕ) : Type 0 where
  pub store : s' ≡ s
  pub bytes : out' ≡ out

abbrev pub Calls : Word → List ℕ → ℕ → Slices → Slices → List ℕ → Option ℕ → List ℕ → Type 0
Calls w ns o s s' out (Some r) out' = Asked w ns o s s' out r out'
Calls w ns o s s' out None out' = ((q : Request) → Asks o w ns q → ⊥) × Untouched s s' out out'

abbrev pub LineCalls : List ℕ → ℕ → Slices → Slices → List ℕ → Option ℕ → List ℕ → Type 0
LineCalls line o s s' out (Some r) out' = (w : Word) × (ns : List ℕ) × Spelt line w ns × Asked w ns o s s' out r out'
LineCalls line o s s' out None out' =
    ((w : Word) (ns : List ℕ) (q : Request) → Spelt line w ns → Asks o w ns q → ⊥) × Untouched s s' out out'
