-- What the program prints, where it is known which bytes a reader has left and a writer holds. Assumes nothing.
use Rattle.std.specs.Prelude.{ℕ, ◌≤◌, List, length}
use Rattle.std.specs.declared.option.Option.{Option}
use Rattle.std.specs.Io.KnownBytes.{Appends}
use Rattle.stores.specs.Promise.{Slices}
use Rattle.lines.specs.declared.steps.Typed.{Typed}
use Rattle.lines.specs.Sizes.{input_limit}
use Rattle.lines.specs.Opens.{OpensAll, opened}
use Rattle.lines.specs.Steps.{typing_of}
use Rattle.lines.specs.Session.{Runs, RunPrints}

-- a writer's bytes grow by a text of which this holds
abbrev pub Prints : (List ℕ → Type 0) → Option (List ℕ) → Option (List ℕ) → Type 0
Prints Is old new = (text : List ℕ) × Is text × Appends old new text

-- what the lines behind `go` print, `before` lines already read
abbrev pub Answers : List ℕ → ℕ → ℕ → Slices → List ℕ → Type 0
Answers input owners before s text = (out : List ℕ) × Runs input owners 0 before s out text

-- what `go` and the lines behind it print, of whatever input comes to this plan and these lines
abbrev pub Opened : List ℕ → ℕ → Typed → List ℕ → List ℕ → List ℕ → List ℕ → Type 0
Opened rest line plan durations from to text =
    (input : List ℕ) → length input ≤ input_limit → OpensAll input (opened (typing_of plan durations from to) rest line) → RunPrints input text
