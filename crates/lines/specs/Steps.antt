-- What the functions that read the lines up to `go` promise. Assumes nothing.
use Rattle.std.specs.Prelude.{ℕ, suc, ◌+◌, ◌*◌, ◌≤◌, ◌≡◌, Option, Some, None, Result, Ok, Err, List, [], length, take, drop}
use Rattle.text.specs.declared.vocabulary.Word.{Word}
use Rattle.text.specs.declared.vocabulary.Word.TheVariants.{Fix, Go}
use Rattle.lines.specs.declared.steps.Stage.{Stage}
use Rattle.lines.specs.declared.steps.Stage.TheVariants.{Plan as ForPlan, Durations, Fixed}
use Rattle.lines.specs.declared.steps.Typed.{Typed}
use Rattle.lines.specs.declared.steps.Outcome.{Outcome}
use Rattle.lines.specs.declared.steps.Outcome.TheVariants.{Next, Go as Goes}
use Rattle.lines.specs.declared.opens.Go.{Go as Opened}
use Rattle.lines.specs.Lines.{Spelt}
use Rattle.lines.specs.Opens.{Typing, typing, Fits, OpensAll, opened, bad, nothing}

-- what was typed stands in front of the tables
abbrev pub typing_of : Typed → List ℕ → List ℕ → List ℕ → Typing
typing_of p d f t = typing p.jobs p.owners (take p.durations d) (take p.fixed f) (take p.fixed t)

-- there is room in front for what was typed
pub record Within (p : Typed) (d f t : List ℕ) : Type 0 where
  pub durations : p.durations ≤ length d
  pub from : p.fixed ≤ length f
  pub to : p.fixed ≤ length t

-- nothing is touched
pub record Tables (d f t d' f' t' : List ℕ) : Type 0 where
  pub durations : d' ≡ d
  pub from : f' ≡ f
  pub to : t' ≡ t

-- ── a word and its numbers ──

-- they fit, and the tables hold what they typed; only `fix` adds a pair
pub record Takes (w : Word) (ns : List ℕ) (st : Stage) (p : Typed) (d f t : List ℕ) (st' : Stage) (p' : Typed) (d' f' t' : List ℕ) : Type 0 where
  pub fits : Fits (typing_of p d f t) st w ns st' (typing_of p' d' f' t')
  pub within : Within p d f t → Within p' d' f' t'
  pub few : (k : ℕ) → (w ≡ Fix → 7 ≤ k) → 8 * p'.fixed ≤ 8 * p.fixed + suc k

-- `go`, where it may come
pub record Halts (w : Word) (ns : List ℕ) (st : Stage) (d f t d' f' t' : List ℕ) : Type 0 where
  pub word : w ≡ Go
  pub alone : ns ≡ []
  pub last : st ≡ Fixed
  pub same : Tables d f t d' f' t'

-- neither
pub record Misses (w : Word) (ns : List ℕ) (st : Stage) (p : Typed) (d f t : List ℕ) : Type 0 where
  pub no_line_lem : (st' : Stage) (t' : Typing) → Fits (typing_of p d f t) st w ns st' t' → ⊥
  pub no_go : st ≡ Fixed → w ≡ Go → ⊥

abbrev pub Taken : Word → List ℕ → Stage → Typed → List ℕ → List ℕ → List ℕ → Option Outcome → List ℕ → List ℕ → List ℕ → Type 0
Taken w ns st p d f t (Some (Next st' p')) d' f' t' = Takes w ns st p d f t st' p' d' f' t'
Taken w ns st p d f t (Some Goes) d' f' t' = Halts w ns st d f t d' f' t'
Taken w ns st p d f t None d' f' t' = Misses w ns st p d f t

-- as the first line, behind `plan`, and behind `dur`
pub record Planned (w : Word) (ns : List ℕ) (r : Option Outcome) : Type 0 where
  pub is : (p : Typed) (d f t : List ℕ) → Taken w ns ForPlan p d f t r d f t

pub record Timed (w : Word) (ns : List ℕ) (p : Typed) (d : List ℕ) (r : Option Outcome) (d' : List ℕ) : Type 0 where
  pub is : (f t : List ℕ) → Taken w ns Durations p d f t r d' f t

pub record Tied (w : Word) (ns : List ℕ) (p : Typed) (f t : List ℕ) (r : Option Outcome) (f' t' : List ℕ) : Type 0 where
  pub is : (d : List ℕ) → Taken w ns Fixed p d f t r d f' t'

-- ── a line ──

-- a word and numbers that are its text were taken; or whichever are, miss
abbrev pub LineTaken : List ℕ → Stage → Typed → List ℕ → List ℕ → List ℕ → Option Outcome → List ℕ → List ℕ → List ℕ → Type 0
LineTaken line st p d f t (Some (Next st' p')) d' f' t' =
    (w : Word) × (ns : List ℕ) × Spelt line w ns × Takes w ns st p d f t st' p' d' f' t'
LineTaken line st p d f t (Some Goes) d' f' t' = (w : Word) × (ns : List ℕ) × Spelt line w ns × Halts w ns st d f t d' f' t'
LineTaken line st p d f t None d' f' t' = (w : Word) (ns : List ℕ) → Spelt line w ns → Misses w ns st p d f t

-- ── all lines ──

-- a line has a byte or more, so there are no more lines than bytes
abbrev pub ComesTo : List ℕ → Result (Option Opened) ℕ → List ℕ → List ℕ → List ℕ → Type 0
ComesTo input (Ok (Some g)) d f t =
    OpensAll input (opened (typing_of g.plan d f t) (drop g.at input) g.line) × (g.at ≤ length input) × (g.line ≤ g.at) × Within g.plan d f t
ComesTo input (Ok None) d f t = OpensAll input nothing
ComesTo input (Err k) d f t = OpensAll input (bad k)
