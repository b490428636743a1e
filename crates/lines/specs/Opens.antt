-- "Program lines": `plan N O`, `dur` and N numbers, `fix A B` repeated, `go`. Assumes nothing.
use Rattle.std.specs.Prelude.{ℕ, suc, ◌<◌, ◌≡◌, List, [], ◌∷◌, ◌++◌, length}
use Rattle.text.specs.declared.vocabulary.Word.{Word}
use Rattle.text.specs.declared.vocabulary.Word.TheVariants.{Plan, Dur, Fix, Go}
use Rattle.text.specs.Grammar.{fitted}
use Rattle.lines.specs.declared.steps.Stage.{Stage}
use Rattle.lines.specs.declared.steps.Stage.TheVariants.{Plan as ForPlan, Durations, Fixed}
use Rattle.lines.specs.Lines.{Leads}

-- what was typed: the numbers of `plan`, those of `dur`, and the pairs of `fix`
pub record Typing : Type 0 where
  pub jobs : ℕ
  pub owners : ℕ
  pub durations : List ℕ
  pub from : List ℕ
  pub to : List ℕ

abbrev pub typing : ℕ → ℕ → List ℕ → List ℕ → List ℕ → Typing
typing jobs owners durations from to = record { jobs = jobs; owners = owners; durations = durations; from = from; to = to }

-- a line that fits in a stage, and the stage behind it
pub data Fits (t : Typing) : Stage → Word → List ℕ → Stage → Typing → Type 0 where
  plan : {n o : ℕ} → Fits t ForPlan Plan (n ∷ o ∷ []) Durations (typing n o [] [] [])
  dur : {ns : List ℕ} → length ns ≡ t.jobs → Fits t Durations Dur ns Fixed (typing t.jobs t.owners ns t.from t.to)
  fix : {a b : ℕ} → Fits t Fixed Fix (a ∷ b ∷ []) Fixed
      (typing t.jobs t.owners t.durations (t.from ++ (fitted a ∷ [])) (t.to ++ (fitted b ∷ [])))

-- "Any other order or count doesn't fit": what is left is not empty, and begins with no line that fits
pub record Misfit (t : Typing) (st : Stage) (rest : List ℕ) : Type 0 where
  pub some_left : 0 < length rest
  pub no_line_lem : (w : Word) (ns rest' : List ℕ) (st' : Stage) (t' : Typing) → Leads rest w ns rest' → Fits t st w ns st' t' → ⊥
  pub no_go : (rest' : List ℕ) → st ≡ Fixed → Leads rest Go [] rest' → ⊥

-- what the lines come to: a plan, what is left behind `go`, and the number of its line; a line that doesn't fit; or nothing
pub data Opening : Type 0 where
  opened : Typing → List ℕ → ℕ → Opening
  bad : ℕ → Opening
  nothing : Opening

-- from a stage on, k lines already read
pub data Opens : Stage → Typing → ℕ → List ℕ → Opening → Type 0 where
  ends : {st : Stage} {t : Typing} {k : ℕ} → Opens st t k [] nothing
  goes : {t : Typing} {k : ℕ} {rest rest' : List ℕ} → Leads rest Go [] rest' → Opens Fixed t k rest (opened t rest' (suc k))
  unfit : {st : Stage} {t : Typing} {k : ℕ} {rest : List ℕ} → Misfit t st rest → Opens st t k rest (bad (suc k))
  line : {st st' : Stage} {t t' : Typing} {k : ℕ} {w : Word} {ns rest rest' : List ℕ} {x : Opening}
      → Leads rest w ns rest' → Fits t st w ns st' t' → Opens st' t' (suc k) rest' x → Opens st t k rest x

-- before the first line
abbrev pub untyped : Typing
untyped = typing 0 0 [] [] []

-- an input, from its first line on
abbrev pub OpensAll : List ℕ → Opening → Type 0
OpensAll input x = Opens ForPlan untyped 0 input x
