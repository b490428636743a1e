-- A reply in numbers, as C reads it. Assumes nothing.
use Rattle.std.specs.Prelude.{ℕ, ◌≡◌, Bool, cond, List, [], ◌∷◌, length, ℤ}
use Rattle.std.proofs.lemmas.List.Edits.{sets}
use Rattle.rules.specs.declared.Block.{Block}
use Rattle.rules.specs.declared.Report.{Report}
use Rattle.rules.specs.declared.Report.TheVariants.{Skipped, Full, CycleFound, Incremental}
use Rattle.rules.specs.declared.Score.{Score}
use Rattle.rules.specs.Reports.{visits_of}
use Rattle.rules.specs.Refusals.{number_of}
use Rattle.rules.specs.Scores.{no_change}
use Rattle.rules.specs.Calls.{Ask, Reply, refused, scored, changed, counted, lined_up, cycled, started, blocked, rerouted}
use Rattle.stores.specs.Promise.{Slices}
use Rattle.refresh.specs.History.{Kept}
use Rattle.blocks.specs.Promise.{BlocksPromise}

-- 0, or the refusal's number
abbrev pub code_of : Reply → ℕ
code_of (refused r) = number_of r
code_of (scored s) = 0
code_of (changed s r) = 0
code_of (counted s k) = 0
code_of (lined_up l) = 0
code_of (cycled l) = 0
code_of (started l) = 0
code_of (blocked l) = 0
code_of (rerouted l q f) = 0

-- hard part, soft part
abbrev pub parts_of : Score → List ℤ
parts_of s = s.hard ∷ s.soft ∷ []

-- the score or the score change; "the score change is zero" where a call is refused
abbrev pub score_in : Reply → List ℤ
score_in (refused r) = parts_of no_change
score_in (scored s) = parts_of s
score_in (changed s r) = parts_of s
score_in (counted s k) = parts_of s
score_in (lined_up l) = []
score_in (cycled l) = []
score_in (started l) = []
score_in (blocked l) = []
score_in (rerouted l q f) = []

-- a report: 0 skipped, 1 full, 2 cycle found, 3 incremental
abbrev pub report_in : Report → ℕ
report_in Skipped = 0
report_in Full = 1
report_in CycleFound = 2
report_in (Incremental v) = 3

abbrev pub mark : Bool → ℕ
mark b = cond b 1 0

-- what else the reply says. put: report and visits. score: match count. verdict: 0 for a line_up, 1 for a cycle, and of how many jobs. starts
-- and blocks: how many. A move: quick check, full check, length of the route.
abbrev pub told_in : Reply → List ℕ
told_in (refused r) = []
told_in (scored s) = []
told_in (changed s r) = report_in r ∷ visits_of r ∷ []
told_in (counted s k) = k ∷ []
told_in (lined_up l) = 0 ∷ length l ∷ []
told_in (cycled l) = 1 ∷ length l ∷ []
told_in (started l) = length l ∷ []
told_in (blocked l) = length l ∷ []
told_in (rerouted l q f) = mark q ∷ mark f ∷ length l ∷ []

-- the reply's numbers are written, and what lies behind them is not touched. A call that is lent no such places counts as lent an empty list,
-- in which nothing can be written.
pub record Written (sc sc' : List ℤ) (td td' : List ℕ) (c : ℕ) (r : Reply) : Type 0 where
  pub code : c ≡ code_of r
  pub score : sc' ≡ sets sc 0 (score_in r)
  pub told : td' ≡ sets td 0 (told_in r)

-- the call keeps its promise, K of the reply, and tells that reply
pub record AnswersBy (K : Reply → Type 0) (sc sc' : List ℤ) (td td' : List ℕ) (c : ℕ) : Type 0 where
  pub reply : Reply
  pub keeps : K reply
  pub written : Written sc sc' td td' c reply

-- every call but blocks
abbrev pub Answers : Ask → Slices → Slices → List ℕ → List ℕ → List ℤ → List ℤ → List ℕ → List ℕ → ℕ → Type 0
Answers a s s' out out' sc sc' td td' c = AnswersBy (Kept a s s' out out') sc sc' td td' c

-- the critical blocks of the owners os, as records
abbrev pub AnswersBlocks : List ℕ → Slices → Slices → List Block → List Block → List ℕ → List ℕ → ℕ → Type 0
AnswersBlocks os s s' out out' td td' c = AnswersBy (BlocksPromise os s s' out out') [] [] td td' c
