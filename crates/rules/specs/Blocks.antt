-- "Critical blocks". "The blocks are written as records into a lent list": a record is the type `Block`.
use Rattle.std.specs.Prelude.{ℕ, zero, suc, ◌-◌, ◌≤◌, ◌<◌, ◌≡◌, Bool, true, false, cond, ◌&&◌, ◌||◌, List, [], ◌∷◌, ◌++◌, eqb, ltb, length, get_or}
use Rattle.rules.specs.declared.Block.{Block}
use Rattle.rules.specs.Lists.{least}
use Rattle.rules.specs.Graphs.{Graph}
use Rattle.rules.specs.Sizes.{duration}
use Rattle.rules.specs.Routes.{Plan, live, jobs_of, route_of}
use Rattle.rules.specs.Scores.{starts, finish, makespan, is_cyclic}

-- what stands beyond the end of a list of blocks
abbrev pub no_block : Block
no_block = record { owner = 0; first = 0; last = 0; length = 0 }

-- the latest start, by paths of at most k edges, where m is the makespan
abbrev pub latest_by : ℕ → Graph → (ℕ → ℕ) → ℕ → ℕ → ℕ → ℕ
latest_by n E d m zero v = m - d v
latest_by n E d m (suc k) v = least n (E v) (latest_by n E d m k) m - d v

-- "Latest start: without successors, makespan minus duration; else the least latest start of a successor, minus own duration."
unfoldable pub latest : Plan → ℕ → ℕ
latest p v = latest_by p.base.jobs (live p) (duration p.base) (makespan p) p.base.jobs v

-- "Critical: earliest equals latest."
unfoldable pub critical : Plan → ℕ → Bool
critical p v = eqb (starts p v) (latest p v)

-- "Critical arc: live edge, both ends critical, finish of the first equals start of the second."
unfoldable pub arc : Plan → ℕ → ℕ → Bool
arc p u v = live p u v && (critical p u && (critical p v && eqb (finish p u) (starts p v)))

-- the run from place `from` ends at place `here`, where job a stands: "a longest run of critical arcs is one block; a place on no run whose
-- job is critical is a block alone, even if the job stands elsewhere in a run"
abbrev pub ends : (ℕ → Bool) → ℕ → ℕ → ℕ → ℕ → ℕ → List Block
ends crit o size from here a =
    cond (ltb from here || crit a) (record { owner = o; first = from; last = here; length = size } ∷ []) []

-- "scan its stored valid entries"
abbrev pub scan : (ℕ → Bool) → Graph → ℕ → ℕ → ℕ → ℕ → List ℕ → List Block
scan crit arcs o size from here [] = []
scan crit arcs o size from here (a ∷ []) = ends crit o size from here a
scan crit arcs o size from here (a ∷ b ∷ l) =
    cond (arcs a b) (scan crit arcs o size from (suc here) (b ∷ l))
    (ends crit o size from here a ++ scan crit arcs o size (suc here) (suc here) (b ∷ l))

-- "A block holds owner, first, last (inclusive) and route length."
unfoldable pub blocks_of : Plan → ℕ → List Block
blocks_of p o = scan (critical p) (arc p) o (length (jobs_of (route_of p o))) 0 0 (jobs_of (route_of p o))

-- "For each owner in the given list (out of range skipped, repeats answered again)"
abbrev pub blocks_over : Plan → List ℕ → List Block
blocks_over p [] = []
blocks_over p (o ∷ os) = cond (ltb o p.base.owners) (blocks_of p o ++ blocks_over p os) (blocks_over p os)

-- "Cyclic: none."
unfoldable pub blocks : Plan → List ℕ → List Block
blocks p os = cond (is_cyclic p) [] (blocks_over p os)

-- ── what a block is, by its sentence: the answered blocks are just these, each once, rising (proofs/Runs: `blocks_sound`, `blocks_complete`, `blocks_rising`) ──

module _ (arcs : Graph) (l : List ℕ) where
  -- an arc leads from the job at place i to the one at the next place
  abbrev pub arc_at : ℕ → Bool
  arc_at i = ltb (suc i) (length l) && arcs (get_or l i 0) (get_or l (suc i) 0)

  -- the places first to last are "a longest run": arcs join them all, and none joins them to the place before or behind.
  -- A place on no arc is a run of no arcs.
  pub record Run (first last : ℕ) : Type 0 where
    pub rising : first ≤ last
    pub within : last < length l
    pub whole : (i : ℕ) → first ≤ i → i < last → arc_at i ≡ true
    pub begins : (i : ℕ) → suc i ≡ first → arc_at i ≡ false
    pub ceases : arc_at last ≡ false

module _ (crit : ℕ → Bool) (arcs : Graph) (l : List ℕ) where
  -- "a longest run of critical arcs is one block; a place on no run whose job is critical is a block alone"
  pub record IsBlock (first last : ℕ) : Type 0 where
    pub run : Run arcs l first last
    pub alone : first ≡ last → crit (get_or l first 0) ≡ true

-- "a longest run of critical arcs is one block; a place on no run whose job is critical is a block alone", of owner o's stored entries
abbrev pub PlanBlock : Plan → ℕ → ℕ → ℕ → Type 0
PlanBlock p o first last = IsBlock (critical p) (arc p) (jobs_of (route_of p o)) first last

-- "A block holds owner, first, last (inclusive) and route length."
abbrev pub plan_block : Plan → ℕ → ℕ → ℕ → Block
plan_block p o first last = record { owner = o; first = first; last = last; length = length (jobs_of (route_of p o)) }
