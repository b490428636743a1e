-- Critical arcs between stops' words, and the scan along them. Assumes nothing.
use Rattle.std.specs.Prelude.{◌≡◌, ℕ, suc, ◌+◌, ◌/◌, ◌%◌, ◌^◌, ◌<◌, ◌≤◌, Bool, true, ◌&&◌, ◌||◌, Option, Some, None, List, [], ◌∷◌, length, drop, ◌==◌, nat_lt, slice_index}
use Rattle.rules.specs.declared.Block.{Block}
use Rattle.rules.specs.Blocks.{scan}
use Rattle.rules.specs.Graphs.{Graph}
use Rattle.edges.specs.Edges.{Model, Holds}
use Rattle.graphs.specs.Graph.{at, live}

-- what a scan reads: durations, starts, the marks of the critical jobs, and how many jobs there are
pub record Sight : Type 0 where
  pub spans : List ℕ
  pub starts : List ℕ
  pub marks : List ℕ
  pub jobs : ℕ

abbrev pub sight : List ℕ → List ℕ → List ℕ → ℕ → Sight
sight sp st c n = record { spans = sp; starts = st; marks = c; jobs = n }

-- the job of the stop x is marked; a number that is no job is not
unfoldable pub crit_in : List ℕ → ℕ → ℕ → Bool
crit_in c n x = nat_lt (x / 2) n && at c (x / 2) == 1

-- both jobs are marked, and the first ends as the second starts; ends of 2^64 and more wrap around
unfoldable pub tight_in : List ℕ → List ℕ → List ℕ → ℕ → ℕ → Bool
tight_in sp st c u v = at c u == 1 && (at c v == 1 && (at st u + at sp u) % 2 ^ 64 == at st v)

-- an edge leads from job u to the job of the stop y, or y is joined
unfoldable pub join_in : Graph → ℕ → ℕ → Bool
join_in E u y = y % 2 == 1 || E u (y / 2)

-- "Critical arc: live edge, both ends critical, finish of the first equals start of the second.", from the stop x to the stop y
unfoldable pub arc_in : Graph → Sight → ℕ → ℕ → Bool
arc_in E S x y =
    nat_lt (x / 2) S.jobs
    && (nat_lt (y / 2) S.jobs && (tight_in S.spans S.starts S.marks (x / 2) (y / 2) && join_in E (x / 2) y))

pub record Joins (e : List ℕ) (u y : ℕ) (r : Bool) : Type 0 where
  pub is : (m : Model) → Holds e m → r ≡ join_in (live m) u y

pub record Arced (e : List ℕ) (S : Sight) (x y : ℕ) (r : Bool) : Type 0 where
  pub is : (m : Model) → Holds e m → r ≡ arc_in (live m) S x y

-- the rules' scan of owner o's stops w, from a place on that no run leads to
unfoldable pub scan_from : Graph → Sight → ℕ → List ℕ → ℕ → List Block
scan_from E S o w i = scan (crit_in S.marks S.jobs) (arc_in E S) o (length w) i i (drop i w)

-- a block of a route of so many stops, from place a to place b
abbrev pub block_of : ℕ → ℕ → ℕ → ℕ → Block
block_of o size a b = record { owner = o; first = a; last = b; length = size }

-- where the run from a place ends; if the place is critical, that is a block
pub record Ended (e : List ℕ) (S : Sight) (w : List ℕ) (from r : ℕ) : Type 0 where
  pub rising : from ≤ r
  pub inside : r < length w
  pub is : (m : Model) → Holds e m → crit_in S.marks S.jobs (slice_index w from) ≡ true → (o : ℕ)
      → scan_from (live m) S o w from ≡ block_of o (length w) from r ∷ scan_from (live m) S o w (suc r)

-- the first critical place from a place on: no block begins before it
pub record First (c : List ℕ) (n : ℕ) (w : List ℕ) (from r : ℕ) : Type 0 where
  pub rising : from ≤ r
  pub marked : r < length w → crit_in c n (slice_index w r) ≡ true
  pub is : (E : Graph) (sp st : List ℕ) (o : ℕ) → scan_from E (sight sp st c n) o w from ≡ scan_from E (sight sp st c n) o w r

-- where the next block begins, from a place on, if one does
abbrev pub Begins : List ℕ → ℕ → List ℕ → ℕ → Option ℕ → Type 0
Begins c n w from (Some r) = (r < length w) × First c n w from r
Begins c n w from None = (E : Graph) (sp st : List ℕ) (o : ℕ) → scan_from E (sight sp st c n) o w from ≡ []
