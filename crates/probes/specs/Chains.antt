-- A set of edges: of each job the place of its last edge, of each place the place before it and where it leads.
-- A place is written one higher, so that 0 is none. Assumes nothing.
use Rattle.std.specs.Prelude.{◌≡◌, ℕ, zero, suc, ◌<◌, ◌≤◌, Bool, true, cond, ◌&&◌, List, [], ◌∷◌, length, ◌==◌, slice_index, replicate}
use Rattle.rules.specs.Lists.{Pair, memb}
use Rattle.rules.specs.Sizes.{most_entries, most_jobs}
use Rattle.probes.specs.declared.chain.Chain.{Chain}

-- no edge
abbrev pub blank : Chain
blank = record { first = replicate most_jobs 0; next = replicate most_entries 0; head = replicate most_entries 0 }

-- the three tables of one
abbrev pub tables : List ℕ → List ℕ → List ℕ → Chain
tables first next head = record { first = first; next = next; head = head }

-- no job's last edge stands beyond place k, and the one before an edge stands before it
pub record Falls (k : ℕ) (c : Chain) : Type 0 where
  pub firsts : length c.first ≡ most_jobs
  pub nexts : length c.next ≡ most_entries
  pub heads : length c.head ≡ most_entries
  pub first : (u : ℕ) → u < most_jobs → slice_index c.first u ≤ k
  pub next : (j : ℕ) → j < most_entries → slice_index c.next j ≤ j

-- where the edges lead from the one written `at` on, each to the place before it; f is at least `at`
unfoldable pub along : ℕ → Chain → ℕ → List ℕ
along zero c at = []
along (suc f) c zero = []
along (suc f) c (suc k) = slice_index c.head k ∷ along f c (slice_index c.next k)

abbrev pub links_at : Chain → ℕ → List ℕ
links_at c at = along at c at

-- where the edges from u lead, the last one first
abbrev pub heads_of : Chain → ℕ → List ℕ
heads_of c u = links_at c (slice_index c.first u)

-- the edge from u to v is one of them
abbrev pub holds_of : Chain → ℕ → ℕ → Bool
holds_of c u v = memb v (heads_of c u)

-- whether an edge from u to v joins those from u that lead to m
abbrev pub Rule : Type 0
Rule = (u v : ℕ) (m : List ℕ) → Bool

-- of a list of edges those from w that join, behind those that lead to m
abbrev pub joined : Rule → ℕ → List Pair → List ℕ → List ℕ
joined p w [] m = m
joined p w (e ∷ l) m = joined p w l (cond (w == e.0 && p e.0 e.1 m) (e.1 ∷ m) m)

-- given G, the edges of l have joined those of c, at places below k
pub record Links {G : Type 0} (p : G → Rule) (l : List Pair) (k : ℕ) (c c' : Chain) : Type 0 where
  pub falls : Falls k c'
  pub are : (g : G) (w : ℕ) → w < most_jobs → heads_of c' w ≡ joined (p g) w l (heads_of c w)

unfoldable pub always : Unit {0} → Rule
always g u v m = true
