-- The lists of a model, and the rows that hold them. Assumes nothing.
use Rattle.std.specs.Prelude.{ℕ, ◌+◌, ◌≤◌, ◌<◌, ◌≡◌, List, [], map, length, get_or, take, drop}
use Rattle.std.proofs.Math.Seq.{slice}
use Rattle.rules.specs.Sizes.{most_jobs}
use Rattle.edges.specs.Layout.{most_edges}
use Rattle.edges.specs.Edges.{Model, Holds, to_of}

-- the successors and the predecessors of a job, in stored order
unfoldable pub out_of : Model → ℕ → List ℕ
out_of m u = map to_of (get_or m.succ u [])

unfoldable pub pre_of : Model → ℕ → List ℕ
pre_of m v = get_or m.pred v []

-- r is the list l of the model that the words e hold, if they hold one
pub record Listed (e : List ℕ) (l : Model → List ℕ) (r : List ℕ) : Type 0 where
  pub short : length r ≤ most_edges
  pub is : (m : Model) → Holds e m → r ≡ l m

abbrev pub Successors : List ℕ → ℕ → List ℕ → Type 0
Successors e u r = Listed e (λ m. out_of m u) r

abbrev pub Predecessors : List ℕ → ℕ → List ℕ → Type 0
Predecessors e v r = Listed e (λ m. pre_of m v) r

-- what row i of the rows at o and a is, whatever the words are
pub record Rowed (o a i : ℕ) (l r : List ℕ) : Type 0 where
  pub short : length r ≤ most_edges
  pub none : most_jobs ≤ i → r ≡ []
  pub some : (f t : ℕ) → f ≡ get_or l (o + i) 0 → t ≡ get_or l (o + i + 1) 0 → i < most_jobs → f ≤ t → t ≤ most_edges
      → r ≡ slice f t (take most_edges (drop a l))
