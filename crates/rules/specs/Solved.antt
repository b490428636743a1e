-- Not of document 01: how far a graph's line_up and starts are, in the words of the rules. The crates starts and shown promise by them.
use Rattle.std.specs.Prelude.{ℕ, ◌≤◌, ◌<◌, ◌≡◌, true, List, [], ◌++◌}
use Rattle.std.proofs.Math.Option.{Option, map}
use Rattle.rules.specs.Graphs.{Graph}
use Rattle.rules.specs.Reports.{Outcome}
use Rattle.rules.specs.Routes.{edge}
use Rattle.rules.specs.Scores.{best}

-- a number for each job that rises along each edge: what a line_up gives, and what leaves no cycle
abbrev pub Rises : ℕ → Graph → (ℕ → ℕ) → Type 0
Rises n E r = (u v : ℕ) → u < n → v < n → E u v ≡ true → r u < r v

-- numbers that rise along each edge, and are 0 to n - 1, each once
pub record Ranks (n : ℕ) (E : Graph) (r : ℕ → ℕ) : Type 0 where
  pub rises : Rises n E r
  pub top : (v : ℕ) → v < n → r v < n
  pub hits : (k : ℕ) → k < n → (v : ℕ) × (v < n) × (r v ≡ k)

-- the jobs l are placed, and those of o behind them
abbrev pub behind : List ℕ → Option (List ℕ) → Option (List ℕ)
behind l o = map (λ (m : List ℕ). l ++ m) o

-- s are starts that the equations hold of: each job's is what its floor and its predecessors ask
abbrev pub Solves : ℕ → Graph → (ℕ → ℕ) → (ℕ → ℕ) → (ℕ → ℕ) → Type 0
Solves n E f d s = (v : ℕ) → v < n → s v ≡ best n E f d s v

-- "The visits never exceed n(n+1)/2." A walk is bounded by its fuel alone; what there is to show is that nothing is left in its queue then:
-- the walk has come to its end, with at most b visits, and has mended the starts
pub record Mended (n : ℕ) (out : ℕ → List ℕ) (f d : ℕ → ℕ) (b : ℕ) (o : Outcome) : Type 0 where
  pub ends : o.left ≡ []
  pub few : o.visits ≤ b
  pub solves : Solves n (edge out) f d o.starts
