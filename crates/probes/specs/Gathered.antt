-- What a move turns off, and what it adds that is not live yet. Assumes nothing.
use Rattle.std.specs.Prelude.{ℕ, not, ◌&&◌, List}
use Rattle.rules.specs.Lists.{memb}
use Rattle.rules.specs.Moves.{occurs}
use Rattle.rules.specs.Sizes.{pair_up}
use Rattle.edges.specs.Edges.{Model, Holds}
use Rattle.graphs.specs.Graph.{live}
use Rattle.probes.specs.Chains.{Rule, holds_of}
use Rattle.probes.specs.Pairs.{Rising}
use Rattle.probes.specs.declared.chain.Chain.{Chain}

-- "Removed: old neighbour edges that occur nowhere among the new", less the fixed ones
unfoldable pub goes_off : (from to : List ℕ) (new : Chain) → Rising from → Rule
goes_off from to new r u v m = not (holds_of new u v) && not (occurs (pair_up from to) u v)

-- the words e hold a model
pub record Held (e : List ℕ) : Type 0 where
  pub model : Model
  pub holds : Holds e model

-- "Added: the reverse", less the live ones, each once
unfoldable pub comes_on : (e : List ℕ) (old : Chain) → Held e → Rule
comes_on e old h u v m = not (holds_of old u v) && (not (memb v m) && not (live h.model u v))
