-- What the functions of the quick check promise. Assumes nothing.
use Rattle.std.specs.Prelude.{◌≡◌, ℕ, Bool, ◌&&◌, List}
use Rattle.rules.specs.Graphs.{Graph}
use Rattle.rules.specs.Lists.{Pair, any_of}
use Rattle.rules.specs.Moves.{leads, neighbours}
use Rattle.edges.specs.Edges.{Model}
use Rattle.probes.specs.Chains.{holds_of}
use Rattle.probes.specs.Fulls.{OnGraph, on_edge}
use Rattle.probes.specs.declared.chain.Chain.{Chain}

-- a way leads from v to u
pub record Ways (e : List ℕ) (off plus : Chain) (v u n : ℕ) (r : Bool) : Type 0 where
  pub is : (m : Model) → OnGraph e off plus n m → r ≡ leads n (on_edge m off plus) v u

-- an edge that comes on, and a way from its head back to its tail
abbrev pub closing : ℕ → Graph → Chain → Pair → Bool
closing n E plus p = holds_of plus p.0 p.1 && leads n E p.1 p.0

pub record Closes (e : List ℕ) (off plus : Chain) (u v n : ℕ) (r : Bool) : Type 0 where
  pub is : (m : Model) → OnGraph e off plus n m → r ≡ closing n (on_edge m off plus) plus (u, v)

-- some such edge between neighbours
unfoldable pub turning : Model → Chain → Chain → List ℕ → ℕ → Bool
turning m off plus jobs n = any_of (closing n (on_edge m off plus) plus) (neighbours jobs)

pub record Turns (e : List ℕ) (off plus : Chain) (jobs : List ℕ) (n : ℕ) (r : Bool) : Type 0 where
  pub is : (m : Model) → OnGraph e off plus n m → r ≡ turning m off plus jobs n
