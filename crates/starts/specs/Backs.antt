-- What the functions of the search promise. Assumes nothing.
use Rattle.std.specs.Prelude.{◌≡◌, ℕ, ◌<◌, ◌≤◌, Bool, true, List, nat_le}
use Rattle.std.proofs.Math.Option.{none}
use Rattle.rules.specs.Graphs.{Graph}
use Rattle.rules.specs.Lists.{memb}
use Rattle.rules.specs.Shown.{order}
use Rattle.edges.specs.Edges.{Model, Holds}
use Rattle.graphs.specs.Graph.{at, live, Below}
use Rattle.graphs.specs.Falls.{Shut, Steady}
use Rattle.starts.specs.declared.backs.Turned.{Turned}
use Rattle.starts.specs.declared.backs.Turned.TheVariants.{Free, Back, Tired}
use Rattle.starts.specs.Lines.{Lows, Verdict}

-- v starts no later than `top`
abbrev pub soon : List ℕ → ℕ → ℕ → Bool
soon st top v = nat_le (at st v) top

-- a search found no way, A; a cycle of E; or nothing
abbrev pub Ended : ℕ → Graph → Type 0 → Turned → Type 0
Ended n E A (Free x) = A
Ended n E A Back = order n E ≡ none
Ended n E A Tired = Unit

-- no way leads back to b over jobs that start no later than `top`
abbrev pub Closed : ℕ → Graph → (ℕ → ℕ) → ℕ → ℕ → Type 0
Closed n E s b top = (R : ℕ → Bool) × Shut n E s b top R

pub record Searches (e st : List ℕ) (b top n : ℕ) (r : Turned) : Type 0 where
  pub is : (m : Model) → Holds e m → Below n m → at st b ≤ top → Ended n (live m) (Closed n (live m) (at st) b top) r

-- no job of the row starts later than r, which is `top` or more
pub record Lates (row st : List ℕ) (n top r : ℕ) : Type 0 where
  pub up : top ≤ r
  pub is : (u : ℕ) → memb u row ≡ true → u < n → at st u ≤ r

-- for each predecessor u that starts no sooner than b: no way back to b over jobs that start no later than u
abbrev pub Spared : ℕ → Graph → (ℕ → ℕ) → ℕ → Type 0
Spared n E s b = (u : ℕ) → u < n → E u b ≡ true → s b ≤ s u → (top : ℕ) × (R : ℕ → Bool) × (s u ≤ top) × Shut n E s b top R

pub record Looks (e st : List ℕ) (b n : ℕ) (r : Turned) : Type 0 where
  pub is : (m : Model) → Holds e m → Below n m → b < n → Ended n (live m) (Spared n (live m) (at st) b) r

-- an edge to one of the heads is new
abbrev pub headed : List ℕ → Graph
headed vs u v = memb v vs

-- of a graph in which, but for edges to the heads, no start falls along an edge, and numbers rise
pub record Judges (e st heads : List ℕ) (n : ℕ) (r : Bool) : Type 0 where
  pub told : (m : Model) → Holds e m → Below n m → Lows n heads → (rank : ℕ → ℕ) → Steady n (live m) (headed heads) (at st) rank → Verdict m n r
