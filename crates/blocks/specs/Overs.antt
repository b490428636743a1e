-- The blocks of a list of owners. Assumes nothing.
use Rattle.std.specs.Prelude.{◌≡◌, ℕ, ◌+◌, ◌-◌, ◌*◌, ◌<◌, ◌≤◌, cond, Result, Ok, Err, List, [], ◌∷◌, ◌++◌, length, drop, nat_lt}
use Rattle.rules.specs.declared.Block.{Block}
use Rattle.rules.specs.declared.Refusal.{Refusal}
use Rattle.rules.specs.declared.Refusal.TheVariants.{ShortAnswer}
use Rattle.rules.specs.Blocks.{no_block}
use Rattle.rules.specs.Graphs.{Graph}
use Rattle.rules.specs.Sizes.{most_entries}
use Rattle.edges.specs.Edges.{Model, Holds as EdgesHold}
use Rattle.graphs.specs.Graph.{live}
use Rattle.routes.specs.Store.{Model as Routes, Holds, route_at, row}
use Rattle.blocks.specs.Arcs.{Sight, scan_from}
use Rattle.blocks.specs.declared.blocks.Spot.{Spot}

-- "out of range skipped"
unfoldable pub row_of : Routes → ℕ → ℕ → List ℕ
row_of d all o = cond (nat_lt o all) (row (route_at d o)) []

pub record Rowed (l : List ℕ) (all o : ℕ) (r : List ℕ) : Type 0 where
  pub short : length r ≤ most_entries
  pub is : (d : Routes) → Holds l d → r ≡ row_of d all o

-- the blocks of a list of owners, from a place of the first one's route on
abbrev pub over : Graph → Sight → Routes → ℕ → ℕ → List ℕ → List Block
over E S d all place [] = []
over E S d all place (o ∷ os) = scan_from E S o (row_of d all o) place ++ over E S d all 0 os

-- those from a spot on
unfoldable pub ahead : Graph → Sight → Routes → ℕ → List ℕ → Spot → List Block
ahead E S d all os at = over E S d all at.place (drop at.owner os)

-- how many places may be left
abbrev pub left : List ℕ → ℕ → ℕ → ℕ
left os i place = (length os - i) * (most_entries + 1) + (most_entries - place)

-- the next block: a spot beyond the owners says that there is none
pub record Stepped (e : List ℕ) (S : Sight) (l : List ℕ) (all : ℕ) (os : List ℕ) (at r : Spot) : Type 0 where
  pub fewer : r.owner < length os → left os r.owner r.place < left os at.owner at.place
  pub found : (m : Model) (d : Routes) → EdgesHold e m → Holds l d → r.owner < length os
      → ahead (live m) S d all os at ≡ r.block ∷ ahead (live m) S d all os r
  pub done : (m : Model) (d : Routes) → EdgesHold e m → Holds l d → length os ≤ r.owner
      → (ahead (live m) S d all os at ≡ []) × (r.block ≡ no_block)

-- 10: "the answer buffer has fewer places than the answer needs"
abbrev pub fitting : ℕ → ℕ → Result ℕ Refusal
fitting room k = cond (nat_lt room k) (Err ShortAnswer) (Ok k)

-- before the first block
abbrev pub begun : Spot
begun = record { block = no_block; owner = 0; place = 0 }

-- how many there are, or that they are more than `room`
abbrev pub Fits : ℕ → Result ℕ Refusal → Type 0
Fits room (Ok k) = k ≤ room
Fits room (Err r) = r ≡ ShortAnswer

pub record Counted (e : List ℕ) (S : Sight) (l : List ℕ) (all : ℕ) (os : List ℕ) (room : ℕ) (r : Result ℕ Refusal) : Type 0 where
  pub fits : Fits room r
  pub is : (m : Model) (d : Routes) → EdgesHold e m → Holds l d → r ≡ fitting room (length (ahead (live m) S d all os begun))
