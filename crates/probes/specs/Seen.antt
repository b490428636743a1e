-- What a move leaves on of the live edges, seen through their lists. Assumes nothing.
use Rattle.std.specs.Prelude.{ℕ, ◌<◌, Bool, not, List, length, slice_index}
use Rattle.rules.specs.Sizes.{most_entries, most_jobs}
use Rattle.probes.specs.Chains.{Falls, holds_of}
use Rattle.probes.specs.declared.chain.Chain.{Chain}

-- the edge from u to v is not among those that are off
abbrev pub stays : Chain → ℕ → ℕ → Bool
stays off u v = not (holds_of off u v)

-- the edge from job u at this place of its row can be looked up
pub record Seeable (live : List ℕ) (off : Chain) (u place : ℕ) : Type 0 where
  pub falls : Falls most_entries off
  pub job : u < most_jobs
  pub within : place < length live

-- it is not among those that are off
abbrev pub stays_at : List ℕ → Chain → ℕ → ℕ → Bool
stays_at live off u place = not (holds_of off u (slice_index live place))
