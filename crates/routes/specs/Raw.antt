-- What the steps of `put_route` do to the words, whatever they are. Assumes nothing.
use Rattle.std.specs.Prelude.{ℕ, ◌+◌, ◌-◌, ◌%◌, ◌^◌, ◌<◌, ◌≤◌, true, false, List, ◌++◌, length, take, drop, slice_index, slice_index_or}
use Rattle.std.proofs.Math.Seq.{slice}
use Rattle.rules.specs.Sizes.{most_owners, most_entries}
use Rattle.words.specs.Words.{map_from}
use Rattle.edges.specs.Rows.{pad}
use Rattle.edges.specs.Raw.{mid, put}
use Rattle.routes.specs.Store.{stops_at}
use Rattle.routes.specs.Counting.{stops_in, recount_in}

-- of the stops a: s at f, then what stood from t up to n, then zeros
unfoldable pub splice : ℕ → ℕ → ℕ → List ℕ → List ℕ → List ℕ
splice f t n s a = take f a ++ (s ++ take (most_entries - (f + length s)) (pad most_entries (slice t n a)))

-- an offset that follows
abbrev pub shifted : ℕ → ℕ → ℕ
shifted by x = (x + by) % 2 ^ 16

-- by how much, if `out` stops before it give way to `new`
unfoldable pub shift_of : ℕ → ℕ → ℕ
shift_of out new = (65536 + new - out) % 65536

-- o is an owner whose stops make sense, and k others have room in their place
pub record Lies (l : List ℕ) (o k : ℕ) : Type 0 where
  pub low : o < most_owners
  pub forward : slice_index_or l o 0 ≤ slice_index l (o + 1)
  pub inside : slice_index_or l (o + 1) 0 ≤ slice_index l most_owners
  pub few : slice_index_or l most_owners 0 ≤ most_entries
  pub room : slice_index_or l most_owners 0 - (slice_index l (o + 1) - slice_index l o) + k ≤ most_entries

-- the steps in the words: the stops s in the place of others, the offsets behind them
unfoldable pub splice_in : ℕ → ℕ → ℕ → List ℕ → List ℕ → List ℕ
splice_in f t n s l = put stops_at most_entries l (splice f t n s (mid stops_at most_entries l))

unfoldable pub shift_in : ℕ → ℕ → List ℕ → List ℕ
shift_in by from l = map_from (shifted by) from (take stops_at l) ++ drop stops_at l

-- an owner's stops, from f up to t of n, become s
abbrev pub settle_in : ℕ → ℕ → ℕ → ℕ → List ℕ → List ℕ → List ℕ
settle_in f t n o s l = shift_in (shift_of (t - f) (length s)) (o + 1) (splice_in f t n s (recount_in true s (recount_in false (stops_in l f t) l)))

abbrev pub settled : ℕ → List ℕ → List ℕ → List ℕ
settled o s l = settle_in (slice_index l o) (slice_index l (o + 1)) (slice_index l most_owners) o s l
