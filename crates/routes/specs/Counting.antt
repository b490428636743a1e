-- How often each job is in force: what stops that come or go do to the counts. Assumes nothing.
use Rattle.std.specs.Prelude.{ℕ, ◌/◌, Bool, true, false, List, [], ◌∷◌, slice_index, slice_set}
use Rattle.std.proofs.Math.Seq.{slice}
use Rattle.rules.specs.Sizes.{most_jobs, most_entries}
use Rattle.words.specs.Words.{up, down}
use Rattle.edges.specs.Raw.{mid, put}
use Rattle.routes.specs.Store.{stops_at, assigned_at}

-- more: one more, else one less; it stays a word
abbrev pub stepped : Bool → ℕ → ℕ
stepped true c = up c
stepped false c = down c

-- the counts a after a stop with the word w
abbrev pub count_one : Bool → List ℕ → ℕ → List ℕ
count_one b a w = slice_set a (w / 2) (stepped b (slice_index a (w / 2)))

-- after the stops l
unfoldable pub count_all : Bool → List ℕ → List ℕ → List ℕ
count_all b a [] = a
count_all b a (w ∷ l) = count_all b (count_one b a w) l

-- the stops from f up to t among the words r
abbrev pub stops_in : List ℕ → ℕ → ℕ → List ℕ
stops_in r f t = slice f t (mid stops_at most_entries r)

-- the words r, with the counts after the stops l
unfoldable pub recount_in : Bool → List ℕ → List ℕ → List ℕ
recount_in b l r = put assigned_at most_jobs r (count_all b (mid assigned_at most_jobs r) l)
