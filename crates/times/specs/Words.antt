-- The words of a plan's durations and times. Assumes nothing.
use Rattle.std.specs.Prelude.{ℕ, Bool, cond, not, List, ◌∷◌, take, drop, ◌==◌, nat_lt, slice_index}
use Rattle.rules.specs.Lists.{tick, table}
use Rattle.rules.specs.Sizes.{Base, duration, most_jobs}
use Rattle.rules.specs.Routes.{Plan}
use Rattle.rules.specs.Scores.{is_cyclic, makespan, reported_start}

-- durations
unfoldable pub span_words : Base → List ℕ
span_words b = table most_jobs (duration b)

-- starts of the jobs there are, 0 beyond
abbrev pub start_of : Plan → ℕ → ℕ
start_of p v = cond (nat_lt v p.base.jobs) (reported_start p v) 0

-- cyclic, makespan, starts
unfoldable pub time_words : Plan → List ℕ
time_words p = tick (is_cyclic p) 0 ∷ makespan p ∷ table most_jobs (start_of p)

-- their places
abbrev pub cyclic_place : ℕ
cyclic_place = 0

abbrev pub makespan_place : ℕ
makespan_place = 1

abbrev pub starts_place : ℕ
starts_place = 2

-- and what is read there
abbrev pub cyclic_in : List ℕ → Bool
cyclic_in ts = not (slice_index ts cyclic_place == 0)

abbrev pub makespan_in : List ℕ → ℕ
makespan_in ts = slice_index ts makespan_place

abbrev pub starts_in : List ℕ → List ℕ
starts_in ts = take most_jobs (drop starts_place ts)
