-- Where the five tables lie in the slice of `edges_length` words, and how long each is. Assumes nothing.
use Rattle.std.specs.Prelude.{ℕ, ◌+◌}
use Rattle.rules.specs.Sizes.{most_jobs}

-- how many edges there is room for: the rules have 4,095 distinct at most
abbrev pub most_edges : ℕ
most_edges = 4096

-- where each job's row starts, and where the last ends
abbrev pub starts_length : ℕ
starts_length = most_jobs + 1

-- the starts of the rows of heads lie at 0; then the heads, how often each, the starts of the rows of tails, the tails
abbrev pub heads_at : ℕ
heads_at = starts_length

abbrev pub counts_at : ℕ
counts_at = heads_at + most_edges

abbrev pub tail_starts_at : ℕ
tail_starts_at = counts_at + most_edges

abbrev pub tails_at : ℕ
tails_at = tail_starts_at + starts_length
