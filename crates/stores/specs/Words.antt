-- The words of a plan's base. (Durations and times: crate times; edges and routes: their layers.)
use Rattle.std.specs.Prelude.{ℕ, ◌+◌, ◌-◌, not, List, ◌∷◌, ◌++◌, map, length, replicate, ltb}
use Rattle.rules.specs.Lists.{Pair, sum_of, table, tick}
use Rattle.rules.specs.Sizes.{Base, expected_of, most_jobs, most_fixed, nobodys}
use Rattle.rules.specs.Scores.{invalid_fixed}

-- l, and zeros up to the length n
abbrev pub padded : ℕ → List ℕ → List ℕ
padded n l = l ++ replicate (n - length l) 0

abbrev pub froms : Base → List ℕ
froms b = map (λ (e : Pair). e.0) b.fixed

abbrev pub tos : Base → List ℕ
tos b = map (λ (e : Pair). e.1) b.fixed

-- mark, jobs, owners, fixed pairs, invalid fixed pairs; from; to; expected owners
unfoldable pub base_words : Base → List ℕ
base_words b =
    1 ∷ b.jobs ∷ b.owners ∷ length b.fixed ∷ invalid_fixed b
    ∷ (padded most_fixed (froms b) ++ (padded most_fixed (tos b) ++ table most_jobs (expected_of b)))

-- where the fixed list's two tables and the expected owners begin
abbrev pub from_at : ℕ
from_at = 5

abbrev pub to_at : ℕ
to_at = from_at + most_fixed

abbrev pub expected_at : ℕ
expected_at = to_at + most_fixed

-- ── what load writes ──

-- 1 for a `to` that is no job
abbrev pub stray_of : ℕ → ℕ → ℕ
stray_of n v = tick (not (ltb v n)) 0

unfoldable pub strays : ℕ → List ℕ → ℕ
strays n l = sum_of (stray_of n) l

-- the words of a base, told from what is loaded
unfoldable pub base_laid : ℕ → ℕ → List ℕ → List ℕ → List ℕ → List ℕ
base_laid jobs owners expected from to =
    1 ∷ jobs ∷ owners ∷ length from ∷ strays jobs to
    ∷ (padded most_fixed from ++ (padded most_fixed to ++ (expected ++ replicate (most_jobs - length expected) nobodys)))
