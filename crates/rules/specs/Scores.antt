-- "Score": penalties, starts, makespan, score and match count.
use Rattle.std.specs.Prelude.{ℕ, zero, suc, ◌+◌, ◌≤◌, ◌^◌, max, ◌≡◌, Bool, true, not, cond, List, [], ◌∷◌, eqb, ltb, ℤ, pos, negsuc, neg_ℤ, ◌-ℤ◌}
use Rattle.rules.specs.declared.Score.{Score}
use Rattle.rules.specs.Lists.{tick, is_zero, is_some, sum_of, sum_below, greatest, Pair}
use Rattle.rules.specs.Graphs.{Graph}
use Rattle.rules.specs.Sizes.{Base, duration}
use Rattle.rules.specs.Routes.{Plan, Route, live, jobs_of, violations_of}
use Rattle.rules.specs.Shown.{shown_line_up}

-- ── starts ──

-- what v's floor and its predecessors ask of v's start, where s are the starts
abbrev pub best : ℕ → Graph → (ℕ → ℕ) → (ℕ → ℕ) → (ℕ → ℕ) → ℕ → ℕ
best n E floor d s v = max (floor v) (greatest n (λ u. E u v) (λ u. s u + d u))

-- the starts by paths of at most m edges
abbrev pub start : ℕ → Graph → (ℕ → ℕ) → (ℕ → ℕ) → ℕ → ℕ → ℕ
start n E floor d zero v = floor v
start n E floor d (suc m) v = best n E floor d (start n E floor d m) v

-- no job has a floor but 0
abbrev pub floor_of : Base → ℕ → ℕ
floor_of b v = 0

-- "Start of a job: the greatest duration sum along a path of live edges that leads to it, itself not counted; 0 without predecessors."
unfoldable pub starts : Plan → ℕ → ℕ
starts p v = start p.base.jobs (live p) (floor_of p.base) (duration p.base) p.base.jobs v

-- "Finish: start + duration."
abbrev pub finish : Plan → ℕ → ℕ
finish p v = starts p v + duration p.base v

-- ── the verdict ──

-- a plan without a line_up of all jobs is cyclic
unfoldable pub is_cyclic : Plan → Bool
is_cyclic p = not (is_some (shown_line_up p))

-- "Makespan: greatest finish, 0 if n = 0 or cyclic."
unfoldable pub makespan : Plan → ℕ
makespan p = cond (is_cyclic p) 0 (greatest p.base.jobs (λ v. true) (finish p))

-- "Starts are reported as 0 while cyclic."
unfoldable pub reported_start : Plan → ℕ → ℕ
reported_start p v = cond (is_cyclic p) 0 (starts p v)

-- ── penalties ──

-- "with `to` of n or more it counts one invalid fixed edge"
unfoldable pub invalid_fixed : Base → ℕ
invalid_fixed b = sum_of (λ (e : Pair). tick (not (ltb e.1 b.jobs)) 0) b.fixed

unfoldable pub invalid_entries : Plan → ℕ
invalid_entries p = sum_of (λ (r : Route). r.invalid) p.desk.routes

-- the violations of owners o, o + 1, ..
abbrev pub violations_from : Base → ℕ → List Route → ℕ
violations_from b o [] = 0
violations_from b o (r ∷ l) = violations_of b o r + violations_from b (suc o) l

unfoldable pub violations : Plan → ℕ
violations p = violations_from p.base 0 p.desk.routes

-- how often a job is in force
abbrev pub times_in : ℕ → List ℕ → ℕ
times_in v l = sum_of (λ w. tick (eqb v w) 0) l

abbrev pub assigned : List Route → ℕ → ℕ
assigned l v = sum_of (λ r. times_in v (jobs_of r)) l

-- "Assignment penalty for a job in force c times: 1 for c = 0, else c - 1; summed over jobs."
abbrev pub assignment : ℕ → ℕ
assignment zero = 1
assignment (suc c) = c

unfoldable pub assignment_penalty : Plan → ℕ
assignment_penalty p = sum_below p.base.jobs (λ v. assignment (assigned p.desk.routes v))

-- "Cycle penalty: n if cyclic, else 0."
unfoldable pub cycle_penalty : Plan → ℕ
cycle_penalty p = cond (is_cyclic p) p.base.jobs 0

-- "Hard penalty: invalid fixed + invalid + violations + assignment + cycle."
unfoldable pub hard_penalty : Plan → ℕ
hard_penalty p = invalid_fixed p.base + (invalid_entries p + (violations p + (assignment_penalty p + cycle_penalty p)))

-- ── the score ──

-- "Score: minus the hard penalty, then minus the makespan."
abbrev pub score_of : ℕ → ℕ → Score
score_of hard span = record { hard = neg_ℤ (pos hard); soft = neg_ℤ (pos span) }

unfoldable pub score : Plan → Score
score p = score_of (hard_penalty p) (makespan p)

-- "score after minus score before, part by part"
abbrev pub minus_of : Score → Score → Score
minus_of s t = record { hard = s.hard -ℤ t.hard; soft = s.soft -ℤ t.soft }

abbrev pub no_change : Score
no_change = record { hard = pos 0; soft = pos 0 }

-- "Match count: hard penalty, plus 1 if the makespan is above 0."
abbrev pub match_count : ℕ → ℕ → ℕ
match_count hard span = hard + tick (not (is_zero span)) 0

-- the same, told from the score
abbrev pub part_of : ℤ → ℕ
part_of (pos k) = 0
part_of (negsuc k) = suc k

abbrev pub matches_of : Score → ℕ
matches_of s = match_count (part_of s.hard) (part_of s.soft)

-- every part of a score under the stated limits is below this
abbrev pub limit : ℕ
limit = 2 ^ 50

-- a score of a penalty and a makespan within the limit
pub record Within (s : Score) : Type 0 where
  pub hard : ℕ
  pub span : ℕ
  pub is_hard : s.hard ≡ neg_ℤ (pos hard)
  pub is_soft : s.soft ≡ neg_ℤ (pos span)
  pub hard_fits : hard ≤ limit
  pub span_fits : span ≤ limit
