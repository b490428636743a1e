-- Demand 3 and the limits: what holds of the plan after any history of calls (proofs/Demands, `history_stands`).
use Rattle.std.specs.Prelude.{ℕ, ◌+◌, ◌-◌, ◌*◌, ◌≤◌, ◌<◌, ◌≡◌, true, false, ◌⊎◌, ◌↔◌, List, length}
use Rattle.std.proofs.Math.Option.{some}
use Rattle.rules.specs.Lists.{sum_of}
use Rattle.rules.specs.Graphs.{GreatestSum, LineUp, LowestCycle, LowestLineUp}
use Rattle.rules.specs.Routes.{Heads, Plan, in_force, is_held, live}
use Rattle.rules.specs.Scores.{Within, cycle_penalty, finish, floor_of, is_cyclic, makespan, score, starts}
use Rattle.rules.specs.Shown.{shown_cycle, shown_line_up}
use Rattle.rules.specs.Sizes.{duration, longest, most_entries, most_fixed, most_jobs}

-- how many edges the stored lists hold
abbrev pub edges_of : Heads → ℕ
edges_of t = sum_of (λ (l : List ℕ). length l) t

-- "then a cycle is shown, the cycle penalty is the job count and the makespan 0"
pub record Looped (p : Plan) : Type 0 where
  pub list : List ℕ
  pub shown : shown_cycle p ≡ some list
  pub lowest : LowestCycle p.base.jobs (live p) list
  pub penalty : cycle_penalty p ≡ p.base.jobs
  pub span : makespan p ≡ 0

-- "Otherwise a line_up is shown, the penalty is 0, and every start and the makespan are the longest-path values."
pub record Calm (p : Plan) : Type 0 where
  pub list : List ℕ
  pub shown : shown_line_up p ≡ some list
  pub lowest : LowestLineUp p.base.jobs (live p) list
  pub penalty : cycle_penalty p ≡ 0
  pub start : (v : ℕ) → v < p.base.jobs → GreatestSum p.base.jobs (live p) (floor_of p.base) (duration p.base) v (starts p v)
  pub within : (v : ℕ) → v < p.base.jobs → finish p v ≤ makespan p
  pub reached : (makespan p ≡ 0) ⊎ ((v : ℕ) × (v < p.base.jobs) × (makespan p ≡ finish p v))

pub record Standing (p : Plan) : Type 0 where
  -- "An edge is live while its count is above 0."
  pub lists : (u v : ℕ) → live p u v ≡ is_held p (u, v)
  -- "the plan is called cyclic exactly if no line_up of all jobs has every edge leading forward"
  pub verdict : (is_cyclic p ≡ true) ↔ ((l : List ℕ) → LineUp p.base.jobs (live p) l → ⊥)
  pub looped : is_cyclic p ≡ true → Looped p
  pub calm : is_cyclic p ≡ false → Calm p
  -- "Edges always fit: 3,072 + 1,023 = 4,095 distinct at most."
  pub edges : edges_of p.desk.heads ≤ most_fixed + (most_entries - 1)
  -- "Valid entries in force over all owners: at most 1,024."
  pub entries : in_force p.desk.routes ≤ most_entries
  -- "A duration sum is at most 2^49, so nothing saturates."
  pub spans : makespan p ≤ most_jobs * longest
  pub parts : Within (score p)
