-- The score, as the words of a store tell it. Assumes nothing.
use Rattle.std.specs.Prelude.{ℕ, ◌+◌, ◌*◌, ◌≤◌, ◌<◌, ◌^◌, ◌≡◌, cond, List, ◌++◌, get_or, length, take, ltb, Result, Ok, Err}
use Rattle.rules.specs.declared.Score.{Score}
use Rattle.rules.specs.declared.Refusal.{Refusal}
use Rattle.rules.specs.declared.Refusal.TheVariants.{BadStore}
use Rattle.rules.specs.Lists.{sum_of, sum_below}
use Rattle.rules.specs.Scores.{assignment, score_of, Within, limit}
use Rattle.rules.specs.Sizes.{routes_length}
use Rattle.routes.specs.Store.{Model, Holds, invalids}
use Rattle.times.specs.Words.{cyclic_in, makespan_in}

-- a row, summed
abbrev pub total : List ℕ → ℕ
total l = sum_of (λ (x : ℕ). x) l

pub record Summed (l : List ℕ) (r : ℕ) : Type 0 where
  pub is : r ≡ total l
  pub few : r ≤ 65535 * length l

-- of the first n jobs, where a says how often each is in force
unfoldable pub assignments_in : List ℕ → ℕ → ℕ
assignments_in a n = sum_below n (λ v. assignment (get_or a v 0))

pub record Tallied (a : List ℕ) (n r : ℕ) : Type 0 where
  pub is : r ≡ assignments_in a n
  pub few : r ≤ 65535 * n

-- all but the cycle penalty: invalid fixed pairs; invalid entries and violations; assignments
unfoldable pub penalty_in : List ℕ → Model → ℕ → ℕ
penalty_in base m n = get_or base 4 0 + total (invalids m ++ m.violated) + assignments_in m.assigned n

pub record Penal (base routes : List ℕ) (n r : ℕ) : Type 0 where
  pub is : (m : Model) → Holds routes m → r ≡ penalty_in base m n
  pub few : r < 2 ^ 40

unfoldable pub scored_in : List ℕ → Model → List ℕ → ℕ → Result Score Refusal
scored_in base m times n =
    cond (ltb limit (makespan_in times)) (Err BadStore)
    (Ok (score_of (penalty_in base m n + cond (cyclic_in times) n 0) (makespan_in times)))

-- a score that is answered is within the limits
abbrev pub Mild : Result Score Refusal → Type 0
Mild (Ok s) = Within s
Mild (Err r) = Unit {0}

-- what the words tell if the routes hold a model; of any words: no other refusal than 12
pub record ScoredBy (base routes times : List ℕ) (n : ℕ) (r : Result Score Refusal) : Type 0 where
  pub is : (m : Model) → Holds (take routes_length routes) m → r ≡ scored_in base m times n
  pub twelve : (k : Refusal) → r ≡ Err k → k ≡ BadStore
  pub within : Mild r
