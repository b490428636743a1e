-- What an answer means, as the rules have it: "The definition gives this paper's number and values for each of the enum's cases."
-- Assumes nothing.
use Rattle.std.specs.Prelude.{ℕ, List, get_or, Result, Ok, Err}
use Rattle.rules.specs.declared.Refusal.{Refusal}
use Rattle.rules.specs.declared.Score.{Score}
use Rattle.rules.specs.Lists.{table}
use Rattle.rules.specs.Scores.{no_change}
use Rattle.rules.specs.Calls.{Reply, refused, scored, counted, started}

-- any call: f says what the answer means, unless the call is refused
abbrev pub says : {A : Type 0} → (A → Reply) → Result A Refusal → Reply
says f (Ok x) = f x
says f (Err r) = refused r

-- load
abbrev pub says_scored : Result Score Refusal → Reply
says_scored = says scored

-- score
abbrev pub says_counted : Result (Score × ℕ) Refusal → Reply
says_counted = says (λ a. counted a.0 a.1)

-- reset and retract: no change
abbrev pub says_ended : Result (Unit {0}) Refusal → Reply
says_ended = says (λ _. scored no_change)

-- the first n places of the answer buffer: n numbers (a place that it has not counts as 0)
unfoldable pub places : ℕ → List ℕ → List ℕ
places n out = table n (λ v. get_or out v 0)

-- starts: so many of them
abbrev pub says_started : List ℕ → Result ℕ Refusal → Reply
says_started out = says (λ n. started (places n out))
