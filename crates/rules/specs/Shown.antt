-- "Score", its last paragraph: the shown line_up and the shown cycle.
use Rattle.std.specs.Prelude.{ℕ, zero, suc, Bool, true, not, ◌&&◌, List, [], ◌∷◌, eqb}
use Rattle.std.proofs.Math.Option.{Option, none, some, map}
use Rattle.rules.specs.Lists.{first, nobody, less}
use Rattle.rules.specs.Graphs.{Graph}
use Rattle.rules.specs.Routes.{Plan, live}

-- of the jobs of R, which are still to place, v is one that has no predecessor among them
abbrev pub ready : ℕ → Graph → (ℕ → Bool) → ℕ → Bool
ready n E R v = R v && nobody n (λ u. R u && E u v)

abbrev pub place : Option ℕ → (ℕ → Option (List ℕ)) → Option (List ℕ)
place none f = none
place (some v) f = map (λ (l : List ℕ). v ∷ l) (f v)

-- k jobs are still to place, those of R: the lowest that is ready, and then the others
abbrev pub lineup : ℕ → Graph → ℕ → (ℕ → Bool) → Option (List ℕ)
lineup n E zero R = some []
lineup n E (suc k) R = place (first n (ready n E R)) (λ v. lineup n E k (less R v))

-- "Shown line-up: of all that lead every edge forward, the one lowest in dictionary order."
abbrev pub order : ℕ → Graph → Option (List ℕ)
order n E = lineup n E n (λ v. true)

unfoldable pub shown_line_up : Plan → Option (List ℕ)
shown_line_up p = order p.base.jobs (live p)

-- a walk of k edges leads from u to v
abbrev pub reach : ℕ → Graph → ℕ → ℕ → ℕ → Bool
reach n E zero u v = eqb u v
reach n E (suc k) u v = not (nobody n (λ w. E u w && reach n E k w v))

-- the lowest of them in dictionary order, v not counted
abbrev pub trail : ℕ → Graph → ℕ → ℕ → ℕ → List ℕ
trail n E zero u v = []
trail n E (suc k) u v = u ∷ elim (first n (λ w. E u w && reach n E k w v)) [ none ↦ [] | some w ↦ trail n E k w v ]

-- a cycle of k + 1 edges leads through v
abbrev pub closes : ℕ → Graph → ℕ → ℕ → Bool
closes n E v k = reach n E (suc k) v v

abbrev pub cycle_at : ℕ → Graph → Option ℕ → Option (List ℕ)
cycle_at n E none = none
cycle_at n E (some v) = elim (first n (closes n E v)) [ none ↦ none | some k ↦ some (trail n E (suc k) v v) ]

-- "Shown cycle: from the lowest job that lies on a cycle, a shortest cycle through it, of those the lowest in dictionary order."
abbrev pub cycle : ℕ → Graph → Option (List ℕ)
cycle n E = cycle_at n E (first n (λ v. not (nobody n (closes n E v))))

unfoldable pub shown_cycle : Plan → Option (List ℕ)
shown_cycle p = cycle p.base.jobs (live p)
