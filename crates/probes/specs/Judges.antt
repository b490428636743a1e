-- What both checks of a new route promise. Assumes nothing.
use Rattle.std.specs.Prelude.{◌≡◌, ℕ, ◌<◌, Bool, true, false, List}
use Rattle.rules.specs.Graphs.{Graph}
use Rattle.rules.specs.Moves.{full_check, neighbours, occurs, on, quick_check, stays}
use Rattle.rules.specs.Sizes.{pair_up}
use Rattle.edges.specs.Edges.{Model, Holds}
use Rattle.graphs.specs.Graph.{Below, live}
use Rattle.probes.specs.Fulls.{OnGraph, on_edge}
use Rattle.probes.specs.Pairs.{Rising}
use Rattle.probes.specs.Quicks.{turning}
use Rattle.probes.specs.declared.checks.Checked.{Checked}
use Rattle.probes.specs.declared.chain.Chain.{Chain}

abbrev pub verdicts : Bool → Bool → Checked
verdicts q f = record { quick = q; full = f }

-- of what is on, whatever it is
pub record Both (e : List ℕ) (off plus : Chain) (jobs : List ℕ) (n : ℕ) (was : Bool) (r : Checked) : Type 0 where
  pub is : (m : Model) → OnGraph e off plus n m
      → (was ≡ false → turning m off plus jobs n ≡ full_check n (on_edge m off plus))
      → (turning m off plus jobs n ≡ true → full_check n (on_edge m off plus) ≡ true)
      → r ≡ verdicts (turning m off plus jobs n) (full_check n (on_edge m off plus))

-- the rules' graphs of a move, from the old jobs and the new
abbrev pub on_for : List ℕ → List ℕ → Model → Graph → Graph
on_for old new m fix = on (neighbours old) (neighbours new) (live m) fix

abbrev pub stays_for : List ℕ → List ℕ → Model → Graph → Graph
stays_for old new m fix = stays (neighbours old) (neighbours new) (live m) fix

-- was: the live edges hold a cycle; if they do not, the two checks agree
pub record Checks (from to e old new : List ℕ) (n : ℕ) (was : Bool) (r : Checked) : Type 0 where
  pub is : (m : Model) (fix : Graph) → Holds e m → Below n m → Rising from
      → ((u v : ℕ) → u < n → v < n → fix u v ≡ occurs (pair_up from to) u v)
      → (was ≡ false → quick_check n (on_for old new m fix) (stays_for old new m fix) ≡ full_check n (on_for old new m fix))
      → r ≡ verdicts (quick_check n (on_for old new m fix) (stays_for old new m fix)) (full_check n (on_for old new m fix))
