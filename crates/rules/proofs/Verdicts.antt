-- Demand 3 on a graph: it is called cyclic exactly if no line_up of all jobs leads every edge forward, and exactly if there is a cycle;
-- what is shown is then the lowest cycle, and otherwise the lowest line_up. Assumes nothing.
use Prim.Native.Nat.{ℕ}
use mathlib.Core.Path.{◌≡◌, refl, ap}
use mathlib.Core.Bool.{false}
use mathlib.Core.Option.{Option, none, some}
use mathlib.Core.Logic.{◌↔◌}
use mathlib.Core.List.{List}
use Rattle.rules.specs.Graphs.{Cycle, Graph, LineUp, LowestCycle, LowestLineUp}
use Rattle.rules.specs.Lists.{is_some}
use Rattle.rules.specs.Shown.{cycle, order}
use Rattle.rules.proofs.Cycles.{Shows, calm, circuit_cycle, cycle_circuit, cycle_shows, shows}
use Rattle.rules.proofs.Orders.{Verdict, acyclic, circuit_no_lineup, cyclic, lineup_answered, verdict}
use Rattle.rules.proofs.Ranges.{clash}

module _ (n : ℕ) (E : Graph) where
  -- what is shown of a graph: a line_up, or a cycle
  pub data Shown : Option (List ℕ) → Option (List ℕ) → Type 0 where
    line_up : {l : List ℕ} → LowestLineUp n E l → Shown (some l) none
    loop : {l : List ℕ} → LowestCycle n E l → Shown none (some l)

  pub shown : Shown (order n E) (cycle n E)
  shown = go (verdict n E) (cycle_shows n E)
    where
      go : {o c : Option (List ℕ)} → Verdict n E o → Shows n E c → Shown o c
      go (acyclic l L r) (shows C) = absurd (circuit_no_lineup n E l L.is (cycle_circuit n E C.is))
      go (acyclic l L r) (calm f) = line_up L
      go (cyclic c) (shows C) = loop C
      go (cyclic c) (calm f) = let (v, l, C) = circuit_cycle n E c in absurd (f v l C)

  -- cyclic exactly if no line_up of all jobs leads every edge forward
  pub no_order : (is_some (order n E) ≡ false) ↔ ((l : List ℕ) → LineUp n E l → ⊥)
  no_order = (λ e l L. (let (m, q, M) = lineup_answered n E l L in clash (ap is_some q) e), λ f. go f shown)
    where
      go : ((l : List ℕ) → LineUp n E l → ⊥) → {o c : Option (List ℕ)} → Shown o c → is_some o ≡ false
      go f (line_up L) = absurd (f _ L.is)
      go f (loop C) = refl

  -- and exactly if there is a cycle
  pub order_cycle : (is_some (order n E) ≡ false) ↔ ((v : ℕ) × (l : List ℕ) × Cycle n E v l)
  order_cycle = (λ e. go e shown, λ (v, l, C). back C (verdict n E))
    where
      go : {o c : Option (List ℕ)} → is_some o ≡ false → Shown o c → (v : ℕ) × (l : List ℕ) × Cycle n E v l
      go e (line_up L) = clash refl e
      go e (loop {l} C) = (C.job, l, C.is)

      back : {v : ℕ} {l : List ℕ} → Cycle n E v l → {o : Option (List ℕ)} → Verdict n E o → is_some o ≡ false
      back C (acyclic l L r) = absurd (circuit_no_lineup n E l L.is (cycle_circuit n E C))
      back C (cyclic c) = refl
