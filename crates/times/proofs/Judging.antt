-- A verdict on the edges' model is the plan's; so are the starts, the shown line_up and the shown cycle. Assumes nothing.
use Rattle.std.proofs.Common.{◌≡◌, ℕ, Bool, true, false, not, List, sym, refl, ap, ◌∙◌, subst}
use mathlib.Core.Option.{Option}
use Rattle.rules.specs.Lists.{is_some}
use Rattle.rules.specs.Graphs.{Graph, LineUp}
use Rattle.rules.specs.Routes.{Plan}
use Rattle.rules.specs.Scores.{start, starts, is_cyclic}
use Rattle.rules.specs.Shown.{order, cycle, shown_line_up, shown_cycle}
use Rattle.rules.specs.Sound.{Sound}
use Rattle.rules.proofs.Plans.{cyclic_no_lineup}
use Rattle.edges.specs.Plans.{edges_of}
use Rattle.graphs.specs.Graph.{at, zeros, live as live_in}
use Rattle.starts.specs.Lines.{Verdict}
use Rattle.times.specs.Words.{span_words}
use Rattle.times.proofs.Graphing.{live_fun, span_fun}

module _ (p : Plan) (S : Sound p) where
  abbrev n : ℕ
  n = p.base.jobs

  pub order_is : order n (live_in (edges_of p)) ≡ shown_line_up p
  unfolding shown_line_up
  order_is = ap {B = Option (List ℕ)} (order n) (live_fun p S)

  pub cycle_is : cycle n (live_in (edges_of p)) ≡ shown_cycle p
  unfolding shown_cycle
  cycle_is = ap {B = Option (List ℕ)} (cycle n) (live_fun p S)

  pub judged : (r : Bool) → Verdict (edges_of p) n r → is_cyclic p ≡ not r
  unfolding is_cyclic
  judged false e = ap (λ (o : Option (List ℕ)). not (is_some o)) (sym order_is ∙ e)
  judged true (l, L) = go (is_cyclic p) refl
    where
      go : (b : Bool) → is_cyclic p ≡ b → b ≡ false
      go false e = refl
      go true e = absurd ((cyclic_no_lineup p).0 e l (subst (λ (E : Graph). LineUp n E l) (live_fun p S) L))

  pub starts_are : (v : ℕ) → start n (live_in (edges_of p)) zeros (at (span_words p.base)) n v ≡ starts p v
  unfolding starts
  starts_are v = λ i. start n (live_fun p S i) zeros (span_fun p S i) n v
