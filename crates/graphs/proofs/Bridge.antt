-- What the edges' model says of the graph: its lists are linked. Assumes nothing.
use Prim.Native.Nat.{ℕ, ◌≤◌, ◌<◌}
use native.Mathlib.Omega.{arith}
use mathlib.Core.Path.{◌≡◌, refl, ◌∙◌}
use mathlib.Core.Bool.{true}
use mathlib.Core.List.{[]}
use lib.ListN.{get_or}
use Rattle.edges.specs.Edges.{Model, Wf, has_edge}
use Rattle.rules.specs.Lists.{memb}
use Rattle.rules.specs.Sizes.{most_jobs}
use Rattle.graphs.specs.Graph.{out_of, pre_of, live, Below}
use Rattle.graphs.proofs.Linked.{Linked}

pub live_has : (m : Model) (i j : ℕ) → live m i j ≡ has_edge m i j
unfolding out_of has_edge
live_has m i j = refl

pub linked : (n : ℕ) (m : Model) → Wf m → n ≤ most_jobs → Below n m → Linked n (out_of m) (pre_of m)
unfolding pre_of out_of
linked n m w h b = record {
  out_once = λ u hu. w.once u;
  pre_once = λ v hv. w.pred_once v;
  out_low = λ u v hu e. (b u v e).1;
  pre_low = λ u v hv e. low u v hv e;
  both = λ u v hu hv. live_has m u v ∙ w.linked u v (omega arith) (omega arith);
}
  where
    low : (u v : ℕ) → v < n → memb u (get_or m.pred v []) ≡ true → u < n
    low u v hv e = (b u v (live_has m u v ∙ w.linked u v (w.pred_small u v e) (omega arith) ∙ e)).0
