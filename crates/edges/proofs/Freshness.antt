-- The fixed list's edges are those of a plan that was just loaded. Assumes nothing.
use Prim.Native.Nat.{ℕ, zero, suc}
use mathlib.Core.Path.{◌≡◌, refl}
use mathlib.Core.List.{List, map}
use native.Mathlib.Omega.{arith}
use lib.ListN.{replicate}
use Rattle.rules.specs.Lists.{Pair, sum_of, table, times}
use Rattle.rules.specs.Routes.{empty_route, fresh, links_of, outs}
use Rattle.rules.specs.Sizes.{Base, most_jobs, pair_up, valid_fixed}
use Rattle.edges.specs.Edges.{Holds}
use Rattle.edges.specs.Plans.{edges_from, edges_of}
use Rattle.edges.specs.Fixed.{Written, fixed_model}
use Rattle.rules.proofs.History.{fresh_holders}

-- no route, no link
no_links : (n : ℕ) (e : Pair) → sum_of (λ r. times e (links_of r)) (replicate n empty_route) ≡ 0
no_links zero e = refl
no_links (suc n) e = let z = no_links n e in omega arith

pub fresh_edges : (b : Base) → fixed_model b.jobs (valid_fixed b) ≡ edges_of (fresh b)
unfolding fixed_model edges_of edges_from fresh
fresh_edges b = λ i. record {
  succ = table most_jobs (λ u.
      map (λ v. record { to = v; times = fresh_holders b (u, v) i }) (outs (fresh b).desk.heads u));
  pred = table most_jobs (outs (fresh b).desk.tails);
}

-- the words that hold the whole fixed list hold the plan
pub fresh_held : (b : Base) (f g e : List ℕ) → b.fixed ≡ pair_up f g → Written f g b.jobs e → Holds e (edges_of (fresh b))
fresh_held b f g e q W = rw (← fresh_edges b, q) W
