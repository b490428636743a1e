-- The edges of a plan: the model is a function of the plan. Assumes nothing.
use Rattle.std.specs.Prelude.{ℕ, List, map}
use Rattle.rules.specs.Lists.{table}
use Rattle.rules.specs.Routes.{Plan, holders, outs}
use Rattle.rules.specs.Sizes.{most_jobs}
use Rattle.edges.specs.Edges.{Edge, Model}

-- the edges out of u, each with how many hold it
unfoldable pub edges_from : Plan → ℕ → List Edge
edges_from p u = map (λ (v : ℕ). record { to = v; times = holders p.base p.desk.routes (u, v) }) (outs p.desk.heads u)

unfoldable pub edges_of : Plan → Model
edges_of p = record { succ = table most_jobs (edges_from p); pred = table most_jobs (outs p.desk.tails) }
