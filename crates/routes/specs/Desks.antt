-- A plan's desk as the words of layers 1 and 2 hold it: the models of the edges and of the routes are functions of the plan. Assumes
-- nothing.
use Rattle.std.specs.Prelude.{ℕ, List}
use Rattle.rules.specs.Lists.{table}
use Rattle.rules.specs.Sizes.{most_jobs, most_owners}
use Rattle.rules.specs.Routes.{Plan, route_of, violations_of}
use Rattle.rules.specs.Scores.{assigned}
use Rattle.rules.specs.Sound.{Sound}
use Rattle.edges.specs.Edges.{Holds as EdgesHold}
unfoldable pub use Rattle.edges.specs.Plans.{edges_from, edges_of}
use Rattle.routes.specs.Store.{Model, Holds}

unfoldable pub routes_of : Plan → Model
routes_of p = record {
  routes = table most_owners (route_of p);
  violated = table most_owners (λ o. violations_of p.base o (route_of p o));
  assigned = table most_jobs (assigned p.desk.routes);
  waiting = p.desk.waiting;
}

-- the words r and e are those of a plan that calls could have left
pub record Desked (r e : List ℕ) (p : Plan) : Type 0 where
  pub routes : Holds r (routes_of p)
  pub edges : EdgesHold e (edges_of p)
  pub sound : Sound p
