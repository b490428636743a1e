-- A model that says of heads, tails and counts what a plan says is the plan's. Assumes nothing.
use Rattle.std.proofs.Common.{◌≡◌, ℕ, ◌<◌, true, List, [], ◌∷◌, map, get_or, refl, ◌∙◌}
use Rattle.rules.specs.Lists.{table, memb}
use Rattle.rules.specs.Sizes.{most_jobs}
use Rattle.rules.specs.Routes.{Plan, outs, holders}
use Rattle.rules.proofs.Tabled.{table_same, list_table}
use Rattle.edges.specs.Edges.{Model, to_of, times_in, count_of}
use Rattle.edges.proofs.Adding.{counted, row_of}
use Rattle.routes.specs.Desks.{edges_from, edges_of}
use Rattle.routes.proofs.Lists.{in_first, in_rest}
use Rattle.routes.proofs.Fitting.{Fit}

by_same : (f g : ℕ → ℕ) (l : List ℕ) → ((v : ℕ) → memb v l ≡ true → f v ≡ g v) → counted f l ≡ counted g l
by_same f g [] h = refl
by_same f g (v ∷ l) h = rw (h v (in_first v l), by_same f g l (λ w k. h w (in_rest v w l k)))

-- a fit model with a plan's heads, tails and counts is the plan's
pub model_is : (p : Plan) (m : Model) → Fit m
    → ((u : ℕ) → u < most_jobs → map to_of (get_or m.succ u []) ≡ outs p.desk.heads u)
    → ((u v : ℕ) → u < most_jobs → memb v (outs p.desk.heads u) ≡ true → count_of m u v ≡ holders p.base p.desk.routes (u, v))
    → ((v : ℕ) → v < most_jobs → get_or m.pred v [] ≡ outs p.desk.tails v)
    → m ≡ edges_of p
unfolding edges_of edges_from count_of
model_is p m f heads counts tails = λ i. record { succ = succs i; pred = preds i }
  where
    row : (u : ℕ) → u < most_jobs → get_or m.succ u [] ≡ edges_from p u
    row u h = row_of (get_or m.succ u []) (f.once u) ∙ rw (heads u h)
        (by_same (λ v. times_in v (get_or m.succ u [])) (λ v. holders p.base p.desk.routes (u, v)) (outs p.desk.heads u)
        (λ v k. counts u v h k))

    succs : m.succ ≡ table most_jobs (edges_from p)
    succs = list_table [] m.succ ∙ rw f.rows (table_same most_jobs (λ u. get_or m.succ u []) (edges_from p) row)

    preds : m.pred ≡ table most_jobs (outs p.desk.tails)
    preds = list_table [] m.pred ∙ rw f.tails.size (table_same most_jobs (λ v. get_or m.pred v []) (outs p.desk.tails) tails)
