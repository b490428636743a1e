-- What a plan's routes sum to: its invalid entries, violations and assignments. Assumes nothing.
use Prim.Native.Nat.{ℕ, ◌+◌, ◌≤◌}
use native.Mathlib.Omega.{arith}
use mathlib.Core.Path.{◌≡◌, sym, ap, ◌∙◌}
use mathlib.Core.List.{List, ◌++◌}
use lib.ListN.{length, get_or, get_or-eq_default}
use Rattle.rules.specs.Lists.{table}
use Rattle.rules.specs.Sizes.{most_jobs, most_owners}
use Rattle.rules.specs.Routes.{Plan, Route, empty_route, route_of, violations_of}
use Rattle.rules.specs.Scores.{assigned, assignment, assignment_penalty, invalid_entries, violations}
use Rattle.rules.specs.Sound.{Sound}
use Rattle.rules.proofs.Bounds.{sum_places}
use Rattle.rules.proofs.Checks.{sum_append, sum_map, sum_same}
use Rattle.routes.specs.Store.{invalid_in, invalids}
use Rattle.routes.specs.Desks.{routes_of}
use Rattle.stores.specs.Sums.{total, assignments_in}
use Rattle.rules.proofs.Tabled.{table_at}
use Rattle.stores.proofs.Tabled.{sum_table, sum_beyond, violations_places}

-- an owner that is not there has an empty route
no_route : (l : List Route) (o : ℕ) → length l ≤ o → get_or l o empty_route ≡ empty_route
no_route l o h = get_or-eq_default l empty_route h

module _ (p : Plan) (S : Sound p) where
  owners_few : length p.desk.routes ≤ most_owners
  owners_few = let x = S.rows in let y = S.loaded.owners in omega arith

  invalids_sum : total (invalids (routes_of p)) ≡ invalid_entries p
  unfolding routes_of invalid_entries
  invalids_sum =
      sum_map (λ (x : ℕ). x) invalid_in (table most_owners (route_of p))
      ∙ sum_table most_owners (route_of p) invalid_in
      ∙ sum_beyond (length p.desk.routes) most_owners (λ o. invalid_in (route_of p o)) owners_few
      (λ o h. ap invalid_in (no_route p.desk.routes o h))
      ∙ sym (sum_places invalid_in empty_route p.desk.routes)

  violated_sum : total (routes_of p).violated ≡ violations p
  unfolding routes_of violations
  violated_sum =
      sum_table most_owners (λ o. violations_of p.base o (route_of p o)) (λ (x : ℕ). x)
      ∙ sum_beyond (length p.desk.routes) most_owners (λ o. violations_of p.base o (route_of p o)) owners_few
      (λ o h. ap (violations_of p.base o) (no_route p.desk.routes o h))
      ∙ sum_same (length p.desk.routes) (λ o. violations_of p.base o (route_of p o))
      (λ o. violations_of p.base (0 + o) (route_of p o))
      (λ o h. ap (λ (k : ℕ). violations_of p.base k (route_of p o)) (from_zero o))
      ∙ sym (violations_places p.base 0 p.desk.routes)
    where
      from_zero : (o : ℕ) → o ≡ 0 + o
      from_zero o = omega arith

  pub counts_sum : total (invalids (routes_of p) ++ (routes_of p).violated) ≡ invalid_entries p + violations p
  counts_sum = sum_append (λ (x : ℕ). x) (invalids (routes_of p)) (routes_of p).violated ∙ rw (invalids_sum, violated_sum)

  pub assigned_sum : assignments_in (routes_of p).assigned p.base.jobs ≡ assignment_penalty p
  unfolding assignments_in assignment_penalty routes_of
  assigned_sum = sum_same p.base.jobs (λ v. assignment (get_or (table most_jobs (assigned p.desk.routes)) v 0))
      (λ v. assignment (assigned p.desk.routes v))
      (λ v h. ap assignment (table_at most_jobs (assigned p.desk.routes) 0 v (let x = S.loaded.jobs in omega arith)))
