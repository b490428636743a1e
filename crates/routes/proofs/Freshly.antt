-- After a load every route is empty: the routes' words are zeros. Assumes nothing.
use Rattle.std.proofs.Common.{◌≡◌, ℕ, zero, suc, List, [], ◌∷◌, replicate, sym, refl, ap, ◌∙◌, subst, arith}
use Rattle.rules.specs.Lists.{table, memb}
use Rattle.rules.specs.Sizes.{Base, most_jobs, most_owners, routes_length}
use Rattle.rules.specs.Routes.{Route, empty_route, route_of, fresh, jobs_of, violations_of}
use Rattle.rules.specs.Scores.{assigned}
use Rattle.rules.proofs.Ranges.{clash}
use Rattle.rules.proofs.Tabled.{table_same}
use Rattle.edges.specs.Rows.{offs, flat, pad}
use Rattle.routes.specs.Store.{Model, lay, encode, Wf, Holds}
use Rattle.routes.specs.Desks.{routes_of}
use Rattle.rules.proofs.History.{blank_route}

table_all : {A : Type 0} (n : ℕ) (a : A) → table n (λ v. a) ≡ replicate n a
table_all zero a = refl
table_all {A} (suc n) a = ap {B = List A} (λ (l : List A). a ∷ l) (table_all n a)

none_assigned : (n v : ℕ) → assigned (replicate n empty_route) v ≡ 0
none_assigned zero v = refl
none_assigned (suc n) v = let a = none_assigned n v in omega arith

-- no routes, no counts, nobody waits
abbrev blank : Model
blank = record {
  routes = replicate most_owners empty_route;
  violated = replicate most_owners 0;
  assigned = replicate most_jobs 0;
  waiting = [];
}

blank_is : (b : Base) → routes_of (fresh b) ≡ blank
unfolding routes_of fresh
blank_is b = λ i. record { routes = one i; violated = two i; assigned = three i; waiting = [] }
  where
    one : table most_owners (route_of (fresh b)) ≡ replicate most_owners empty_route
    one = table_same most_owners (route_of (fresh b)) (λ o. empty_route) (λ o h. blank_route b.owners o) ∙ table_all most_owners empty_route

    two : table most_owners (λ o. violations_of b o (route_of (fresh b) o)) ≡ replicate most_owners 0
    two = table_same most_owners (λ o. violations_of b o (route_of (fresh b) o)) (λ o. 0)
        (λ o h. ap (violations_of b o) (blank_route b.owners o)) ∙ table_all most_owners 0

    three : table most_jobs (assigned (replicate b.owners empty_route)) ≡ replicate most_jobs 0
    three = table_same most_jobs (assigned (replicate b.owners empty_route)) (λ v. 0) (λ v h. none_assigned b.owners v)
        ∙ table_all most_jobs 0

blank_words : encode blank ≡ replicate routes_length 0
unfolding lay encode offs flat pad
blank_words = refl

blank_wf : Wf blank
unfolding flat
blank_wf = record {
  owners = refl;
  room = omega arith;
  low = λ o v m. clash m (ap (λ (r : Route). memb v (jobs_of r)) (blank_route most_owners o));
  violated = refl;
  assigned = refl;
  once = tt;
  small = λ v m. clash m refl;
}

pub fresh_routes : (b : Base) → Holds (replicate routes_length 0) (routes_of (fresh b))
fresh_routes b = subst (Holds (replicate routes_length 0)) (sym (blank_is b)) (record { words = sym blank_words; wf = blank_wf })
