-- What a header says, and what is known of a store that opens. Assumes nothing.
use Rattle.std.specs.Prelude.{ℕ, ◌≤◌, cond, List, get_or, length, eqb, Result, Ok, Err}
use Rattle.rules.specs.declared.Plan.{Plan}
use Rattle.rules.specs.declared.Refusal.{Refusal}
use Rattle.rules.specs.declared.Refusal.TheVariants.{NotLoaded, BadStore, ShortStore}
use Rattle.rules.specs.Sizes.{Base, Lent, is_short, fits_sizes, base_length, spans_length, edges_length, routes_length, times_length}
use Rattle.rules.specs.Sizes.{most_jobs, most_owners, most_fixed}

-- jobs, owners and fixed pairs, as the base says
abbrev pub plan_at : List ℕ → Plan
plan_at l = record { jobs = get_or l 1 0; owners = get_or l 2 0; fixed = get_or l 3 0 }

-- and as a loaded plan has them
abbrev pub counts_of : Base → Plan
counts_of b = record { jobs = b.jobs; owners = b.owners; fixed = length b.fixed }

-- what a base says of its plan, whatever the words are
unfoldable pub header_of : List ℕ → Result Plan Refusal
header_of l =
    cond (eqb (get_or l 0 0) 0) (Err NotLoaded)
    (cond (eqb (get_or l 0 0) 1)
    (cond (fits_sizes (get_or l 1 0) (get_or l 2 0) (get_or l 3 0)) (Ok (plan_at l)) (Err BadStore))
    (Err BadStore))

-- the lengths of five slices
abbrev pub lens : ℕ → ℕ → ℕ → ℕ → ℕ → Lent
lens base spans edges routes times = record { base = base; spans = spans; edges = edges; routes = routes; times = times }

-- a slice that is too short comes before all else
unfoldable pub open_of : Lent → List ℕ → Result Plan Refusal
open_of s l = cond (is_short s) (Err ShortStore) (header_of l)

-- slices that have room for every word
pub record Long (s : Lent) : Type 0 where
  pub base : base_length ≤ s.base
  pub spans : spans_length ≤ s.spans
  pub edges : edges_length ≤ s.edges
  pub routes : routes_length ≤ s.routes
  pub times : times_length ≤ s.times

-- a store that opens has room, and its plan's counts are within their sizes
pub record Opened (s : Lent) (plan : Plan) : Type 0 where
  pub long : Long s
  pub jobs : plan.jobs ≤ most_jobs
  pub owners : plan.owners ≤ most_owners
  pub fixed : plan.fixed ≤ most_fixed
