-- What a load checks and writes. Assumes nothing.
use Rattle.std.specs.Prelude.{ℕ, Bool, not, ◌&&◌, ◌||◌, List, eqb, leb, Result, Ok, Err}
use Rattle.std.proofs.Math.Option.{Option, none, some}
use Rattle.rules.specs.declared.Refusal.{Refusal}
use Rattle.rules.specs.Lists.{is_zero, any_of}
use Rattle.rules.specs.Sizes.{Loading, fits_sizes, falls}
use Rattle.refresh.specs.declared.load.Loading.{Loading as Lent}

abbrev pub loading : ℕ → ℕ → List ℕ → List ℕ → List ℕ → List ℕ → Loading
loading jobs owners durations expected from to = record {
  jobs = jobs;
  owners = owners;
  durations = durations;
  expected = expected;
  from = from;
  to = to;
}

-- what a load is lent
abbrev pub loads : Lent → Loading
loads l = loading l.jobs l.owners l.durations.now l.expected.now l.from.now l.to.now

-- 2, told from the counts and the lengths
unfoldable pub breaks_by : ℕ → ℕ → ℕ → ℕ → ℕ → ℕ → Bool
breaks_by jobs owners durations expected from to =
    not (fits_sizes jobs owners from)
    || (not (eqb from to) || (not (eqb durations jobs) || (not (is_zero expected) && not (eqb expected jobs))))

-- 4, from the number `last` on
unfoldable pub bad_after : ℕ → ℕ → List ℕ → Bool
bad_after n last l = any_of (leb n) l || falls last l

abbrev pub checked_as : Option Refusal → Result (Unit {0}) Refusal
checked_as none = Ok tt
checked_as (some r) = Err r
