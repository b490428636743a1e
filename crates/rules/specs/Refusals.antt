-- "Refusal numbers": each refusal's number, what it asks, and the order of the checks.
use Rattle.std.specs.Prelude.{ℕ, Bool, true, not, cond, List, [], ◌∷◌, ltb, leb, length}
use Rattle.std.proofs.Math.Option.{Option, none, some}
use Rattle.rules.specs.declared.Refusal.{Refusal}
use Rattle.rules.specs.declared.Refusal.TheVariants.{NotLoaded, BadSize, LongDuration, BadFixed, NoSuchOwner, TooManyEntries}
use Rattle.rules.specs.declared.Refusal.TheVariants.{NoRoom, BadPositions, ShortStore, ShortAnswer, BrokenRoute, BadStore}
use Rattle.rules.specs.Lists.{is_zero}
use Rattle.rules.specs.Sizes.{Loading, most_entries, breaks_size, has_long, bad_from}
use Rattle.rules.specs.Routes.{Plan, State, route_of, put_plan, in_force}
use Rattle.rules.specs.Moves.{Move, good_positions}

abbrev pub number_of : Refusal → ℕ
number_of NotLoaded = 1
number_of BadSize = 2
number_of LongDuration = 3
number_of BadFixed = 4
number_of NoSuchOwner = 5
number_of TooManyEntries = 6
number_of NoRoom = 7
number_of BadPositions = 8
number_of ShortStore = 9
number_of ShortAnswer = 10
number_of BrokenRoute = 11
number_of BadStore = 12

-- a refusal, and the test by which it is "given exactly if"
abbrev pub Check : Type 0
Check = Refusal × Bool

-- the first whose test holds
abbrev pub first_of : List Check → Option Refusal
first_of [] = none
first_of (c ∷ l) = cond c.1 (some c.0) (first_of l)

-- 1: "the store isn't loaded (zeroed, or reset)"
abbrev pub on_loaded : State → (Plan → List Check) → List Check
on_loaded none f = (NotLoaded, true) ∷ []
on_loaded (some p) f = f p

-- 2, 3, 4: load's own
abbrev pub load_checks : Loading → List Check
load_checks l = (BadSize, breaks_size l) ∷ (LongDuration, has_long l) ∷ (BadFixed, bad_from l) ∷ []

-- 5: "the owner is not below the owner count"
abbrev pub no_owner : Plan → ℕ → Check
no_owner p o = (NoSuchOwner, leb p.base.owners o)

-- 6: "put: more than 1,024 entries"
abbrev pub too_many : List ℕ → Check
too_many l = (TooManyEntries, ltb most_entries (length l))

-- 7: "put: valid entries in force after the call, waiting owners already emptied, would be over 1,024"
abbrev pub no_room : Plan → ℕ → List ℕ → Check
no_room p o l = (NoRoom, ltb most_entries (in_force (put_plan p o l).desk.routes))

-- 11: "move: the owner's route in force was put with an invalid entry"
abbrev pub is_broken : Plan → ℕ → Check
is_broken p o = (BrokenRoute, not (is_zero (route_of p o).invalid))

-- 8: "a move's positions are bad"
abbrev pub no_positions : Plan → ℕ → Move → Check
no_positions p o m = (BadPositions, not (good_positions (length (route_of p o).stops) m))

-- 10: "the answer buffer has fewer places than the answer needs (n for verdict and for starts, the block count for blocks, the route's length
-- for a move)"
abbrev pub too_few : ℕ → ℕ → Check
too_few room needs = (ShortAnswer, ltb room needs)

-- 12: "the store holds what no calls could have left, and the call found out". "12 is never given for such a store, nor by load or reset": of
-- the states here none gives it (proofs/Refused, never_twelve). "A store counts as left by calls if it is zeroed, or if since an accepted load
-- or reset only calls have written it": such stores are the histories of Calls.
