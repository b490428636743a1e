-- "Sizes and inputs": what load is given, and what it keeps.
use Rattle.std.specs.Prelude.{ℕ, ◌^◌, Bool, false, not, ◌&&◌, ◌||◌, List, [], ◌∷◌, eqb, ltb, leb, length, get_or}
use Rattle.rules.specs.Lists.{is_zero, any_of, keep, Pair}

-- "Jobs (the Rust's nodes) n: 0 to 512. Owners: 0 to 64. Fixed list: at most 3,072 pairs (from, to), `from` never falling along the list."
-- "These sizes are constants belonging to the plan type": `Plan`'s associated constants; its contracts say that they are these.
abbrev pub most_jobs : ℕ
most_jobs = 512

abbrev pub most_owners : ℕ
most_owners = 64

abbrev pub most_fixed : ℕ
most_fixed = 3072

-- "A route argument: at most 1,024 entries, valid or not. Valid entries in force over all owners: at most 1,024."
abbrev pub most_entries : ℕ
most_entries = 1024

-- "Durations: n numbers, each at most 2^40."
abbrev pub longest : ℕ
longest = 2 ^ 40

-- "4,294,967,295 means none for that job"
abbrev pub nobodys : ℕ
nobodys = 4294967295

-- "Edges always fit: 3,072 + 1,023 = 4,095 distinct at most. A duration sum is at most 2^49, so nothing saturates.": theorems, in proofs/Bounds

-- "The store is one or more lent slices, none needing over 64 KiB": the lengths of the five that a call is lent
pub record Lent : Type 0 where
  pub base : ℕ
  pub spans : ℕ
  pub edges : ℕ
  pub routes : ℕ
  pub times : ℕ

-- how many words each of them has at least: the constants of docs/LIMITS.md
abbrev pub base_length : ℕ
base_length = 6661

abbrev pub spans_length : ℕ
spans_length = most_jobs

abbrev pub edges_length : ℕ
edges_length = 13314

abbrev pub routes_length : ℕ
routes_length = 1794

abbrev pub times_length : ℕ
times_length = 514

-- what load is given; the fixed list is two lists of one length
pub record Loading : Type 0 where
  pub jobs : ℕ
  pub owners : ℕ
  pub durations : List ℕ
  pub expected : List ℕ
  pub from : List ℕ
  pub to : List ℕ

-- what an accepted load keeps
pub record Base : Type 0 where
  pub jobs : ℕ
  pub owners : ℕ
  pub durations : List ℕ
  pub expected : List ℕ
  pub fixed : List Pair

abbrev pub pair_up : List ℕ → List ℕ → List Pair
pair_up [] m = []
pair_up (a ∷ l) [] = []
pair_up (a ∷ l) (b ∷ m) = (a, b) ∷ pair_up l m

unfoldable pub base_of : Loading → Base
base_of l = record { jobs = l.jobs; owners = l.owners; durations = l.durations; expected = l.expected; fixed = pair_up l.from l.to }

abbrev pub duration : Base → ℕ → ℕ
duration b v = get_or b.durations v 0

-- "Expected owners: a table of 0 or n numbers (empty: none stated)"
abbrev pub expected_of : Base → ℕ → ℕ
expected_of b v = get_or b.expected v nobodys

-- the fixed pairs that give an edge: "with `to` below n"
abbrev pub valid_fixed : Base → List Pair
valid_fixed b = keep (λ e. ltb e.1 b.jobs) b.fixed

-- ── what the refusals of load ask ──

abbrev pub fits_sizes : ℕ → ℕ → ℕ → Bool
fits_sizes jobs owners fixed = not (ltb most_jobs jobs) && (not (ltb most_owners owners) && not (ltb most_fixed fixed))

-- 2: "n, owners, fixed list or a table's length breaks a size above"
unfoldable pub breaks_size : Loading → Bool
breaks_size l =
    not (fits_sizes l.jobs l.owners (length l.from))
    || (not (eqb (length l.from) (length l.to))
    || (not (eqb (length l.durations) l.jobs)
    || (not (is_zero (length l.expected)) && not (eqb (length l.expected) l.jobs))))

abbrev pub is_long : ℕ → Bool
is_long d = ltb longest d

-- 3: "a duration is over 2^40"
unfoldable pub has_long : Loading → Bool
has_long l = any_of is_long l.durations

-- 4: "a fixed `from` is n or more, or falls along the list"
abbrev pub falls : ℕ → List ℕ → Bool
falls a [] = false
falls a (b ∷ l) = ltb b a || falls b l

unfoldable pub bad_from : Loading → Bool
bad_from l = any_of (leb l.jobs) l.from || falls 0 l.from

-- 9: "a store slice is shorter than its constant in docs/LIMITS.md"
abbrev pub is_short : Lent → Bool
is_short s =
    ltb s.base base_length
    || (ltb s.spans spans_length || (ltb s.edges edges_length || (ltb s.routes routes_length || ltb s.times times_length)))
