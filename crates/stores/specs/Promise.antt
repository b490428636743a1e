-- What a public call promises: the reply, every word of every lent slice afterwards, and the answer buffer, all told by the rules from the
-- state that the store stands for. Assumes nothing.
use Rattle.std.specs.Prelude.{ℕ, ◌≡◌, true, false, List, [], ◌∷◌, ◌++◌, leb, length, get_or, set, take, drop, Result, Ok, Err}
use Rattle.std.proofs.Math.Option.{Option, none, some}
use Rattle.std.proofs.lemmas.List.Edits.{sets}
use Rattle.rules.specs.declared.Plan.{Plan as Counts}
use Rattle.rules.specs.declared.Refusal.{Refusal}
use Rattle.rules.specs.declared.Refusal.TheVariants.{NoSuchOwner, BadStore}
use Rattle.rules.specs.Lists.{memb}
use Rattle.rules.specs.Sizes.{Lent, is_short, base_length, edges_length, routes_length, spans_length, times_length}
use Rattle.rules.specs.Routes.{Plan, State}
use Rattle.rules.specs.Calls.{Ask, Call, Reply, refused, scored, changed, counted, lined_up, cycled, started, blocked, rerouted, refusal}
use Rattle.rules.specs.Calls.{to_load, to_reset, to_retract, to_put, to_score, to_verdict, to_starts, to_blocks, to_move, change_of, reply, step}
use Rattle.rules.specs.Scores.{no_change}
use Rattle.rules.specs.Refusals.{Check, first_of, too_many, too_few, number_of}
use Rattle.edges.specs.Edges.{encode as edge_words}
use Rattle.routes.specs.Store.{encode as route_words}
use Rattle.routes.specs.Desks.{edges_of, routes_of, Desked}
use Rattle.times.specs.Words.{span_words, time_words}
use Rattle.stores.specs.Words.{base_words}
use Rattle.stores.specs.Headers.{open_of}

-- what the five slices hold that a call is lent
pub record Slices : Type 0 where
  pub base : List ℕ
  pub spans : List ℕ
  pub edges : List ℕ
  pub routes : List ℕ
  pub times : List ℕ

abbrev pub slices : List ℕ → List ℕ → List ℕ → List ℕ → List ℕ → Slices
slices base spans edges routes times = record { base = base; spans = spans; edges = edges; routes = routes; times = times }

abbrev pub lent_of : Slices → Lent
lent_of s = record {
  base = length s.base;
  spans = length s.spans;
  edges = length s.edges;
  routes = length s.routes;
  times = length s.times;
}

abbrev pub call_of : Ask → Slices → Call
call_of a s = record { lent = lent_of s; asks = a }

-- a slice may be longer than its constant: its first words are those of the plan
pub record Held (s : Slices) (p : Plan) : Type 0 where
  pub base : take base_length s.base ≡ base_words p.base
  pub spans : take spans_length s.spans ≡ span_words p.base
  pub desk : Desked (take routes_length s.routes) (take edges_length s.edges) p
  pub times : take times_length s.times ≡ time_words p

-- the store stands for a state: not loaded (its mark is 0, and the other words are free), or a plan
abbrev pub Stands : Slices → State → Type 0
Stands s none = get_or s.base 0 0 ≡ 0
Stands s (some p) = Held s p

-- unless a slice is too short, which is all that counts then
abbrev pub StandsFor : Slices → State → Type 0
StandsFor s t = is_short (lent_of s) ≡ false → Stands s t

-- the slices once a plan is written; what lies beyond the constants stays
unfoldable pub holding : Plan → Slices → Slices
holding p s = record {
  base = base_words p.base ++ drop base_length s.base;
  spans = span_words p.base ++ drop spans_length s.spans;
  edges = edge_words (edges_of p) ++ drop edges_length s.edges;
  routes = route_words (routes_of p) ++ drop routes_length s.routes;
  times = time_words p ++ drop times_length s.times;
}

-- a store that is not loaded any more: its mark is 0
unfoldable pub unmarked : Slices → Slices
unmarked s = record { base = set s.base 0 0; spans = s.spans; edges = s.edges; routes = s.routes; times = s.times }

abbrev pub leaving : State → Slices → Slices
leaving none s = unmarked s
leaving (some p) s = holding p s

-- "Refusals 1 to 11 change nothing"
abbrev pub unless : Option Refusal → Slices → Slices → Slices
unless none s s' = s'
unless (some r) s s' = s

-- every word of the slices after a call, in the state t
unfoldable pub after : State → Call → Slices → Slices
after t c s = unless (refusal t c) s (leaving (step t c).state s)

-- what is written into the answer buffer: "Answer places beyond the answer are not touched."
abbrev pub answer_of : Reply → List ℕ
answer_of (refused r) = []
answer_of (scored s) = []
answer_of (changed s r) = []
answer_of (counted s k) = []
answer_of (lined_up l) = l
answer_of (cycled l) = l
answer_of (started l) = l
answer_of (blocked l) = []
answer_of (rerouted l q f) = l

-- the reply r, the slices s' and the answer buffer out' are what the rules say of a call in the state t
pub record Decided (t : State) (a : Ask) (s s' : Slices) (out out' : List ℕ) (r : Reply) : Type 0 where
  pub says : r ≡ reply t (call_of a s)
  pub leaves : s' ≡ after t (call_of a s) s
  pub answers : out' ≡ sets out 0 (answer_of r)

-- ── of any contents ──

-- 5, 6 and 10, where the counts of the header tell them
abbrev pub checks_by : Counts → Ask → List Check
checks_by c (to_load l) = []
checks_by c to_reset = []
checks_by c (to_retract o) = (NoSuchOwner, leb c.owners o) ∷ []
checks_by c (to_put o l) = (NoSuchOwner, leb c.owners o) ∷ too_many l ∷ []
checks_by c to_score = []
checks_by c (to_verdict k) = too_few k c.jobs ∷ []
checks_by c (to_starts k) = too_few k c.jobs ∷ []
checks_by c (to_blocks os k) = []
checks_by c (to_move o m k) = (NoSuchOwner, leb c.owners o) ∷ []

-- what lengths and header refuse, whatever the other words are: 9, 1, then those; 12 for a header that no load leaves
abbrev pub refused_by : Result Counts Refusal → Ask → Option Refusal
refused_by (Err r) a = some r
refused_by (Ok c) a = first_of (checks_by c a)

-- the numbers that the other words may still give, besides 12
abbrev pub later_of : Ask → List ℕ
later_of (to_load l) = []
later_of to_reset = []
later_of (to_retract o) = []
later_of (to_put o l) = 7 ∷ []
later_of to_score = []
later_of (to_verdict k) = []
later_of (to_starts k) = []
later_of (to_blocks os k) = 10 ∷ []
later_of (to_move o m k) = 11 ∷ 8 ∷ 10 ∷ []

-- bad input has its number exactly if lengths and header say so, and a call refused under 1 to 11 alters neither store nor answer buffer
pub record Heeds {A : Type 0} (a : Ask) (s s' : Slices) (out out' : List A) (r : Reply) : Type 0 where
  pub first : (k : Refusal) → refused_by (open_of (lent_of s) s.base) a ≡ some k → r ≡ refused k
  pub later : refused_by (open_of (lent_of s) s.base) a ≡ none → (k : Refusal) → r ≡ refused k → memb (number_of k) (12 ∷ later_of a) ≡ true
  pub stays : (k : Refusal) → r ≡ refused k → (k ≡ BadStore → ⊥) → (s' ≡ s) × (out' ≡ out)
  -- "returns a zero score change", by 12 too
  pub zero : (k : Refusal) → r ≡ refused k → change_of r ≡ no_change

-- of every state that the store stands for, and of any contents
pub record Promise (a : Ask) (s s' : Slices) (out out' : List ℕ) (r : Reply) : Type 0 where
  pub decides : (t : State) → StandsFor s t → Decided t a s s' out out' r
  pub heeds : Heeds a s s' out out' r

-- a call that only reads the store, and has no answer buffer
abbrev pub Reads : Ask → Slices → Reply → Type 0
Reads a s r = Promise a s s [] [] r

-- load and reset take whatever was there: they promise the same of any contents
pub record AnyPromise (a : Ask) (s s' : Slices) (r : Reply) : Type 0 where
  pub decides : (t : State) → Decided t a s s' [] [] r
  -- "returns a zero score change"
  pub zero : (k : Refusal) → r ≡ refused k → change_of r ≡ no_change
