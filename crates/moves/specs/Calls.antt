-- What the four moves promise, and the functions that they are made of. Assumes nothing.
use Rattle.std.specs.Prelude.{ℕ, ◌≤◌, ◌<◌, ◌≡◌, Bool, true, List, length, take, Result, Ok, Err}
use Rattle.std.proofs.lemmas.List.Edits.{sets}
use Rattle.rules.specs.declared.Plan.{Plan as Counts}
use Rattle.rules.specs.declared.Refusal.{Refusal}
use Rattle.rules.specs.declared.Refusal.TheVariants.{BadStore, ShortAnswer}
use Rattle.rules.specs.Calls.{Reply, refused, rerouted, to_move}
use Rattle.rules.specs.Moves.{Move, list_change, permutation, sublist_change, sublist_swap, good_positions, is_moved_cyclic, is_moved_quick, moved, new_route}
use Rattle.rules.specs.Routes.{Plan, jobs_of, route_of}
use Rattle.rules.specs.Sound.{Sound}
use Rattle.rules.specs.Sizes.{base_length, edges_length, most_entries, times_length}
use Rattle.edges.specs.Edges.{Holds}
use Rattle.routes.specs.Desks.{edges_of}
use Rattle.times.specs.Words.{time_words}
use Rattle.stores.specs.Headers.{open_of, counts_of}
use Rattle.stores.specs.Promise.{Held, Promise, Slices, lent_of}
use Rattle.stores.specs.Says.{places, says}
use Rattle.stores.specs.Words.{base_words}
use Rattle.moves.specs.declared.moved.Asked.{Asked}
use Rattle.moves.specs.declared.moved.Asked.TheVariants.{One, Range, Swap, Order}
use Rattle.moves.specs.declared.moved.Moved.{Moved}

-- a move: a new route of so many jobs, the quick verdict, the full verdict
abbrev pub says_moved : List ℕ → Result Moved Refusal → Reply
says_moved out = says (λ (m : Moved). rerouted (places m.length out) m.quick m.full)

-- the move that is asked for
abbrev pub move_of : Asked → Move
move_of (One s d) = list_change s d
move_of (Range a b d) = sublist_change a b d
move_of (Swap a b c d) = sublist_swap a b c d
move_of (Order a b l) = permutation a b l.now

-- ── the owner's route ──

-- the jobs are those of the owner's route, which is not broken
pub record Route (p : Plan) (o : ℕ) (jobs : List ℕ) : Type 0 where
  pub owner : o < p.base.owners
  pub whole : (route_of p o).invalid ≡ 0
  pub are : jobs ≡ jobs_of (route_of p o)

-- of every plan that the store stands for: k jobs, at the front of the words
pub record Opens (s : Slices) (o : ℕ) (words : List ℕ) (plan : Counts) (k : ℕ) : Type 0 where
  pub opens : open_of (lent_of s) s.base ≡ Ok plan
  pub owned : o < plan.owners
  pub few : k ≤ most_entries
  pub is : (p : Plan) → Held s p → Route p o (take k words)

-- or the call is refused, whatever the move
abbrev pub BeginsBy : Slices → ℕ → List ℕ → Result (Counts × ℕ) Refusal → Type 0
BeginsBy s o words (Ok b) = Opens s o words b.0 b.1
BeginsBy s o words (Err r) = (m : Move) (out : List ℕ) → Promise (to_move o m (length out)) s s out out (refused r)

pub record Begins (s : Slices) (o : ℕ) (words : List ℕ) (r : Result (Counts × ℕ) Refusal) : Type 0 where
  pub is : BeginsBy s o words r

-- ── the new route ──

pub record Places (m : Move) (old : List ℕ) (r : Bool) (new : List ℕ) : Type 0 where
  pub good : r ≡ good_positions (length old) m
  pub is : r ≡ true → new ≡ moved m old

-- ── the verdicts ──

-- what the rules answer, and the new route in the answer buffer
pub record Answers (p : Plan) (o : ℕ) (m : Move) (out : List ℕ) (r : Result Moved Refusal) (out' : List ℕ) : Type 0 where
  pub says : says_moved out' r ≡ rerouted (new_route p o m) (is_moved_quick p o m) (is_moved_cyclic p o m)
  pub answers : out' ≡ sets out 0 (new_route p o m)

-- the words of a plan
pub record Words (b e t : List ℕ) (plan : Counts) (p : Plan) : Type 0 where
  pub base : take base_length b ≡ base_words p.base
  pub edges : Holds e (edges_of p)
  pub sound : Sound p
  pub times : take times_length t ≡ time_words p
  pub counts : plan ≡ counts_of p.base

pub record Judges (s : Slices) (plan : Counts) (old new out : List ℕ) (r : Result Moved Refusal) (out' : List ℕ) : Type 0 where
  -- of any words: nothing is refused under another number
  pub twelve : (j : Refusal) → r ≡ Err j → j ≡ BadStore
  pub is : (p : Plan) → Words s.base (take edges_length s.edges) s.times plan p → (o : ℕ) (m : Move) → Route p o old → good_positions (length old) m ≡ true
      → new ≡ moved m old → Answers p o m out r out'

-- "the answer buffer has fewer places than the answer needs", or the verdicts
pub record Finishes (s : Slices) (plan : Counts) (old new out : List ℕ) (r : Result Moved Refusal) (out' : List ℕ) : Type 0 where
  pub few : length out < length new → (r ≡ Err ShortAnswer) × (out' ≡ out)
  pub enough : length new ≤ length out → Judges s plan old new out r out'
