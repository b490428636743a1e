-- The calls: what each answers, and what it leaves. `step` decides one call, `run` a history.
use Rattle.std.specs.Prelude.{ℕ, Bool, List, [], ◌∷◌, length}
use Rattle.std.proofs.Math.Option.{Option, none, some}
use Rattle.rules.specs.declared.Score.{Score}
use Rattle.rules.specs.declared.Report.{Report}
use Rattle.rules.specs.declared.Block.{Block}
use Rattle.rules.specs.declared.Refusal.{Refusal}
use Rattle.rules.specs.declared.Refusal.TheVariants.{NotLoaded, ShortStore}
use Rattle.rules.specs.Lists.{table}
use Rattle.rules.specs.Sizes.{Lent, Loading, base_of, is_short}
use Rattle.rules.specs.Refusals.{Check, first_of, on_loaded, load_checks, no_owner, too_many, no_room, is_broken, no_positions, too_few}
use Rattle.rules.specs.Routes.{Plan, State, route_of, fresh, wait, put_plan}
use Rattle.rules.specs.Scores.{score, minus_of, no_change, matches_of, reported_start}
use Rattle.rules.specs.Shown.{shown_line_up, shown_cycle}
use Rattle.rules.specs.Reports.{put_report}
use Rattle.rules.specs.Blocks.{blocks}
use Rattle.rules.specs.Moves.{Move, new_route, is_moved_quick, is_moved_cyclic}

-- what is asked; `room` is the number of places in the answer buffer
pub data Ask : Type 0 where
  to_load : Loading → Ask
  to_reset : Ask
  to_retract : (owner : ℕ) → Ask
  to_put : (owner : ℕ) (entries : List ℕ) → Ask
  to_score : Ask
  to_verdict : (room : ℕ) → Ask
  to_starts : (room : ℕ) → Ask
  to_blocks : (owners : List ℕ) (room : ℕ) → Ask
  to_move : (owner : ℕ) → Move → (room : ℕ) → Ask

-- a call: the store's slices that it is lent, and what is asked
pub record Call : Type 0 where
  pub lent : Lent
  pub asks : Ask

pub data Reply : Type 0 where
  refused : Refusal → Reply
  -- load: the score; reset and retract: no change
  scored : Score → Reply
  -- put: the score change and the report
  changed : Score → Report → Reply
  -- score: the score and the match count
  counted : Score → (matches : ℕ) → Reply
  -- verdict, starts, blocks: what the answer buffer holds
  lined_up : List ℕ → Reply
  cycled : List ℕ → Reply
  started : List ℕ → Reply
  blocked : List Block → Reply
  -- a move: the new route, quick check, full check
  rerouted : List ℕ → (quick full : Bool) → Reply

-- "Order: 9, 1 (not for load and reset), 2, 3, 4, 5, 6, 7, 11, 8, 10."
abbrev pub checks_of : State → Ask → List Check
checks_of s (to_load l) = load_checks l
checks_of s to_reset = []
checks_of s (to_retract o) = on_loaded s (λ p. no_owner p o ∷ [])
checks_of s (to_put o l) = on_loaded s (λ p. no_owner p o ∷ too_many l ∷ no_room p o l ∷ [])
checks_of s to_score = on_loaded s (λ p. [])
checks_of s (to_verdict k) = on_loaded s (λ p. too_few k p.base.jobs ∷ [])
checks_of s (to_starts k) = on_loaded s (λ p. too_few k p.base.jobs ∷ [])
checks_of s (to_blocks os k) = on_loaded s (λ p. too_few k (length (blocks p os)) ∷ [])
checks_of s (to_move o m k) = on_loaded s (λ p. no_owner p o ∷ is_broken p o ∷ no_positions p o m ∷ too_few k (length (route_of p o).stops) ∷ [])

unfoldable pub refusal : State → Call → Option Refusal
refusal s c = first_of ((ShortStore, is_short c.lent) ∷ checks_of s c.asks)

pub record Turn : Type 0 where
  pub state : State
  pub reply : Reply

-- what an accepted call does to a plan; without one it was refused
abbrev pub with_plan : State → (Plan → Turn) → Turn
with_plan none f = record { state = none; reply = refused NotLoaded }
with_plan (some p) f = f p

-- the store is read, and stays
abbrev pub reads : State → (Plan → Reply) → Turn
reads s f = with_plan s (λ p. record { state = some p; reply = f p })

abbrev pub verdict_of : Option (List ℕ) → Option (List ℕ) → Reply
verdict_of (some l) c = lined_up l
verdict_of none (some c) = cycled c
verdict_of none none = cycled []

abbrev pub loads : Plan → Turn
loads p = record { state = some p; reply = scored (score p) }

-- "Returns score after minus score before, part by part."
abbrev pub puts : Plan → Plan → Report → Turn
puts p q r = record { state = some q; reply = changed (minus_of (score q) (score p)) r }

-- what an accepted call leaves and answers
unfoldable pub accepted : State → Ask → Turn
accepted s (to_load l) = loads (fresh (base_of l))
accepted s to_reset = record { state = none; reply = scored no_change }
accepted s (to_retract o) = with_plan s (λ p. record { state = some (wait o p); reply = scored no_change })
accepted s (to_put o l) = with_plan s (λ p. puts p (put_plan p o l) (put_report p o l))
accepted s to_score = reads s (λ p. counted (score p) (matches_of (score p)))
accepted s (to_verdict k) = reads s (λ p. verdict_of (shown_line_up p) (shown_cycle p))
accepted s (to_starts k) = reads s (λ p. started (table p.base.jobs (reported_start p)))
accepted s (to_blocks os k) = reads s (λ p. blocked (blocks p os))
accepted s (to_move o m k) = reads s (λ p. rerouted (new_route p o m) (is_moved_quick p o m) (is_moved_cyclic p o m))

-- "Refusals 1 to 11 change nothing: waiting marks, store and answer buffer stay, and the score change is zero."
abbrev pub decide : Option Refusal → State → Turn → Turn
decide none s t = t
decide (some r) s t = record { state = s; reply = refused r }

unfoldable pub step : State → Call → Turn
step s c = decide (refusal s c) s (accepted s c.asks)

abbrev pub reply : State → Call → Reply
reply s c = (step s c).reply

-- a history of calls, one after the other
abbrev pub run : State → List Call → State
run s [] = s
run s (c ∷ cs) = run (step s c).state cs

-- "the score change is zero" where a call is refused
abbrev pub change_of : Reply → Score
change_of (refused r) = no_change
change_of (scored s) = s
change_of (changed s r) = s
change_of (counted s k) = no_change
change_of (lined_up l) = no_change
change_of (cycled l) = no_change
change_of (started l) = no_change
change_of (blocked l) = no_change
change_of (rerouted l q f) = no_change
