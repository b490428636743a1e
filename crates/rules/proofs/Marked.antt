-- The twelve marked plans, W1 to W12, as one table; the run of "Program lines", reply by reply; and refusals by their numbers.
-- The checker computes all three. Assumes nothing.
use Prim.Native.Nat.{ℕ, ◌-◌}
use mathlib.Core.Path.{◌≡◌, refl}
use mathlib.Core.Bool.{Bool, true, false, not, ◌&&◌}
use mathlib.Core.Option.{none, some}
use mathlib.Core.List.{List, [], ◌∷◌, map}
use lib.Dec.{eqb}
use lib.IntN.{ℤ, pos, neg_ℤ}
use lib.ListN.{replicate}
use Rattle.rules.specs.declared.Score.{Score}
use Rattle.rules.specs.declared.Report.TheVariants.{Skipped, Full, CycleFound, Incremental}
use Rattle.rules.specs.declared.Refusal.TheVariants.{NoSuchOwner}
use Rattle.rules.specs.Blocks.{arc, blocks, blocks_of, critical, latest}
use Rattle.rules.specs.Calls.{Ask, Call, Reply, Turn, accepted, blocked, changed, counted, cycled, lined_up, refusal, refused}
use Rattle.rules.specs.Calls.{reply, rerouted, run, scored, started, step, to_blocks, to_load, to_move, to_put, to_reset}
use Rattle.rules.specs.Calls.{to_retract, to_score, to_starts, to_verdict}
use Rattle.rules.specs.Lists.{Pair, is_some}
use Rattle.rules.specs.Moves.{good_positions, list_change}
use Rattle.rules.specs.Refusals.{number_of}
use Rattle.rules.specs.Reports.{put_report, put_walk, seeds}
use Rattle.rules.specs.Routes.{Plan, State, emptied, empty, exchange, fresh, holders, own_stage, put_plan, read, staged, wait, without}
use Rattle.rules.specs.Scores.{assignment_penalty, cycle_penalty, hard_penalty, invalid_entries, invalid_fixed, is_cyclic, makespan, no_change, reported_start, score, starts, violations}
use Rattle.rules.specs.Shown.{shown_cycle, shown_line_up}
use Rattle.rules.specs.Sizes.{Lent, bad_from, base_of, breaks_size, has_long}

-- ── calls ──

-- slices of exactly the constants' lengths
abbrev exactly : Lent
exactly = record { base = 6661; spans = 512; edges = 13314; routes = 1794; times = 514 }

abbrev asking : Ask → Call
asking a = record { lent = exactly; asks = a }

abbrev froms : List Pair → List ℕ
froms = map (λ (e : Pair). e.0)

abbrev tos : List Pair → List ℕ
tos = map (λ (e : Pair). e.1)

-- to load: jobs, owners, durations, expected owners and fixed pairs
abbrev plan : ℕ → ℕ → List ℕ → List ℕ → List Pair → Ask
plan n o d x f = to_load (record { jobs = n; owners = o; durations = d; expected = x; from = froms f; to = tos f })

-- n=1, d 5
abbrev single : Ask
single = plan 1 1 (5 ∷ []) [] []

-- what the tables compute with: all of the rules
opened : Unit {0}
unfolding step refusal accepted base_of breaks_size has_long bad_from read holders exchange fresh wait staged without empty emptied own_stage
    put_plan starts is_cyclic makespan reported_start invalid_fixed invalid_entries violations assignment_penalty cycle_penalty hard_penalty score
    shown_line_up shown_cycle seeds put_walk put_report latest critical arc blocks_of blocks good_positions
opened = tt

-- ── the marked plans ──

-- a row: the calls, each with the hard penalty and the makespan after it, and what else is marked of the last turn
pub record Row : Type 0 where
  pub calls : List (Ask × ℕ × ℕ)
  pub marks : Turn → Bool

abbrev on_plan : (Plan → Bool) → Turn → Bool
on_plan f t = elim t.state [ none ↦ false | some p ↦ f p ]

-- each call is accepted, and leaves a plan of this hard penalty and makespan
abbrev holds : Turn → List (Ask × ℕ × ℕ) → (Turn → Bool) → Bool
holds t [] f = f t
holds t ((a, h, m) ∷ l) f =
    let u : Turn = step t.state (asking a) in
    not (is_some (refusal t.state (asking a))) && (on_plan (λ p. eqb (hard_penalty p) h && eqb (makespan p) m) u && holds u l f)

-- each row holds, from a store that is not loaded
abbrev pub all_hold : List Row → Bool
all_hold [] = true
all_hold (r ∷ l) = holds (record { state = none; reply = scored no_change }) r.calls r.marks && all_hold l

abbrev nothing : Turn → Bool
nothing t = true

abbrev cyclic : Turn → Bool
cyclic = on_plan is_cyclic

abbrev skipped : Turn → Bool
skipped t = elim t.reply [
  | refused r ↦ false
  | scored s ↦ false
  | changed s r ↦ elim r [ Skipped ↦ true | Full ↦ false | CycleFound ↦ false | Incremental k ↦ false ]
  | counted s k ↦ false
  | lined_up l ↦ false
  | cycled l ↦ false
  | started l ↦ false
  | blocked l ↦ false
  | rerouted l q f ↦ false
]

pub marked : List Row
marked =
    -- W1 n=0: 0, 0.
    record { calls = (plan 0 0 [] [] [], 0, 0) ∷ []; marks = nothing }
    -- W2 n=1, d 5: 1, 5.
    ∷ record { calls = (single, 1, 5) ∷ []; marks = nothing }
    -- W3 same, route [0]: 0, 5.
    ∷ record { calls = (single, 1, 5) ∷ (to_put 0 (0 ∷ []), 0, 5) ∷ []; marks = nothing }
    -- W4 [0,0]: 2, 0. ("A self edge is a cycle.")
    ∷ record { calls = (single, 1, 5) ∷ (to_put 0 (0 ∷ 0 ∷ []), 2, 0) ∷ []; marks = cyclic }
    -- W5 [0,0,0]: 3, 0, then []: 1, 5.
    ∷ record { calls = (single, 1, 5) ∷ (to_put 0 (0 ∷ 0 ∷ 0 ∷ []), 3, 0) ∷ (to_put 0 [], 1, 5) ∷ []; marks = nothing }
    -- W6 the run above: 4, 7; 2, 12; 4, 0; 4, 7.
    ∷ record {
      calls =
          (plan 4 1 (1 ∷ 1 ∷ 5 ∷ 7 ∷ []) [] ((1, 0) ∷ []), 4, 7)
          ∷ (to_put 0 (2 ∷ 3 ∷ []), 2, 12) ∷ (to_put 0 (2 ∷ 3 ∷ 0 ∷ 1 ∷ []), 4, 0) ∷ (to_put 0 [], 4, 7) ∷ [];
      marks = nothing;
    }
    -- W7 n=2, d 3 4, [0,9,1]: 1, 4.
    ∷ record { calls = (plan 2 1 (3 ∷ 4 ∷ []) [] [], 2, 4) ∷ (to_put 0 (0 ∷ 9 ∷ 1 ∷ []), 1, 4) ∷ []; marks = nothing }
    -- W8 same jobs, two owners both [0,1]: 2, 7; then owner 0 empty: 0, 7, report skipped.
    ∷ record {
      calls =
          (plan 2 2 (3 ∷ 4 ∷ []) [] [], 2, 4)
          ∷ (to_put 0 (0 ∷ 1 ∷ []), 0, 7) ∷ (to_put 1 (0 ∷ 1 ∷ []), 2, 7) ∷ (to_put 0 [], 0, 7) ∷ [];
      marks = skipped;
    }
    -- W9 n=2, d 3 4, fixed (0,7), no routes: 3, 4.
    ∷ record { calls = (plan 2 1 (3 ∷ 4 ∷ []) [] ((0, 7) ∷ []), 3, 4) ∷ []; marks = nothing }
    -- W10 n=1, d 5, expected owner 1, owner 0 of two has [0]: 1, 5.
    ∷ record { calls = (plan 1 2 (5 ∷ []) (1 ∷ []) [], 1, 5) ∷ (to_put 0 (0 ∷ []), 1, 5) ∷ []; marks = nothing }
    -- W11 n=2, d 0 0, fixed (0,1),(1,0), no routes: 4, 0, cyclic.
    ∷ record { calls = (plan 2 1 (0 ∷ 0 ∷ []) [] ((0, 1) ∷ (1, 0) ∷ []), 4, 0) ∷ []; marks = cyclic }
    -- W12 the same with (0,1) only: 2, 0, both critical.
    ∷ record { calls = (plan 2 1 (0 ∷ 0 ∷ []) [] ((0, 1) ∷ []), 2, 0) ∷ []; marks = on_plan (λ p. critical p 0 && critical p 1) }
    ∷ []

pub marked_hold : all_hold marked ≡ true
unfolding opened marked
marked_hold = refl

-- ── the run of "Program lines" ──

abbrev pub replies : State → List Ask → List Reply
replies s [] = []
replies s (a ∷ l) = reply s (asking a) ∷ replies (step s (asking a)).state l

abbrev neg : ℕ → ℤ
neg k = neg_ℤ (pos k)

abbrev parts : ℤ → ℤ → Score
parts h s = record { hard = h; soft = s }

-- the lines of the input, and what each asks
pub printed_run : List Ask
printed_run =
    -- plan 4 1, dur 1 1 5 7, fix 1 0, go
    plan 4 1 (1 ∷ 1 ∷ 5 ∷ 7 ∷ []) [] ((1, 0) ∷ [])
    -- put 0 2 3
    ∷ to_put 0 (2 ∷ 3 ∷ [])
    -- crit
    ∷ to_blocks (0 ∷ []) 1
    -- put 0 2 3 0 1
    ∷ to_put 0 (2 ∷ 3 ∷ 0 ∷ 1 ∷ [])
    -- show
    ∷ to_score ∷ to_verdict 4
    -- put 0
    ∷ to_put 0 []
    -- show
    ∷ to_score ∷ to_starts 4 ∷ to_verdict 4
    -- cut 5
    ∷ to_retract 5
    ∷ []

-- the replies, each under the lines of the output that print it
pub run_replies : replies none printed_run ≡ (
    -- ok -4 -7
    scored (parts (neg 4) (neg 7))
    -- ok 2 -5
    ∷ changed (parts (pos 2) (neg 5)) (Incremental 1)
    -- blocks 1, block 0 0 1 2
    ∷ blocked (record { owner = 0; first = 0; last = 1; length = 2 } ∷ [])
    -- ok -2 12
    ∷ changed (parts (neg 2) (pos 12)) CycleFound
    -- score -4 0, cycle 0 1
    ∷ counted (parts (neg 4) (pos 0)) 4 ∷ cycled (0 ∷ 1 ∷ [])
    -- ok 0 -7
    ∷ changed (parts (pos 0) (neg 7)) Full
    -- score -4 -7, starts 1 0 0 0, order 1 0 2 3
    ∷ counted (parts (neg 4) (neg 7)) 5 ∷ started (1 ∷ 0 ∷ 0 ∷ 0 ∷ []) ∷ lined_up (1 ∷ 0 ∷ 2 ∷ 3 ∷ [])
    -- no 5
    ∷ refused NoSuchOwner
    ∷ [])
unfolding opened printed_run
run_replies = refl

-- ── refusals ──

-- one job, two owners
abbrev two_owners : Ask
two_owners = plan 1 2 (5 ∷ []) [] []

-- slices that are shorter than the constants by so much
abbrev tight : Lent → Ask → Call
tight s a = record {
  lent = record {
    base = exactly.base - s.base;
    spans = exactly.spans - s.spans;
    edges = exactly.edges - s.edges;
    routes = exactly.routes - s.routes;
    times = exactly.times - s.times;
  };
  asks = a;
}

-- the number that a call is refused with after others, on a store that was not loaded; 0 if it is accepted
abbrev number_after : List Ask → Call → ℕ
number_after l c = elim (refusal (run none (map asking l)) c) [ none ↦ 0 | some r ↦ number_of r ]

abbrev pub all_given : List (List Ask × Call × ℕ) → Bool
all_given [] = true
all_given ((before, c, k) ∷ l) = eqb (number_after before c) k && all_given l

-- the calls before, the call, and its number
pub refusals : List (List Ask × Call × ℕ)
refusals =
    -- 9, which load and reset give too, before 1 and 2
    ([], tight (record { base = 1; spans = 0; edges = 0; routes = 0; times = 0 }) to_score, 9)
    ∷ ([], tight (record { base = 0; spans = 1; edges = 0; routes = 0; times = 0 }) (to_retract 5), 9)
    ∷ ([], tight (record { base = 0; spans = 0; edges = 1; routes = 0; times = 0 }) (to_put 5 []), 9)
    ∷ ([], tight (record { base = 0; spans = 0; edges = 0; routes = 1; times = 0 }) (plan 513 0 [] [] []), 9)
    ∷ ([], tight (record { base = 0; spans = 0; edges = 0; routes = 0; times = 1 }) to_reset, 9)
    -- 1, zeroed or reset, before 5; not for reset
    ∷ ([], asking to_score, 1)
    ∷ (single ∷ to_reset ∷ [], asking (to_retract 5), 1)
    ∷ ([], asking to_reset, 0)
    -- 2 before 3 before 4: two durations for one job, one over 2^40, and a `from` that is n
    ∷ ([], asking (plan 1 1 (1099511627777 ∷ 0 ∷ []) [] ((1, 0) ∷ [])), 2)
    ∷ ([], asking (plan 1 1 (1099511627777 ∷ []) [] ((1, 0) ∷ [])), 3)
    ∷ ([], asking (plan 1 1 (1099511627776 ∷ []) [] ((1, 0) ∷ [])), 4)
    -- 4: a `from` that falls
    ∷ ([], asking (plan 2 1 (0 ∷ 0 ∷ []) [] ((1, 0) ∷ (0, 1) ∷ [])), 4)
    -- 5 before 6; 6 counts entries "valid or not"
    ∷ (two_owners ∷ [], asking (to_put 2 (replicate 1025 0)), 5)
    ∷ (two_owners ∷ [], asking (to_put 1 (replicate 1025 0)), 6)
    ∷ (two_owners ∷ [], asking (to_put 1 (replicate 1025 9)), 6)
    -- 7: "waiting owners already emptied"
    ∷ (two_owners ∷ to_put 0 (replicate 1024 0) ∷ [], asking (to_put 1 (0 ∷ [])), 7)
    ∷ (two_owners ∷ to_put 0 (replicate 1024 0) ∷ to_retract 0 ∷ [], asking (to_put 1 (0 ∷ [])), 0)
    -- 11 before 8 before 10
    ∷ (single ∷ to_put 0 (0 ∷ 9 ∷ []) ∷ [], asking (to_move 0 (list_change 1 0) 0), 11)
    ∷ (single ∷ to_put 0 (0 ∷ []) ∷ [], asking (to_move 0 (list_change 1 0) 0), 8)
    ∷ (single ∷ to_put 0 (0 ∷ []) ∷ [], asking (to_move 0 (list_change 0 1) 0), 10)
    -- 10: a verdict needs n places, and none where n = 0
    ∷ (single ∷ [], asking (to_verdict 0), 10)
    ∷ (plan 0 0 [] [] [] ∷ [], asking (to_verdict 0), 0)
    ∷ []

pub refusals_hold : all_given refusals ≡ true
unfolding opened refusals
refusals_hold = refl
