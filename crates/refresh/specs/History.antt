-- A history of calls on one store: each call is lent the first words of each slice, as many as its caller chooses, and what it leaves there
-- the store holds for the next. Assumes nothing.
use Rattle.std.specs.Prelude.{ℕ, ◌≡◌, true, false, List, [], ◌∷◌, ◌++◌, get_or, take, drop}
use Rattle.std.proofs.Math.Option.{none, some}
use Rattle.rules.specs.Sizes.{Lent, Loading}
use Rattle.rules.specs.declared.Refusal.TheVariants.{BadStore}
use Rattle.rules.specs.Graphs.{LowestCycle, LowestLineUp}
use Rattle.rules.specs.Routes.{Plan, State, live}
use Rattle.rules.specs.Scores.{is_cyclic}
use Rattle.rules.specs.Calls.{Ask, Call, Reply, to_load, to_reset, to_retract, to_put, to_score, to_verdict, to_starts, to_blocks, to_move}
use Rattle.rules.specs.Calls.{refused, lined_up, cycled, refusal, step, reply, run, verdict_of}
use Rattle.rules.specs.Demands.{Standing}
use Rattle.rules.specs.Shown.{shown_cycle, shown_line_up}
use Rattle.stores.specs.Promise.{Slices, slices, call_of, Promise, AnyPromise, StandsFor}

-- ── one call ──

-- what a call is lent: the first words of each slice
abbrev pub lent : Lent → Slices → Slices
lent k s =
    slices (take k.base s.base) (take k.spans s.spans) (take k.edges s.edges) (take k.routes s.routes)
    (take k.times s.times)

-- the store once they are given back as l
abbrev pub back : Lent → Slices → Slices → Slices
back k s l =
    slices (l.base ++ drop k.base s.base) (l.spans ++ drop k.spans s.spans) (l.edges ++ drop k.edges s.edges)
    (l.routes ++ drop k.routes s.routes) (l.times ++ drop k.times s.times)

-- the call kept its promise: load and reset whatever was there, each other one for what the store stands for
abbrev pub Kept : Ask → Slices → Slices → List ℕ → List ℕ → Reply → Type 0
Kept (to_load l) s s' out out' r = AnyPromise (to_load l) s s' r
Kept to_reset s s' out out' r = AnyPromise to_reset s s' r
Kept (to_retract o) s s' out out' r = Promise (to_retract o) s s' out out' r
Kept (to_put o l) s s' out out' r = Promise (to_put o l) s s' out out' r
Kept to_score s s' out out' r = Promise to_score s s' out out' r
Kept (to_verdict k) s s' out out' r = Promise (to_verdict k) s s' out out' r
Kept (to_starts k) s s' out out' r = Promise (to_starts k) s s' out out' r
Kept (to_blocks os k) s s' out out' r = Promise (to_blocks os k) s s' out out' r
Kept (to_move o m k) s s' out out' r = Promise (to_move o m k) s s' out out' r

-- ── calls in any order and number ──

-- the calls cs on the store s were answered rs, and left s''
pub data Made : Slices → List Call → List Reply → Slices → Type 0 where
  done : {s : Slices} → Made s [] [] s
  call : {s s'' : Slices} {cs : List Call} {rs : List Reply} {r : Reply} (k : Lent) (a : Ask) (l' : Slices) (out out' : List ℕ)
      → Kept a (lent k s) l' out out' r → Made (back k s l') cs rs s'' → Made s (call_of a (lent k s) ∷ cs) (r ∷ rs) s''

-- what the rules answer
abbrev pub replies : State → List Call → List Reply
replies t [] = []
replies t (c ∷ cs) = reply t c ∷ replies (step t c).state cs

-- ── where a history begins ──

abbrev pub Zeros : List ℕ → Type 0
Zeros l = (i : ℕ) → get_or l i 0 ≡ 0

pub record Zeroed (s : Slices) : Type 0 where
  pub base : Zeros s.base
  pub spans : Zeros s.spans
  pub edges : Zeros s.edges
  pub routes : Zeros s.routes
  pub times : Zeros s.times

-- "A store counts as left by calls if it is zeroed, or if since an accepted load or reset only calls have written it."
pub data Begins (s : Slices) : List Call → Type 0 where
  zeroed : {cs : List Call} → Zeroed s → Begins s cs
  loaded : {l : Loading} {c : Call} {cs : List Call} → c.asks ≡ to_load l → refusal none c ≡ none → Begins s (c ∷ cs)
  reset : {c : Call} {cs : List Call} → c.asks ≡ to_reset → refusal none c ≡ none → Begins s (c ∷ cs)

-- ── what is shown ──

-- the verdict on a plan, as a reply
pub data Shows (p : Plan) : Reply → Type 0 where
  a_cycle : {l : List ℕ} → is_cyclic p ≡ true → LowestCycle p.base.jobs (live p) l → Shows p (cycled l)
  a_line_up : {l : List ℕ} → is_cyclic p ≡ false → LowestLineUp p.base.jobs (live p) l → Shows p (lined_up l)

-- "12 is never given for such a store"
abbrev pub Never : List Reply → Type 0
Never [] = Unit {0}
Never (r ∷ rs) = (r ≡ refused BadStore → ⊥) × Never rs

-- ── demand 3, of the code: `history` in proofs/Histories shows it ──

-- after the calls cs, answered rs, in the store s
pub record Answered (cs : List Call) (rs : List Reply) (s : Slices) : Type 0 where
  -- every reply is the rules', refused calls and waiting retractions included
  pub replied : rs ≡ replies none cs
  -- "12 is never given for such a store"
  pub known : Never rs
  -- the store stands for what the history leaves
  pub stands : StandsFor s (run none cs)
  -- of which demand 3 holds: cyclic exactly if there is no line_up, and then cycle, penalty and makespan; else line_up, starts and makespan
  pub plan : (p : Plan) → run none cs ≡ some p → Standing p × Shows p (verdict_of (shown_line_up p) (shown_cycle p))
