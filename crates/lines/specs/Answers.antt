-- "Program lines": what is printed to a call on the program's store. Assumes nothing.
use Rattle.std.specs.Prelude.{ℕ, ◌≤◌, ◌≡◌, List, [], ◌++◌, length}
use Rattle.rules.specs.Lists.{table}
use Rattle.rules.specs.Sizes.{Lent, most_jobs}
use Rattle.rules.specs.Routes.{State}
use Rattle.rules.specs.Calls.{Ask, Call, Reply, to_score, to_verdict, to_starts, refused, scored, changed, counted, lined_up, cycled, started, blocked, rerouted, reply}
use Rattle.text.specs.Writes.{Wrote}
use Rattle.text.specs.Answers.{reply_text}
use Rattle.stores.specs.Promise.{Slices, lent_of, call_of, StandsFor, after}

-- 0, 1, .. n - 1
abbrev pub up_to : ℕ → List ℕ
up_to n = table n (λ v. v)

-- a call on the program's store
abbrev pub asked : Lent → Ask → Call
asked k a = record { lent = k; asks = a }

-- the cycle, or the starts and the line_up
abbrev pub verdict_text : Reply → Reply → List ℕ
verdict_text (refused r) s = reply_text (refused r)
verdict_text (scored c) s = []
verdict_text (changed c r) s = []
verdict_text (counted c k) s = []
verdict_text (lined_up l) s = reply_text s ++ reply_text (lined_up l)
verdict_text (cycled l) s = reply_text (cycled l)
verdict_text (started l) s = []
verdict_text (blocked l) s = []
verdict_text (rerouted l q f) s = []

-- `show`: a refusal alone, or the score and the verdict
abbrev pub show_text : Reply → List ℕ → List ℕ
show_text (refused r) v = reply_text (refused r)
show_text (scored c) v = []
show_text (changed c r) v = []
show_text (counted c k) v = reply_text (counted c k) ++ v
show_text (lined_up l) v = []
show_text (cycled l) v = []
show_text (started l) v = []
show_text (blocked l) v = []
show_text (rerouted l q f) v = []

-- what a line behind `go` asks for: a call, or, for `show`, three of them
pub data Request : Type 0 where
  call : Ask → Request
  whole_show : Request

-- what is printed in the state t; a plan has at most so many jobs
abbrev pub text_to : Lent → State → Request → List ℕ
text_to k t (call a) = reply_text (reply t (asked k a))
text_to k t whole_show =
    show_text (reply t (asked k to_score)) (verdict_text (reply t (asked k (to_verdict most_jobs))) (reply t (asked k (to_starts most_jobs))))

-- the call that says what is left; what `show` asks for leaves everything as it was
abbrev pub ask_of : Request → Ask
ask_of (call a) = a
ask_of whole_show = to_score

-- the printed text and every word of the store afterwards, in the state t
pub record Answered (t : State) (q : Request) (s s' : Slices) (out : List ℕ) (r : ℕ) (out' : List ℕ) : Type 0 where
  pub text : Wrote out 0 (text_to (lent_of s) t q) r out'
  pub leaves : s' ≡ after t (call_of (ask_of q) s) s

-- of every state that the store stands for; and within the lent bytes whatever it holds
pub record Answers (q : Request) (s s' : Slices) (out : List ℕ) (r : ℕ) (out' : List ℕ) : Type 0 where
  pub few : r ≤ length out
  pub decides : (t : State) → StandsFor s t → Answered t q s s' out r out'
