-- Starts pulled from predecessors; f is each job's floor. Assumes nothing.
use Rattle.std.specs.Prelude.{◌≡◌, ℕ, ◌+◌, ◌%◌, ◌^◌, ◌<◌, ◌≤◌, max, Bool, true, false, cond, List, take, drop, nat_le}
use Rattle.rules.specs.Graphs.{LineUp}
use Rattle.rules.specs.Scores.{best, start}
use Rattle.rules.specs.Sizes.{longest}
use Rattle.rules.specs.Solved.{Solves}
use Rattle.edges.specs.Edges.{Model, Holds}
use Rattle.graphs.specs.Graph.{at, live, Below}
use Rattle.graphs.specs.Sound.{ceiling}
use Rattle.starts.specs.Lines.{Verdict}

-- b, or the end of job u if that is later; ends of 2^64 and more wrap around
abbrev pub reach_of : List ℕ → List ℕ → ℕ → ℕ → ℕ → ℕ
reach_of sp st n b u = cond (nat_le n u) b (max b ((at st u + at sp u) % 2 ^ 64))

-- the starts and durations of v's predecessors are so low that their sums fit
abbrev pub Low : Model → List ℕ → List ℕ → ℕ → Type 0
Low m sp st v = (u : ℕ) → live m u v ≡ true → (at st u ≤ ceiling) × (at sp u ≤ ceiling)

-- what `earliest` answers
pub record Pulls (e sp : List ℕ) (f : ℕ → ℕ) (st : List ℕ) (v n r : ℕ) : Type 0 where
  pub is : (m : Model) → Holds e m → Below n m → v < n → Low m sp st v → r ≡ best n (live m) f (at sp) (at st) v

-- a line_up settles the starts
pub record Settles (e sp : List ℕ) (f : ℕ → ℕ) (st o : List ℕ) (n : ℕ) (st' : List ℕ) : Type 0 where
  pub beyond : drop n st' ≡ drop n st
  pub solves : (m : Model) → Holds e m → Below n m → ((u : ℕ) → u < n → at sp u ≤ longest) → LineUp n (live m) (take n o)
      → Solves n (live m) f (at sp) (at st')

-- the verdict, and with a line_up every start
pub record Full (e sp : List ℕ) (f : ℕ → ℕ) (st : List ℕ) (n : ℕ) (r : Bool) (st' : List ℕ) : Type 0 where
  pub beyond : drop n st' ≡ drop n st
  pub stays : r ≡ false → st' ≡ st
  pub verdict : (m : Model) → Holds e m → Below n m → Verdict m n r
  pub starts : r ≡ true → (m : Model) → Holds e m → Below n m → ((u : ℕ) → u < n → at sp u ≤ longest) → (v : ℕ) → v < n
      → at st' v ≡ start n (live m) f (at sp) n v
