-- Edges taken out or put in, one after the other, and which of them vanish or appear. An edge is from * most_jobs + to; other numbers are
-- passed over. Assumes nothing.
use Rattle.std.specs.Prelude.{◌≡◌, ℕ, ◌/◌, ◌%◌, ◌≤◌, Bool, true, false, cond, not, ◌&&◌, List, [], ◌∷◌, length, take, nat_lt, Result, Ok}
use Rattle.rules.specs.Lists.{memb}
use Rattle.rules.specs.Sizes.{most_jobs}
use Rattle.edges.specs.Edges.{Model, Holds, Room, has_edge, count_of, add_edge, remove_edge}
use Rattle.rules.specs.declared.Senseless.{Senseless}
use Rattle.routes.specs.Differs.{Differs}

abbrev pub tail : ℕ → ℕ
tail x = x / most_jobs

abbrev pub head : ℕ → ℕ
head x = x % most_jobs

abbrev pub is_edge : ℕ → Bool
is_edge x = nat_lt (tail x) most_jobs

-- more: one comes, else one goes
abbrev pub turn_one : Bool → Model → ℕ → Model
turn_one true m x = cond (is_edge x) (add_edge m (tail x) (head x)) m
turn_one false m x = cond (is_edge x) (remove_edge m (tail x) (head x)) m

-- it appears, or vanishes
abbrev pub turns : Bool → Model → ℕ → Bool
turns true m x = is_edge x && not (has_edge m (tail x) (head x))
turns false m x = is_edge x && (has_edge m (tail x) (head x) && not (nat_lt 1 (count_of m (tail x) (head x))))

-- there is room for one that comes
abbrev pub Ready : Bool → Model → ℕ → Type 0
Ready true m x = is_edge x ≡ true → Room m (tail x) (head x)
Ready false m x = Unit

-- x is turned, and the answer is whether it appears or vanishes
abbrev pub Turned : Bool → ℕ → List ℕ → List ℕ → Result Bool Senseless → Type 0
Turned b x e e' r = (m : Model) → Holds e m → Ready b m x → (r ≡ Ok (turns b m x)) × Holds e' (turn_one b m x)

unfoldable pub turn_all : Bool → Model → List ℕ → Model
turn_all b m [] = m
turn_all b m (x ∷ l) = turn_all b (turn_one b m x) l

unfoldable pub heads_all : Bool → Model → List ℕ → List ℕ
heads_all b m [] = []
heads_all b m (x ∷ l) = cond (turns b m x) (head x ∷ heads_all b (turn_one b m x) l) (heads_all b (turn_one b m x) l)

unfoldable pub ReadyAll : Bool → Model → List ℕ → Type 0
ReadyAll b m [] = Unit
ReadyAll b m (x ∷ l) = Ready b m x × ReadyAll b (turn_one b m x) l

-- the edges l of m were turned, and the heads of those that appeared or vanished are listed
pub record Turnt (b : Bool) (m : Model) (l e' heads' : List ℕ) (r : Result ℕ Senseless) : Type 0 where
  pub upto : r ≡ Ok (length (heads_all b m l))
  pub holds : Holds e' (turn_all b m l)
  pub listed : take (length (heads_all b m l)) heads' ≡ heads_all b m l

pub record Turns (b : Bool) (l e e' heads' : List ℕ) (r : Result ℕ Senseless) : Type 0 where
  pub short : (h : ℕ) → r ≡ Ok h → h ≤ length l
  pub is : (m : Model) → Holds e m → ReadyAll b m l → Turnt b m l e' heads' r

-- what goes is of the old route
abbrev pub From : List ℕ → List ℕ → Type 0
From gone old = (x : ℕ) → memb x gone ≡ true → memb x old ≡ true

-- there is room for what comes
abbrev pub Roomy : Model → List ℕ → List ℕ → Type 0
Roomy m old new = (gone left : List ℕ) → Differs old new gone left → From gone old → ReadyAll true (turn_all false m gone) left

-- some difference of two routes' edges was taken out and put in
pub record Parted (m : Model) (old new e' went' came' : List ℕ) (r : Result (ℕ × ℕ) Senseless) : Type 0 where
  pub gone : List ℕ
  pub left : List ℕ
  pub differs : Differs old new gone left
  pub from : From gone old
  pub holds : Holds e' (turn_all true (turn_all false m gone) left)
  pub answer : r ≡ Ok (length (heads_all false m gone), length (heads_all true (turn_all false m gone) left))
  pub went_listed : take (length (heads_all false m gone)) went' ≡ heads_all false m gone
  pub came_listed : take (length (heads_all true (turn_all false m gone) left)) came' ≡ heads_all true (turn_all false m gone) left

pub record Parts (old new e e' went' came' : List ℕ) (r : Result (ℕ × ℕ) Senseless) : Type 0 where
  pub short : (h c : ℕ) → r ≡ Ok (h, c) → (h ≤ length old) × (c ≤ length new)
  pub is : (m : Model) → Holds e m → Roomy m old new → Parted m old new e' went' came' r
