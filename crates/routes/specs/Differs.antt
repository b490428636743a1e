-- Which edges of an old route have no equal one in the new route, and the reverse, one for one. An edge is one number. Assumes nothing.
use Rattle.std.specs.Prelude.{◌≡◌, ℕ, suc, ◌+◌, ◌-◌, ◌*◌, ◌/◌, ◌%◌, ◌≤◌, Bool, true, false, cond, List, [], ◌∷◌, length, take, drop, ◌==◌, ◌≢◌}
use Rattle.std.specs.List.{take_while, zip}
use Rattle.rules.specs.Lists.{memb, keep}
use Rattle.rules.specs.Sizes.{most_jobs}
use Rattle.rules.specs.Scores.{times_in}

-- a route's edges, from the words of its stops; last: the job before
unfoldable pub codes : ℕ → List ℕ → List ℕ
codes last [] = []
codes last (w ∷ l) = cond (w % 2 == 1) ((last * most_jobs + w / 2) ∷ codes (w / 2) l) (codes (w / 2) l)

pub record Linked (l out' : List ℕ) (r : ℕ) : Type 0 where
  pub few : r ≤ length l
  pub written : take r out' ≡ codes 0 l

-- how many at the front of two lists are the same
abbrev pub alike : List ℕ → List ℕ → ℕ
alike old new = length (take_while {X = ℕ × ℕ} (λ p. p.0 == p.1) (zip old new))

-- the first r edges are the same
pub record SameFront (old new : List ℕ) (r : ℕ) : Type 0 where
  pub in_old : r ≤ length old
  pub in_new : r ≤ length new
  pub same : take r old ≡ take r new

-- the last r are, none of them among the first f
pub record SameBack (old new : List ℕ) (f r : ℕ) : Type 0 where
  pub in_old : r ≤ length old - f
  pub in_new : r ≤ length new - f
  pub same : drop (length old - r) old ≡ drop (length new - r) new

abbrev pub struck : ℕ
struck = most_jobs * most_jobs

-- the first x struck out
unfoldable pub strike : ℕ → List ℕ → List ℕ
strike x [] = []
strike x (y ∷ l) = cond (x == y) (struck ∷ l) (y ∷ strike x l)

-- the first place of x, or the length
unfoldable pub place_of : ℕ → List ℕ → ℕ
place_of x [] = 0
place_of x (y ∷ l) = cond (y == x) 0 (suc (place_of x l))

-- x beside the first that equals it, else at the end: equals stand together, by first place
unfoldable pub seat : ℕ → List ℕ → List ℕ
seat x [] = x ∷ []
seat x (y ∷ l) = cond (y == x) (x ∷ y ∷ l) (y ∷ seat x l)

-- of the old ones those that are matched by none, after those that are in `gone` already
unfoldable pub gone_of : List ℕ → List ℕ → List ℕ → List ℕ
gone_of [] new gone = gone
gone_of (x ∷ old) new gone = cond (memb x new) (gone_of old (strike x new) gone) (gone_of old new (seat x gone))

-- the new ones, with those that are matched struck out
unfoldable pub left_of : List ℕ → List ℕ → List ℕ
left_of [] new = new
left_of (x ∷ old) new = cond (memb x new) (left_of old (strike x new)) (left_of old new)

pub record Differed (old new old' new' : List ℕ) (r : ℕ) : Type 0 where
  pub gone : take r old' ≡ gone_of old new []
  pub left : new' ≡ left_of old new
  pub few : r ≤ length old
  pub size : length new' ≡ length new

-- all of a list seated, one after the other
unfoldable pub seat_all : List ℕ → List ℕ → List ℕ
seat_all g [] = g
seat_all g (x ∷ l) = seat_all (seat x g) l

-- what tells the difference of two routes' edges, whichever equal one is matched with which: `gone` go and `left` come, struck ones aside
pub record Differs (old new gone left : List ℕ) : Type 0 where
  -- how often
  pub goes : (e : ℕ) → (e ≢ struck) → times_in e gone ≡ times_in e old - times_in e new
  pub comes : (e : ℕ) → (e ≢ struck) → times_in e left ≡ times_in e new - times_in e old
  -- in which order: edges that are in one of the routes only
  pub first_gone : (p : ℕ → Bool) → p struck ≡ false → ((e : ℕ) → p e ≡ true → memb e new ≡ false)
      → keep p gone ≡ seat_all [] (keep p old)
  pub first_left : (p : ℕ → Bool) → p struck ≡ false → ((e : ℕ) → p e ≡ true → memb e old ≡ false) → keep p left ≡ keep p new
