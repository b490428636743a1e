-- Where a move's positions lie, in a route and in as many words for the new one. Assumes nothing.
use Rattle.std.specs.Prelude.{ℕ, ◌+◌, ◌≤◌, ◌≡◌, true, List, length}
use Rattle.rules.specs.Lists.{all_below}

-- the places a up to b of `old`, and as many words of `new`
pub record Piece (a b : ℕ) (old new : List ℕ) : Type 0 where
  pub order : a ≤ b
  pub within : b ≤ length old
  pub room : length new ≡ length old

-- a list of places, counted from a on, each within the list's length
pub record Order (a : ℕ) (list old new : List ℕ) : Type 0 where
  pub low : all_below (length list) list ≡ true
  pub old_room : a + length list ≤ length old
  pub new_room : a + length list ≤ length new

-- the places a up to b and, behind them, c up to d
pub record Ranges (a b c d : ℕ) (old new : List ℕ) : Type 0 where
  pub left : a ≤ b
  pub apart : b ≤ c
  pub right : c ≤ d
  pub within : d ≤ length old
  pub room : length new ≡ length old
