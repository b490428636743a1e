-- The fixed pairs, by their tails and their heads. Assumes nothing.
use Rattle.std.specs.Prelude.{◌≡◌, ℕ, ◌≤◌, false, List, length, drop}
use Rattle.rules.specs.Moves.{occurs}
use Rattle.rules.specs.Sizes.{falls, pair_up}

-- "`from` never falling along the list"
pub record Rising (from : List ℕ) : Type 0 where
  pub is : falls 0 from ≡ false

-- no pair of u stands before lo, and no tail below u from hi on
pub record Parted (from : List ℕ) (u lo hi : ℕ) : Type 0 where
  pub order : lo ≤ hi
  pub within : hi ≤ length from
  pub none : Rising from → (to : List ℕ) → length from ≡ length to → (v : ℕ)
      → occurs (pair_up (drop lo from) (drop lo to)) u v ≡ occurs (pair_up from to) u v
  pub above : Rising from → falls u (drop hi from) ≡ false
