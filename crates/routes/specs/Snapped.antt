-- What `snapshot` answers and writes. Assumes nothing.
use Rattle.std.specs.Prelude.{◌≡◌, ℕ, ◌+◌, ◌<◌, ◌≤◌, Bool, not, ◌&&◌, List, length, ◌==◌, slice_index_or}
use Rattle.std.proofs.lemmas.List.Edits.{sets}
use Rattle.rules.specs.Sizes.{Base, nobodys, expected_of}
use Rattle.rules.specs.Routes.{read, violations_of}
use Rattle.routes.specs.declared.snap.Snap.{Snap}
use Rattle.routes.specs.Stops.{words}

-- e is what is stated of a job that owner o has: it is another's
abbrev pub strayed : ℕ → ℕ → Bool
strayed o e = not (e == nobodys) && not (e == o)

-- the list states what the base states of the jobs below n
abbrev pub Stated : ℕ → List ℕ → Base → Type 0
Stated n expected b = (v : ℕ) → v < n → slice_index_or expected v nobodys ≡ expected_of b v

-- `out` and `out'` are the answer buffer before and after
pub record Snapped (n : ℕ) (entries expected : List ℕ) (o : ℕ) (out out' : List ℕ) (r : Snap) : Type 0 where
  pub valid : r.valid ≡ length (read n entries).stops
  pub invalid : r.invalid ≡ (read n entries).invalid
  pub violations : (b : Base) → Stated n expected b → r.violations ≡ violations_of b o (read n entries)
  pub all : r.valid + r.invalid ≡ length entries
  pub few : r.violations ≤ r.valid
  pub written : out' ≡ sets out 0 (words (read n entries).stops)
