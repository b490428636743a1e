-- A loop over a row: what is left of it at place k. Every loop over a row cites these two. Assumes nothing.
use Prim.Native.Nat.{ℕ, ◌+◌, ◌≤◌, ◌<◌}
use native.Mathlib.Numerals.{add-one}
use mathlib.Core.Path.{◌≡◌}
use mathlib.Core.List.{List, [], ◌∷◌}
use lib.ListN.{length, get_or, drop, drop_of_length-le}
use lib.Seq.{drop-cons}

pub row_cons : (row : List ℕ) (k : ℕ) → k < length row → drop k row ≡ get_or row k 0 ∷ drop (k + 1) row
row_cons row k h = rw (add-one, drop-cons row k 0)

pub row_none : (row : List ℕ) (k : ℕ) → length row ≤ k → drop k row ≡ []
row_none row k h = drop_of_length-le row h
