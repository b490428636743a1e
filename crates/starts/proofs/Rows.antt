-- A loop over a row does to what it changes what R says of the whole row. Each loop over a row cites these laws. Assumes nothing.
use Rattle.std.proofs.Common.{ℕ, ◌+◌, ◌<◌, ◌≤◌, List, [], ◌∷◌, length, get_or, drop}
use Rattle.words.proofs.Rows.{row_cons, row_none}

module _ {S : Type 0} (R : List ℕ → S → S → Type 0) where
  -- once the rest of the row is done, all of it is
  pub record Rowed (row : List ℕ) (s₀ : S) (k : ℕ) (s : S) : Type 0 where
    pub rest : (t : S) → R (drop k row) s t → R row s₀ t

  pub rowed_none : (row : List ℕ) (s : S) → Rowed row s 0 s
  rowed_none row s = record { rest = λ t T. T }

  module _ {row : List ℕ} {s₀ : S} {k : ℕ} {s : S} (L : Rowed row s₀ k s) where
    pub rowed_next : ((v : ℕ) (vs : List ℕ) (s t u : S) → R (v ∷ []) s t → R vs t u → R (v ∷ vs) s u)
        → k < length row → {t : S} → R (get_or row k 0 ∷ []) s t → Rowed row s₀ (k + 1) t
    rowed_next then h {t} T = record { rest = λ u U. L.rest u (rw (row_cons row k h) (then (get_or row k 0) (drop (k + 1) row) s t u T U)) }

    pub rowed_done : length row ≤ k → R [] s s → R row s₀ s
    rowed_done h N = L.rest s (rw (row_none row k h) N)
