-- Laws of the rows that are handed out. Assumes nothing.
use Prim.Native.Nat.{ℕ, zero, suc, ◌+◌, ◌-◌, ◌≤◌, ◌<◌}
use native.Mathlib.Nat.{not-suc-le-zero}
use native.Mathlib.Omega.{arith}
use mathlib.Core.Path.{◌≡◌, refl, sym, ◌∙◌}
use mathlib.Core.Logic.{⊎_elim}
use mathlib.Core.List.{List, [], ◌∷◌, map, map-id}
use lib.ListN.{get_or, take, drop, length-take, get_or-eq_default}
use lib.Seq.{slice, take-nil, take-take, drop-drop}
use Rattle.rules.specs.Sizes.{most_jobs}
use Rattle.rules.proofs.Ranges.{lt_or_le}
use Rattle.edges.specs.Layout.{most_edges, heads_at, tail_starts_at, tails_at}
use Rattle.edges.specs.Lists.{out_of, pre_of, Rowed, Successors, Predecessors}
use Rattle.edges.proofs.Store.{RowsAt, bounded, ordered, pred_at, row_is, succ_at}

-- ── a part of the words ──

pub between : (f t : ℕ) (l : List ℕ) → f ≤ t → take (t - f) (drop f l) ≡ slice f t l
between zero t l h = let e : t - 0 ≡ t = omega arith in rw e
between (suc f) t [] h = rw (take-nil {A = ℕ} t) (take-nil (t - suc f))
between (suc f) zero (x ∷ l) h = absurd (not-suc-le-zero h)
between (suc f) (suc t) (x ∷ l) h = let e : suc t - suc f ≡ t - f = omega arith in rw e (between f t l (omega arith))

-- the words from a + f up to a + t
part_is : (a f t : ℕ) (l : List ℕ) → f ≤ t → t ≤ most_edges → take (a + t - (a + f)) (drop (a + f) l) ≡ slice f t (take most_edges (drop a l))
part_is a f t l h k =
    let e : a + t - (a + f) ≡ t - f = omega arith in
    rw (e, ← drop-drop f a l, take-take t most_edges (drop a l) k) (between f t (drop a l) h)

module _ (o a i : ℕ) (l : List ℕ) (f t : ℕ) (ef : f ≡ get_or l (o + i) 0) (et : t ≡ get_or l (o + i + 1) 0) where
  pub row_there : i < most_jobs → f ≤ t → t ≤ most_edges → Rowed o a i l (take (a + t - (a + f)) (drop (a + f) l))
  row_there h r b = record {
    short = omega (arith, length-take (a + t - (a + f)) (drop (a + f) l));
    none = λ k. absurd (let z : ⊥ = omega arith in z);
    some = λ f' t' ef' et' k r' b'. rw (ef' ∙ sym ef, et' ∙ sym et) (part_is a f t l r b);
  }

-- ── the row of a model ──

module _ {A : Type 0} {e : List ℕ} {o a : ℕ} {g : A → ℕ} {rows : List (List A)} (M : RowsAt e o a g rows) {i : ℕ} {r : List ℕ}
    (R : Rowed o a i e r) where
  row_of : r ≡ map g (get_or rows i [])
  row_of =
      ⊎_elim
      (λ h. R.some _ _ refl refl h (ordered M i h) (omega (arith, bounded M i h, M.few)) ∙ row_is M i h)
      (λ h. R.none h ∙ rw (get_or-eq_default rows [] {n = i} (omega (arith, M.many))))
      (lt_or_le i most_jobs)

module _ {e r : List ℕ} {i : ℕ} where
  pub successors_of : Rowed 0 heads_at i e r → Successors e i r
  unfolding out_of
  successors_of R = record { short = R.short; is = λ m h. row_of (succ_at h) R }

  pub predecessors_of : Rowed tail_starts_at tails_at i e r → Predecessors e i r
  unfolding pre_of
  predecessors_of R = record { short = R.short; is = λ m h. simp map-id at (row_of (pred_at h) R) }
