-- What the edges of a plan say of heads, tails and counts. Assumes nothing.
use Prim.Native.Nat.{ℕ, zero, suc, ◌≤◌}
use mathlib.Core.Path.{◌≡◌, refl, sym, ap, ◌∙◌}
use mathlib.Core.Bool.{false, not, cond}
use mathlib.Core.Logic.{⊎_elim}
use mathlib.Core.List.{List, [], ◌∷◌, map}
use native.Mathlib.Omega.{arith}
use lib.Dec.{eqb}
use lib.ListN.{get_or, get_or-eq_default}
use borrow.Author.Tests.{eqb-true}
use Rattle.rules.specs.Lists.{is_zero, memb}
use Rattle.rules.specs.Sizes.{most_jobs}
use Rattle.rules.specs.Routes.{Plan, outs, holders}
use Rattle.rules.specs.Sound.{Sound}
use Rattle.rules.proofs.Ranges.{pass, fail, test, clash, lt_or_le}
use Rattle.rules.proofs.Tabled.{table_at, table_past}
use Rattle.edges.specs.Edges.{to_of, times_in, count_of}
use Rattle.edges.specs.Plans.{edges_from, edges_of}
use Rattle.edges.proofs.Adding.{counted}

heads_of_lem : (f : ℕ → ℕ) (l : List ℕ) → map to_of (counted f l) ≡ l
heads_of_lem f [] = refl
heads_of_lem f (v ∷ l) = rw (heads_of_lem f l)

-- how often x stands in a row made of heads and counts
times_in_lem : (f : ℕ → ℕ) (x : ℕ) (l : List ℕ) → times_in x (counted f l) ≡ cond (memb x l) (f x) 0
unfolding times_in
times_in_lem f x [] = refl
times_in_lem f x (v ∷ l) = elim (test (eqb x v)) [ pass e ↦ rw e (ap f (sym (eqb-true x v e))) | fail e ↦ rw e (times_in_lem f x l) ]

module _ (p : Plan) (S : Sound p) where
  heads_past : (u : ℕ) → most_jobs ≤ u → outs p.desk.heads u ≡ []
  heads_past u h = get_or-eq_default p.desk.heads [] (let a = S.kept.tidy.size in let b = S.loaded.jobs in omega arith)

  tails_past : (v : ℕ) → most_jobs ≤ v → outs p.desk.tails v ≡ []
  tails_past v h = get_or-eq_default p.desk.tails [] (let a = S.kept_tails.tidy.size in let b = S.loaded.jobs in omega arith)

  -- the heads of a plan's edges are its stored lists
  pub out_is : (u : ℕ) → map to_of (get_or (edges_of p).succ u []) ≡ outs p.desk.heads u
  unfolding edges_of edges_from
  out_is u = ⊎_elim
      (λ h. rw (table_at most_jobs (edges_from p) [] u h) (heads_of_lem (λ v. holders p.base p.desk.routes (u, v)) (outs p.desk.heads u)))
      (λ h. rw (table_past most_jobs (edges_from p) [] u h) (sym (heads_past u h))) (lt_or_le u most_jobs)

  -- and their tails those the other way round
  pub pre_is : (v : ℕ) → get_or (edges_of p).pred v [] ≡ outs p.desk.tails v
  unfolding edges_of
  pre_is v = ⊎_elim (λ h. table_at most_jobs (outs p.desk.tails) [] v h)
      (λ h. table_past most_jobs (outs p.desk.tails) [] v h ∙ sym (tails_past v h)) (lt_or_le v most_jobs)

  -- a plan's counts are those of the rules
  pub count_is : (u v : ℕ) → count_of (edges_of p) u v ≡ holders p.base p.desk.routes (u, v)
  unfolding count_of edges_of edges_from times_in
  count_is u v = ⊎_elim
      (λ h. rw (table_at most_jobs (edges_from p) [] u h)
      (times_in_lem (λ w. holders p.base p.desk.routes (u, w)) v (outs p.desk.heads u)
      ∙ rw (S.kept.held u v) (shown (holders p.base p.desk.routes (u, v)))))
      (λ h. rw (table_past most_jobs (edges_from p) [] u h)
      (none (holders p.base p.desk.routes (u, v)) (sym (S.kept.held u v) ∙ rw (heads_past u h)))) (lt_or_le u most_jobs)
    where
      shown : (x : ℕ) → cond (not (is_zero x)) x 0 ≡ x
      shown zero = refl
      shown (suc x) = refl

      none : (x : ℕ) → not (is_zero x) ≡ false → 0 ≡ x
      none zero e = refl
      none (suc x) e = clash refl e
