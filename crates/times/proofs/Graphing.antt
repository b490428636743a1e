-- A plan's graph, durations and starts, as they are read off the store's words. Assumes nothing.
use Rattle.std.proofs.Common.{◌≡◌, ℕ, zero, suc, ◌+◌, ◌<◌, ◌≤◌, Bool, false, cond, ◌⊎◌, get_or, sym, refl, ap, ◌∙◌, inl, inr, arith, le-ltb, lt-ltb}
use mathlib.Core.Path.{fun_ext}
use lib.ListN.{get_or-eq_default}
use Rattle.rules.specs.Lists.{table}
use Rattle.rules.specs.Sizes.{duration, most_jobs, longest}
use Rattle.rules.specs.Graphs.{Graph}
use Rattle.rules.specs.Routes.{Plan, outs, live, edge}
use Rattle.rules.specs.Scores.{start, starts, floor_of, is_cyclic, reported_start}
use Rattle.rules.specs.Sound.{Sound}
use Rattle.rules.proofs.Ranges.{lt_or_le, greatest_lub}
use Rattle.rules.proofs.Tabled.{table_at, table_past}
use Rattle.rules.proofs.Puts.{live_inside}
use Rattle.edges.specs.Plans.{edges_of}
use Rattle.edges.proofs.Plans.{out_is}
use Rattle.graphs.specs.Graph.{out_of, at, Below, live as live_in}
use Rattle.times.specs.Words.{span_words, start_of}

module _ (p : Plan) (S : Sound p) where
  pub out_fun : out_of (edges_of p) ≡ outs p.desk.heads
  unfolding out_of
  out_fun = fun_ext (λ u. out_is p S u)

  pub live_fun : live_in (edges_of p) ≡ live p
  live_fun = ap {B = Graph} edge out_fun

  pub below : Below p.base.jobs (edges_of p)
  below u v e = live_inside p S u v (sym (ap (λ (E : Graph). E u v) live_fun) ∙ e)

  -- durations, and 0 beyond them
  pub span_fun : at (span_words p.base) ≡ duration p.base
  unfolding span_words
  span_fun = fun_ext (λ v. go v (lt_or_le v most_jobs))
    where
      go : (v : ℕ) → (v < most_jobs) ⊎ (most_jobs ≤ v) → get_or (table most_jobs (duration p.base)) v 0 ≡ duration p.base v
      go v (inl h) = table_at most_jobs (duration p.base) 0 v h
      go v (inr h) = table_past most_jobs (duration p.base) 0 v h
          ∙ sym (get_or-eq_default p.base.durations 0 (let a = S.loaded.durations in let b = S.loaded.jobs in omega arith))

  pub spans_short : (u : ℕ) → u < p.base.jobs → at (span_words p.base) u ≤ longest
  spans_short u h = let a = S.loaded.short u in let b = ap (λ (f : ℕ → ℕ). f u) span_fun in omega arith

  -- a job that is none has no start
  start_none : (m v : ℕ) → p.base.jobs ≤ v → start p.base.jobs (live p) (floor_of p.base) (duration p.base) m v ≡ 0
  start_none zero v h = refl
  start_none (suc m) v h = let a = greatest_lub p.base.jobs (λ u. live p u v)
      (λ u. start p.base.jobs (live p) (floor_of p.base) (duration p.base) m u + duration p.base u) 0
      (λ u hu e. let z = (live_inside p S u v e).1 in let k : ⊥ = omega arith in absurd k) in omega arith

  -- the words of a plan that is not cyclic hold its starts
  pub start_fun : is_cyclic p ≡ false → at (table most_jobs (start_of p)) ≡ starts p
  unfolding reported_start starts
  start_fun calm = fun_ext (λ v. go v (lt_or_le v p.base.jobs))
    where
      inside : (v : ℕ) → v < p.base.jobs → start_of p v ≡ starts p v
      inside v h = ap (λ (b : Bool). cond b (reported_start p v) 0) (lt-ltb v p.base.jobs h) ∙ ap (λ (b : Bool). cond b 0 (starts p v)) calm

      beyond : (v : ℕ) → p.base.jobs ≤ v → start_of p v ≡ 0
      beyond v h = ap (λ (b : Bool). cond b (reported_start p v) 0) (le-ltb v p.base.jobs h)

      go : (v : ℕ) → (v < p.base.jobs) ⊎ (p.base.jobs ≤ v) → get_or (table most_jobs (start_of p)) v 0 ≡ starts p v
      go v (inl h) = table_at most_jobs (start_of p) 0 v (let a = S.loaded.jobs in omega arith) ∙ inside v h
      go v (inr h) = wide (lt_or_le v most_jobs) ∙ sym (start_none p.base.jobs v h)
        where
          wide : (v < most_jobs) ⊎ (most_jobs ≤ v) → get_or (table most_jobs (start_of p)) v 0 ≡ 0
          wide (inl k) = table_at most_jobs (start_of p) 0 v k ∙ beyond v h
          wide (inr k) = table_past most_jobs (start_of p) 0 v k
