-- Demand 3 and the limits, of the plan after any history of calls: the last theorem here is what the others are for. Assumes nothing.
use Prim.Native.Nat.{ℕ, ◌<◌}
use mathlib.Core.Path.{◌≡◌, refl, subst}
use mathlib.Core.Bool.{true, false}
use mathlib.Core.Option.{none, some}
use mathlib.Core.Logic.{◌⊎◌, inl, inr}
use mathlib.Core.List.{List}
use Rattle.rules.specs.Calls.{Call, run}
use Rattle.rules.specs.Routes.{Plan}
use Rattle.rules.specs.Scores.{cycle_penalty, finish, is_cyclic, makespan}
use Rattle.rules.specs.Sound.{Sound}
use Rattle.rules.specs.Demands.{Calm, Looped, Standing}
use Rattle.rules.proofs.Bounds.{edges_few, makespan_few, score_within}
use Rattle.rules.proofs.History.{Soundly, run_sound}
use Rattle.rules.proofs.Plans.{cyclic_no_lineup, shown_cycle_lem, shown_line_up_lem, starts_greatest}
use Rattle.rules.proofs.Puts.{live_held}
use Rattle.rules.proofs.Ranges.{greatest_at, greatest_ub}

looped_of : (p : Plan) → is_cyclic p ≡ true → Looped p
unfolding cycle_penalty makespan
looped_of p e = let (l, q, L) = shown_cycle_lem p e in record { list = l; shown = q; lowest = L; penalty = rw e; span = rw e }

calm_of : (p : Plan) → is_cyclic p ≡ false → Calm p
unfolding cycle_penalty makespan
calm_of p e = let (l, q, L) = shown_line_up_lem p e in record {
  list = l;
  shown = q;
  lowest = L;
  penalty = rw e;
  start = starts_greatest p e;
  within = λ v h. rw e (greatest_ub p.base.jobs (λ v. true) (finish p) v h refl);
  reached = rw e (drop_test (greatest_at p.base.jobs (λ v. true) (finish p)));
}
  where
    drop_test : {g : ℕ} → (g ≡ 0) ⊎ ((v : ℕ) × (v < p.base.jobs) × (true ≡ true) × (g ≡ finish p v))
        → (g ≡ 0) ⊎ ((v : ℕ) × (v < p.base.jobs) × (g ≡ finish p v))
    drop_test (inl z) = inl z
    drop_test (inr (v, h, t, q)) = inr (v, h, q)

pub sound_standing : (p : Plan) → Sound p → Standing p
sound_standing p S = record {
  lists = live_held p S;
  verdict = cyclic_no_lineup p;
  looped = looped_of p;
  calm = calm_of p;
  edges = edges_few p S;
  entries = S.room;
  spans = makespan_few p S;
  parts = score_within p S;
}

-- from a store that is not loaded, after any calls in any order and number
pub history_stands : (cs : List Call) (p : Plan) → run none cs ≡ some p → Standing p
history_stands cs p e = sound_standing p (subst Soundly e (run_sound none cs tt))
