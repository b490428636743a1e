use native.Mathlib.Omega.{arith}
use Rattle.words.proofs.Sweeps.{calling_done, calling_next, map_done, map_next_at}
use Rattle.words.proofs.map_from.Goals as goal

pub loop-i-preserved : goal.loop-i-preserved
loop-i-preserved g c = (
  calling_next c.loop-i.invariant.0 c.f.ensures (omega arith) (omega arith),
  λ h e. map_next_at (c.loop-i.invariant.1 h e) (e _ _ (omega arith) c.f.ensures) (omega arith) (omega arith),
)

pub returns-clause-gives : goal.returns-clause-gives
returns-clause-gives g c h e = map_done (c.loop-i.invariant.1 h e) (omega arith)

pub returns-clause-each : goal.returns-clause-each
returns-clause-each g c = calling_done c.loop-i.invariant.0 (omega arith)
