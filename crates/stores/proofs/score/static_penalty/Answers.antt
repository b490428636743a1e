use native.Mathlib.Omega.{arith}
use mathlib.Core.Path.{refl}
use Rattle.stores.proofs.Scores.{penal_of}
use Rattle.stores.proofs.score.static_penalty.Goals as goal

-- `static_penalty`: the sum of its three parts. Assumes nothing.

pub returns : goal.returns
returns c =
    rw c.from-fixed.ensures (penal_of (omega (arith, c.type_inv.base 4)) c.faults.ensures c.sum_of-owners.ensures c.assigned.ensures
    c.assignments-jobs.ensures refl c.requires.2)
