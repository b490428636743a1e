use mathlib.Core.Path.{refl}
use Rattle.stores.proofs.Promises.{exit_err}
use Rattle.refresh.proofs.Putting.{follow_refused, follow_done}
use Rattle.refresh.proofs.put.follow.Goals as goal

-- `follow`: by what the put answers. Assumes nothing.

pub returns-in_err-heads : goal.returns-in_err-heads
returns-in_err-heads c = rw (exit_err c.from_residual.ensures.1) (follow_refused c.in_err-heads.ensures c.expected.ensures refl)

pub returns : goal.returns
returns c = follow_done c.in_ok-heads.ensures c.expected.ensures refl c.refresh.ensures refl
