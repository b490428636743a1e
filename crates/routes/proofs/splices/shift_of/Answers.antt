use Rattle.std.proofs.Common.{arith}
use Rattle.routes.proofs.Splicing.{shift_is}
use Rattle.routes.proofs.splices.shift_of.Goals as goal

pub returns : goal.returns
returns c = shift_is _ _ (omega arith)
