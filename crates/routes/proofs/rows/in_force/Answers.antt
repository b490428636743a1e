use Rattle.std.proofs.Common.{arith}
use Rattle.routes.proofs.Placing.{forced}
use Rattle.routes.proofs.rows.in_force.Goals as goal

pub returns : goal.returns
returns c = forced c.from.ensures (omega arith)
