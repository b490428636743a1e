use Rattle.routes.proofs.Placing.{handing}
use Rattle.routes.proofs.rows.stops.Goals as goal

pub returns-then-t-f : goal.returns-then-t-f
returns-then-t-f c = search handing

pub returns-then-t-gt-ENTRIES : goal.returns-then-t-gt-ENTRIES
returns-then-t-gt-ENTRIES c = search handing
