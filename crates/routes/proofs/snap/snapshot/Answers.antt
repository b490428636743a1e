use Rattle.routes.proofs.Snaps.{scan_done}
use Rattle.routes.proofs.snap.snapshot.Goals as goal

pub returns : goal.returns
returns c = scan_done c.loop-entry.invariant.0 c.loop-entry-test.false
