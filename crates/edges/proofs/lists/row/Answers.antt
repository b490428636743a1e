use Rattle.edges.proofs.Listing.{row_there}
use Rattle.edges.proofs.lists.row.Goals as goal

pub returns-in-Ok : goal.returns-in-Ok
returns-in-Ok c =
    let ends = c.in-Ok.ensures in
    row_there c.args.rows.starts c.args.rows.elements c.args.i c.args.e.now c.in-Ok.f c.in-Ok.t ends.first ends.last c.if-i-ge-JOBS.false ends.ordered ends.bounded
