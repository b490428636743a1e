use Rattle.moves.proofs.Halved.{stops_are}
use Rattle.moves.proofs.stops.route_of.Goals as goal

pub returns : goal.returns
returns c = stops_are c.args.out.now c.is_broken.ensures c.if-is_broken.false c.stops-row.ensures c.requires.1 c.jobs_of.ensures
