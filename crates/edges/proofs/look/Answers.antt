use Rattle.edges.proofs.Seen.{look_here, look_nowhere}
use Rattle.edges.proofs.look.Goals as goal

pub returns-in-Some : goal.returns-in-Some
returns-in-Some c =
    look_here c.args.rows.starts c.args.rows.elements c.args.i c.args.x c.args.e.now c.in_ok-f.was c.ends.ensures c.in-Some.is c.find.ensures c.requires.1

pub returns-in-None : goal.returns-in-None
returns-in-None c =
    look_nowhere c.args.rows.starts c.args.rows.elements c.args.i c.args.x c.args.e.now c.in_ok-f.was c.ends.ensures c.in-None.is c.find.ensures
