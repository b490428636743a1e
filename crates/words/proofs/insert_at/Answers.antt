use Rattle.words.proofs.Sweeps.{inserted}
use Rattle.words.proofs.insert_at.Goals as goal

pub returns : goal.returns
returns g c = let e = c.copy_within.ensures.after in rw e (inserted c.args.k c.args.x c.args.a.now c.requires)
