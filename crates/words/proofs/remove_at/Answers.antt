use Rattle.words.proofs.Sweeps.{removed}
use Rattle.words.proofs.remove_at.Goals as goal

pub returns : goal.returns
returns c = let e = c.copy_within.ensures.after in rw e (removed c.args.k c.args.a.now c.requires)
