use Rattle.text.proofs.Pieces.{wrote_whole}
use Rattle.text.proofs.writes.bytes.Goals as goal

-- `bytes`: all at once. Assumes nothing.

pub returns : goal.returns
returns c = wrote_whole c.args.out.now c.args.at c.args.s.now c.copy_from_slice.ensures.after c.requires
