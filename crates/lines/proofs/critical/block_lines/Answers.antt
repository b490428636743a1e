use native.Mathlib.Omega.{arith}
use Rattle.lines.proofs.Blocking.{blocking, listing_done}
use Rattle.lines.proofs.critical.block_lines.Goals as goal

-- `block_lines`: the next block, and its line behind those before. Assumes nothing.

pub loop-preserved : goal.loop-preserved
loop-preserved c = search blocking

pub returns : goal.returns
returns c = listing_done c.loop.invariant (omega arith) c.requires.1
