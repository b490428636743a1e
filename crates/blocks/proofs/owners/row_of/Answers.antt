use Rattle.blocks.proofs.Stepping.{stepping}
use Rattle.blocks.proofs.owners.row_of.Goals as goal

pub returns-then-all-owner : goal.returns-then-all-owner
returns-then-all-owner c = search stepping

pub returns : goal.returns
returns c = search stepping
