use Rattle.lines.proofs.Blocking.{blocks_no, blocks_told}
use Rattle.lines.proofs.critical.blocks_of.Goals as goal

-- `blocks_of`: a refusal, or how many blocks were found and the line of each. Assumes nothing.

pub returns-in-Err : goal.returns-in-Err
returns-in-Err c = blocks_no c.requires c.no.ensures c.in-Err.ensures

pub returns-in-Ok : goal.returns-in-Ok
returns-in-Ok c = blocks_told c.requires c.block_lines.ensures c.line-p.ensures c.in-Ok.ensures
