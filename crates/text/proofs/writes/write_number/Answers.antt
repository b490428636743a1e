use Rattle.text.proofs.Placing.{places}
use Rattle.text.proofs.writes.write_number.Goals as goal

-- `write_number`: from the last digit to the first. Assumes nothing.

pub loop-i-init : goal.loop-i-init
loop-i-init c = search places

pub loop-i-preserved : goal.loop-i-preserved
loop-i-preserved c = search places

pub returns : goal.returns
returns c = search places
