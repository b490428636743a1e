use Rattle.text.proofs.Decimals.{widths}
use Rattle.text.proofs.writes.width.Goals as goal

-- `width`: one digit less at each turn. Assumes nothing.

pub loop-y-init : goal.loop-y-init
loop-y-init c = search widths

pub overflow_add-n : goal.overflow_add-n
overflow_add-n c = search widths

pub loop-y-smaller : goal.loop-y-smaller
loop-y-smaller c = search widths

pub loop-y-preserved : goal.loop-y-preserved
loop-y-preserved c = search widths

pub returns : goal.returns
returns c = search widths
