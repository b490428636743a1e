use Rattle.starts.proofs.Walking.{walking}
use Rattle.starts.proofs.walks.walk.Goals as goal

-- `walk`. Assumes nothing.

pub loop-v-init : goal.loop-v-init
loop-v-init c = search walking

pub returns-then-fuel-eq0 : goal.returns-then-fuel-eq0
returns-then-fuel-eq0 c = search (walking, c.in-Some.ensures)

pub loop-v-preserved : goal.loop-v-preserved
loop-v-preserved c = search (walking, c.in-Some.ensures)

pub returns : goal.returns
returns c = search (walking, c.in_default.ensures)
