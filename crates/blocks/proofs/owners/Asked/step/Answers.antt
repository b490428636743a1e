use Rattle.blocks.proofs.Stepping.{going_next, stepping}
use Rattle.blocks.proofs.owners.Asked.step.Goals as goal

pub loop-i-init : goal.loop-i-init
loop-i-init c = search stepping

pub returns-in-Some : goal.returns-in-Some
returns-in-Some c = search stepping

pub loop-i-preserved : goal.loop-i-preserved
loop-i-preserved c = going_next c.row_of-row.ensures c.loop-i-test.true c.in_default.ensures c.loop-i.invariant

pub returns : goal.returns
returns c = search stepping
