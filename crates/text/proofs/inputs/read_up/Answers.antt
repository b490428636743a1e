-- `read_up`: a read puts its bytes behind those before it. Assumes nothing.
use Rattle.std.proofs.Common.{arith}
use Rattle.text.proofs.Reading.{read_more, read_none}
use Rattle.text.proofs.inputs.read_up.Goals as goal
use Rattle.text.proofs.inputs.read_up.Goals.{in-Ok, in-Err+else-ne}

pub loop-preserved : goal.loop-preserved
loop-preserved g c =
    let (within, so_far) = c.loop.invariant in
    elim c.match-read.branch [
      | in-Ok w ↦
          let (few, same) = w.in-Ok.ensures.bound in
          rw w.n-is (omega (arith, few), read_more _ _ _ _ _ _ _ _ within few so_far w.in-Ok.ensures.bytes.0)
      | in-Err+else-ne w ↦ rw w.n-is (omega arith, read_none _ _ _ _ _ _ _ within so_far w.in-Err.ensures.bytes)
    ]
