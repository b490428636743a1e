use native.Mathlib.Omega.{arith}
use Rattle.lines.proofs.Stepping.{front_set, dur_taken}
use Rattle.lines.proofs.steps.dur_line.Goals as goal

-- `dur_line`: the numbers are kept in front of the table. Assumes nothing.

pub returns-in-Dur : goal.returns-in-Dur
returns-in-Dur c =
    dur_taken (front_set c.args.numbers.now c.args.durations.now c.copy_from_slice.ensures.after c.requires) c.in-Dur.is (omega arith) c.requires
