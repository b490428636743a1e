use borrow.Author.Rules.{rules}
use native.Mathlib.Omega.{arith}
use Rattle.lines.proofs.Gathering.{gather_ends, gather_endless, gather_bad, gather_go, gather_within, gather_turn}
use Rattle.lines.proofs.opens.gather.Goals as goal

-- `gather`: line by line, up to `go`, a line that doesn't fit, or the input's end. Assumes nothing.

pub returns-in_default : goal.returns-in_default
returns-in_default c =
    gather_endless c.loop-at.invariant.0 (omega arith) c.line_end.result c.line_end.ensures c.in_default.not-Some

pub returns-in-None : goal.returns-in-None
returns-in-None c =
    gather_bad c.loop-at.invariant.0 (omega arith) c.in-Some.ensures c.step.new.durations c.step.new.from c.step.new.to c.in-None.ensures

pub returns-in-Some-Go : goal.returns-in-Some-Go
returns-in-Some-Go c =
    let G = c.loop-at.invariant.0 in
    let E = c.in-Some.ensures in
    let L = rw c.in-Some-Go.field-0-is at c.in-Some-Go.ensures in (
      gather_go G (omega arith) E c.step.new.durations c.step.new.from c.step.new.to L,
      omega (arith, E.within),
      omega (arith, E.ahead, G.lines),
      gather_within G (omega arith) E c.step.new.durations c.step.new.from c.step.new.to L,
    )

pub loop-at-preserved : goal.loop-at-preserved
loop-at-preserved c = (
  gather_turn c.loop-at.invariant.0 (omega arith) c.in-Some.ensures c.step.new.durations c.step.new.from c.step.new.to
      (rw c.in-Some-Next.field-0-is at c.in-Some-Next.ensures),
  search rules,
  search rules,
  search rules,
)

pub returns : goal.returns
returns c = gather_ends c.loop-at.invariant.0 (omega arith)
