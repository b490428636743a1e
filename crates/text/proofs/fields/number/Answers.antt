use native.Mathlib.Omega.{arith}
use Rattle.text.proofs.Scans.{number_ends, number_none, number_rest, number_zero_ends, number_zero, number_zeros}
use Rattle.text.proofs.fields.number.Goals as goal
use Rattle.text.proofs.fields.number.Goals.{else-next-line-via-then-next-line+else-is_some, else-next-line-via-else-next-line}

-- `number`: by the first digit; behind a 0 there may be none. Assumes nothing.

pub returns-in_err-get : goal.returns-in_err-get
returns-in_err-get c = rw c.from_residual.ensures (number_ends c.args.line.now c.args.from c.in_err-get.ensures.lookup.3)

pub returns-in_err-d : goal.returns-in_err-d
returns-in_err-d c =
    let L = c.in_ok-get.ensures.lookup in
    rw c.from_residual-in_err-d.ensures (number_none c.args.line.now c.args.from L.3.0 (rw (L.4 (omega arith) 0) at c.in_err-d.ensures))

pub returns-then-d-gt0 : goal.returns-then-d-gt0
returns-then-d-gt0 c =
    let L = c.in_ok-get.ensures.lookup in
    number_rest c.args.line.now c.args.from L.3.0 (rw (L.4 (omega arith) 0) at c.in_ok-d.ensures) c.rest_of.result c.rest_of.ensures

pub returns-then-is_some : goal.returns-then-is_some
returns-then-is_some c =
    let L = c.in_ok-get.ensures.lookup in
    number_zeros c.args.line.now c.args.from L.3.0 (rw (L.4 (omega arith) 0) at c.in_ok-d.ensures) (omega arith) (omega arith)
    c.digit-then-next-line.result c.digit-then-next-line.ensures (rw (← c.is_some.ensures) c.if-is_some.true)

pub returns : goal.returns
returns c =
    let L = c.in_ok-get.ensures.lookup in
    elim c.else-next-line.branch [
      | else-next-line-via-then-next-line+else-is_some w ↦
          number_zero c.args.line.now c.args.from L.3.0 (rw (L.4 (omega arith) 0) at c.in_ok-d.ensures) (omega arith) (omega arith)
          w.digit-then-next-line.result w.digit-then-next-line.ensures (rw (← w.is_some.ensures) w.if-is_some.false)
      | else-next-line-via-else-next-line w ↦
          number_zero_ends c.args.line.now c.args.from L.3.0 (rw (L.4 (omega arith) 0) at c.in_ok-d.ensures) (omega arith) (omega arith)
    ]
