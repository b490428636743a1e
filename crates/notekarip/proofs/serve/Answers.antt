-- `serve`: each line is answered within the bytes, and what it wrote goes out. Assumes nothing.
use Rattle.std.proofs.Common.{refl, arith}
use Rattle.stores.specs.Promise.{slices}
use Rattle.notekarip.proofs.Serving.{serving_none, serving_next, serving_all}
use Rattle.notekarip.proofs.serve.Goals as goal

pub loop-at-init : goal.loop-at-init
loop-at-init g c = (omega arith, omega arith, refl, refl, refl, refl, serving_none _ _ _ _ _ _)

pub loop-at-preserved : goal.loop-at-preserved
loop-at-preserved g c =
    let (within, counted, room, edges, routes, times, so_far) = c.loop-at.invariant in
    let t = c.answer_line-t in (
      omega arith,
      omega arith,
      omega arith,
      omega arith,
      omega arith,
      omega arith,
      serving_next {first = slices c.args.base.now c.args.spans.now c.args.edges.now c.args.routes.now c.args.times.now}
          {s' = slices c.args.base.now c.args.spans.now t.new.edges t.new.routes t.new.times} so_far t.ensures c.in_ok-write_all.ensures.bytes (omega arith),
    )

pub returns : goal.returns
returns g c =
    let (within, counted, room, edges, routes, times, so_far) = c.loop-at.invariant in
    serving_all {first = slices c.args.base.now c.args.spans.now c.args.edges.now c.args.routes.now c.args.times.now} so_far c.loop-at-test.false
