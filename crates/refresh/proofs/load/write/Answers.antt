use native.Mathlib.Omega.{arith}
use mathlib.Core.Path.{sym, ◌∙◌}
use lib.Seq.{length-take-le}
use Rattle.refresh.proofs.Fresh.{sizes, fixing, laid}
use Rattle.rules.specs.Sizes.{edges_length}
use Rattle.refresh.proofs.load.write.Goals as goal

-- `write`: base, durations, edges and routes. Assumes nothing.

pub write_base-requires : goal.write_base-requires
write_base-requires c =
    let S = sizes _ c.requires.fine in
    (c.requires.base_long, S.fixed, sym S.pairs, omega (arith, S.expected, S.jobs))

pub write_spans-requires : goal.write_spans-requires
write_spans-requires c =
    let S = sizes _ c.requires.fine in
    (omega (arith, S.durations, S.jobs), c.requires.spans_long)

pub slice_bounds-fixed-end-2 : goal.slice_bounds-fixed-end-2
slice_bounds-fixed-end-2 c =
    sym (length-take-le edges_length c.args.edges.now c.requires.edges_long)

pub fixed-requires : goal.fixed-requires
fixed-requires c =
    fixing _ c.requires.fine (length-take-le edges_length c.args.edges.now c.requires.edges_long)

pub returns : goal.returns
returns c =
    laid _ c.requires.fine c.requires.routes_long c.write_base.ensures c.write_spans.ensures
    c.fixed.ensures (c.fixed.auto.e ∙ length-take-le edges_length c.args.edges.now c.requires.edges_long)
    c.no_routes.ensures
