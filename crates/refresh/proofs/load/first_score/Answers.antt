use mathlib.Core.Path.{refl, sym, ◌∙◌}
use lib.Seq.{length-take-le}
use Rattle.rules.specs.Sizes.{edges_length, spans_length, times_length}
use Rattle.refresh.proofs.Accepting.{rates_is}
use Rattle.refresh.proofs.load.first_score.Goals as goal

pub slice_bounds-anew-end : goal.slice_bounds-anew-end
slice_bounds-anew-end c =
    sym (length-take-le edges_length c.args.edges.now c.requires.2)

pub slice_bounds-anew-end-2 : goal.slice_bounds-anew-end-2
slice_bounds-anew-end-2 c =
    sym (length-take-le spans_length c.args.spans.now c.requires.1)

pub slice_bounds-anew-end-4 : goal.slice_bounds-anew-end-4
slice_bounds-anew-end-4 c =
    sym (length-take-le times_length c.args.times.now c.requires.4)

pub anew-requires : goal.anew-requires
anew-requires c =
    let p = c.requires in (length-take-le edges_length c.args.edges.now p.2, length-take-le spans_length c.args.spans.now p.1, length-take-le times_length c.args.times.now p.4, p.5)

pub returns : goal.returns
returns c =
    let the_anew = c.anew in
    let the_score_of = c.score_of in
    rates_is refl the_anew.ensures (the_anew.auto.times ∙ length-take-le times_length c.args.times.now c.requires.4) the_score_of.ensures
