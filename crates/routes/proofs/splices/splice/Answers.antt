use Rattle.std.proofs.Common.{arith, ◌∙◌, length-take-le, length-drop}
use Rattle.routes.proofs.Splicing.{set_whole, spliced}
use Rattle.routes.proofs.splices.splice.Goals as goal

pub returns : goal.returns
returns c =
    let (long, room, first, last) = c.requires in
    spliced _ _ _ _ _ c.copy_from_slice.ensures.after (c.copy_to.ensures ∙ set_whole _ _ (omega arith)) c.copy_from_slice-2.ensures.after long room first last
