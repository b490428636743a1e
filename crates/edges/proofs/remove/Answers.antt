use Prim.Native.Nat.{◌<◌}
use native.Mathlib.Omega.{arith}
use mathlib.Core.Path.{ap, ◌∙◌}
use Rattle.std.specs.Prelude.{Ok}
use Rattle.edges.proofs.Seen.{remove_absent, remove_bad, remove_crowded, remove_lessened, remove_lost, remove_never, remove_short, remove_tail_short, remove_vanished}
use Rattle.edges.proofs.remove.Goals as goal
use Rattle.edges.proofs.remove.Goals.{then-w-gt-ROOM-via-then-w-gt-ROOM, then-w-gt-ROOM-via-else-w-gt-ROOM+then-w-t, then-w-gt-ROOM-via-else-w-gt-ROOM+else-w-t+then-w-v}

pub returns-in_err-look : goal.returns-in_err-look
returns-in_err-look c = remove_bad c.look.ensures c.requires.1 c.requires.2 c.in_err-look.was

pub returns-in-Nowhere : goal.returns-in-Nowhere
returns-in-Nowhere c = remove_absent c.look.ensures c.requires.1 c.requires.2 (c.in_ok-look.was ∙ ap Ok c.in-Nowhere.is)

pub returns-then-n-gt1 : goal.returns-then-n-gt1
returns-then-n-gt1 c =
    let many : 1 < c.times-n.result = omega arith in
    remove_lessened c.look.ensures c.requires.1 c.requires.2 (c.in_ok-look.was ∙ ap Ok c.in-At.is) c.times-n.ensures many c.retime.ensures

pub returns-in_err-s-in-At : goal.returns-in_err-s-in-At
returns-in_err-s-in-At c =
    remove_lost c.look.ensures c.requires.1 c.requires.2 (c.in_ok-look.was ∙ ap Ok c.in-At.is) c.look-in-At.ensures c.in_err-s-in-At.was

pub returns-in_default : goal.returns-in_default
returns-in_default c =
    remove_never c.look.ensures c.requires.1 c.requires.2 (c.in_ok-look.was ∙ ap Ok c.in-At.is) c.look-in-At.ensures
    (c.in_ok-s-in-At.was ∙ ap Ok c.in_default.is)

pub returns-then-w-gt-ROOM : goal.returns-then-w-gt-ROOM
returns-then-w-gt-ROOM c =
    elim c.then-w-gt-ROOM.branch [
      | then-w-gt-ROOM-via-then-w-gt-ROOM w ↦ remove_crowded c.args.e.now c.args.from.0 c.args.to.0 c.from-w.ensures w.if-w-gt-ROOM.true
      | then-w-gt-ROOM-via-else-w-gt-ROOM+then-w-t w ↦
          remove_short c.look.ensures c.requires.1 c.requires.2 (c.in_ok-look.was ∙ ap Ok c.in-At.is) c.from-w.ensures w.if-w-t.true
      | then-w-gt-ROOM-via-else-w-gt-ROOM+else-w-t+then-w-v w ↦
          remove_tail_short c.look.ensures c.requires.1 c.requires.2 (c.in_ok-look.was ∙ ap Ok c.in-At.is) c.look-in-At.ensures
          (c.in_ok-s-in-At.was ∙ ap Ok c.in-At-2.is) c.from-w.ensures w.if-w-v.true
    ]

pub returns-else-w-v : goal.returns-else-w-v
returns-else-w-v c =
    remove_vanished c.look.ensures c.requires.1 c.requires.2 (c.in_ok-look.was ∙ ap Ok c.in-At.is) c.look-in-At.ensures
    (c.in_ok-s-in-At.was ∙ ap Ok c.in-At-2.is) c.from-w.ensures c.times-n.ensures (omega arith) c.vanish.ensures
