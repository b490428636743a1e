use mathlib.Core.Path.{ap, ◌∙◌}
use Rattle.std.specs.Prelude.{Ok}
use Rattle.edges.proofs.Seen.{add_appeared, add_bad, add_counted, add_crowded, add_full, add_short, add_tail_short}
use Rattle.edges.proofs.add.Goals as goal
use Rattle.edges.proofs.add.Goals.{then-n-ge-ROOM-via-then-n-ge-ROOM, then-n-ge-ROOM-via-else-n-ge-ROOM+then-n-t, then-n-ge-ROOM-via-else-n-ge-ROOM+else-n-t+then-n-q}

pub returns-in_err-p : goal.returns-in_err-p
returns-in_err-p c = add_bad c.look.ensures c.requires.1 c.requires.2 c.in_err-p.was

pub returns-then-n : goal.returns-then-n
returns-then-n c =
    add_full c.look.ensures c.requires.1 c.requires.2 (c.in_ok-p.was ∙ ap Ok c.in-At.is) c.times-n.ensures c.if-n.true

pub returns-else-n : goal.returns-else-n
returns-else-n c =
    add_counted c.look.ensures c.requires.1 c.requires.2 (c.in_ok-p.was ∙ ap Ok c.in-At.is) c.times-n.ensures c.retime.ensures

pub returns-then-n-ge-ROOM : goal.returns-then-n-ge-ROOM
returns-then-n-ge-ROOM c =
    elim c.then-n-ge-ROOM.branch [
      | then-n-ge-ROOM-via-then-n-ge-ROOM w ↦ add_crowded c.args.e.now c.args.from.0 c.args.to.0 c.from-n.ensures w.if-n-ge-ROOM.true
      | then-n-ge-ROOM-via-else-n-ge-ROOM+then-n-t w ↦
          add_short c.look.ensures c.requires.1 c.requires.2 (c.in_ok-p.was ∙ ap Ok c.in-Nowhere.is) c.from-n.ensures w.if-n-t.true
      | then-n-ge-ROOM-via-else-n-ge-ROOM+else-n-t+then-n-q w ↦
          add_tail_short c.args.e.now c.args.from.0 c.args.to.0 c.from-n.ensures c.from-q.ensures w.if-n-q.true c.requires.2
    ]

pub returns-else-n-q : goal.returns-else-n-q
returns-else-n-q c =
    add_appeared c.look.ensures c.requires.1 c.requires.2 (c.in_ok-p.was ∙ ap Ok c.in-Nowhere.is) c.from-n.ensures c.from-q.ensures
    c.appear.ensures
