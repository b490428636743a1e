use Rattle.edges.proofs.Gathers.{blank, drafted, listing, whole}
use Rattle.edges.proofs.fixed.fixed.Goals as goal

pub gather-requires : goal.gather-requires
gather-requires c = (blank c.args.e.now (c.fill.ensures.after (λ y h. h)) c.requires.size, listing c.requires)

pub turn-requires : goal.turn-requires
turn-requires c = drafted c.gather.ensures

pub returns : goal.returns
returns c = whole c.gather.ensures c.turn.ensures
