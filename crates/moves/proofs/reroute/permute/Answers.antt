use mathlib.Core.Path.{refl}
use Rattle.moves.proofs.Laid.{place_at}
use Rattle.moves.proofs.reroute.permute.Goals as goal

pub bounds-old-a : goal.bounds-old-a
bounds-old-a c = place_at c.requires c.loop-i.i c.loop-i-test.true refl
