use Rattle.std.proofs.Common.{refl}
use Rattle.puts.proofs.Putting.{put_senseless, put_stops}
use Rattle.puts.proofs.put.put.Goals as goal

pub returns-in-Err : goal.returns-in-Err
returns-in-Err c =
    put_senseless c.snapshot-snap.ensures c.requires.sizes.2 c.crowded.ensures c.if-crowded.false refl refl refl c.in-Err.ensures _ refl refl

pub returns-in-Ok : goal.returns-in-Ok
returns-in-Ok c =
    put_stops c.snapshot-snap.ensures c.requires.sizes.2 c.crowded.ensures c.if-crowded.false refl refl refl c.in-Ok.ensures refl
