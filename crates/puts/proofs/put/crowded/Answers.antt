use Rattle.puts.proofs.Putting.{crowding}
use Rattle.puts.proofs.put.crowded.Goals as goal

pub returns : goal.returns
returns c = search crowding
