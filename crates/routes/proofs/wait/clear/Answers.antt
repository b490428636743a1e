use Rattle.routes.proofs.Waits.{clearing}
use Rattle.routes.proofs.wait.clear.Goals as goal

pub returns : goal.returns
returns c = search clearing
