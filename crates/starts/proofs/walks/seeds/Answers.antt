use Rattle.starts.proofs.Walking.{walking}
use Rattle.starts.proofs.walks.seeds.Goals as goal

-- `seeds`. Assumes nothing.

pub returns : goal.returns
returns c = search walking
