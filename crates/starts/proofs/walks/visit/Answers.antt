use Rattle.starts.proofs.Walking.{walking}
use Rattle.starts.proofs.walks.visit.Goals as goal

-- `visit`. Assumes nothing.

pub returns-clause-visit : goal.returns-clause-visit
returns-clause-visit c = search walking
