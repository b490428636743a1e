use Rattle.routes.proofs.Reseating.{reseating}
use Rattle.routes.proofs.route.put_route.Goals as goal

pub returns : goal.returns
returns c = search reseating
