use Rattle.routes.proofs.Common.{front_of, back_of}
use Rattle.routes.proofs.Swapping.{links_done}
use Rattle.routes.proofs.exchange.exchange_links.Goals as goal

pub returns : goal.returns
returns c =
    let f = c.same_front-f.ensures in
    let b = c.same_back-b.ensures in
    links_done (front_of _ _ _ f.same) (back_of _ _ _ _ f.inside.0 f.inside.1 b.same) c.exchange_part.ensures
