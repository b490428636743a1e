use Rattle.routes.proofs.Exchanging.{exchange_done}
use Rattle.routes.proofs.exchange.exchange.Goals as goal

pub returns : goal.returns
returns c = exchange_done c.exchange_links.ensures c.links_of-n.ensures c.links_of-k.ensures c.if-went-old.false
