use Rattle.probes.proofs.Chaining.{chained_begin, links_begin}
use Rattle.probes.proofs.chain.leads_in.Goals as goal

pub returns-clause-chained : goal.returns-clause-chained
returns-clause-chained c = chained_begin c.requires.0 c.from-2.ensures c.from.ensures c.requires.1

pub returns-clause-left : goal.returns-clause-left
returns-clause-left c = links_begin c.args.first c.args.next c.args.head c.from-2.ensures c.from.ensures
