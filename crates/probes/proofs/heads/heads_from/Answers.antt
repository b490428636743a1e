use Rattle.probes.proofs.Nexts.{heads_begin, walks_begin}
use Rattle.probes.proofs.heads.heads_from.Goals as goal

pub returns-clause-walks : goal.returns-clause-walks
returns-clause-walks c = walks_begin c.args.on c.view.result c.view.ensures.off c.requires.0.off c.requires.1 c.leads.ensures.chained

pub returns-clause-sees : goal.returns-clause-sees
returns-clause-sees c =
    heads_begin c.args.on c.view.result c.view.ensures.off c.leads.result c.from.ensures c.successors.ensures c.view.ensures.live c.leads.ensures.left
