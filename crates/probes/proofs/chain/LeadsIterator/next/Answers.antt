use Rattle.probes.specs.Aheads.{Chained, links_left}
use Rattle.probes.proofs.Chaining.{advances, links_end, links_first, links_near}
use Rattle.probes.proofs.chain.LeadsIterator.next.Goals as goal

pub returns-then-self-eq0-clause-steps : goal.returns-then-self-eq0-clause-steps
returns-then-self-eq0-clause-steps c = let e = links_end c.requires c.if-self-eq0.true in (e, e)

pub returns-clause-steps : goal.returns-clause-steps
returns-clause-steps c = links_first c.requires c.if-self-eq0.false c.from-self.ensures

pub returns-clause-goes : goal.returns-clause-goes
returns-clause-goes c =
    advances Chained links_left
    (record { falls = c.requires.falls; near = links_near c.requires c.if-self-eq0.false c.from-self.ensures })
    (links_first c.requires c.if-self-eq0.false c.from-self.ensures)
