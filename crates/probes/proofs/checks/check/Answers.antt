use Rattle.probes.proofs.Chaining.{falls_blank}
use Rattle.probes.proofs.Judging.{low_more}
use Rattle.probes.proofs.checks.check.Goals as goal

pub index-requires : goal.index-requires
index-requires c = (c.requires.3, low_more c.args.n c.args.old.now c.requires.2 c.requires.5, falls_blank c.new-olds.ensures)

pub index-requires-2 : goal.index-requires-2
index-requires-2 c = (c.requires.4, low_more c.args.n c.args.new.now c.requires.2 c.requires.6, falls_blank c.new-news.ensures)

pub turned_off-requires : goal.turned_off-requires
turned_off-requires c = (
  c.requires.0,
  c.requires.3,
  low_more c.args.n c.args.old.now c.requires.2 c.requires.5,
  c.index-2.ensures.falls,
  falls_blank c.new-off.ensures,
)

pub turned_on-requires : goal.turned_on-requires
turned_on-requires c = (
  c.requires.1,
  c.requires.4,
  low_more c.args.n c.args.new.now c.requires.2 c.requires.6,
  c.index.ensures.falls,
  falls_blank c.new-plus.ensures,
)
