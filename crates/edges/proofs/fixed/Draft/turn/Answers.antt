use borrow.Author.Rules.{rules}
use Rattle.edges.proofs.Closing.{ins_fits, out_fits, turnable, turned}
use Rattle.edges.proofs.fixed.Draft.turn.Goals as goal

pub sums-requires : goal.sums-requires
sums-requires c = (search rules, search out_fits)

pub sums-requires-2 : goal.sums-requires-2
sums-requires-2 c = (search rules, search ins_fits)

pub scatter-requires : goal.scatter-requires
scatter-requires c =
    turnable c.requires.draft c.sums.ensures c.sums-2.ensures c.copy_from_slice.ensures.after

pub returns : goal.returns
returns c =
    turned c.requires.draft c.sums.ensures c.sums-2.ensures c.copy_from_slice.ensures.after c.scatter.ensures
