use borrow.Author.Rules.{rules}
use Rattle.edges.proofs.Drafts.{comes, counts_more, seen_fits, seen_low}
use Rattle.edges.proofs.fixed.Draft.join.Goals as goal

pub times-n-requires : goal.times-n-requires
times-n-requires c = search (rules, seen_low)

pub overflow_add-n : goal.overflow_add-n
overflow_add-n c = search seen_fits

pub retime-requires : goal.retime-requires
retime-requires c = search (rules, seen_low)

pub returns-in-Some : goal.returns-in-Some
returns-in-Some c = search counts_more

pub returns-in-None : goal.returns-in-None
returns-in-None c = search comes
