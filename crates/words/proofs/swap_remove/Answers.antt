use mathlib.Core.Path.{◌∙◌}
use lib.ListN.{length-set}
use borrow.Author.Rules.{rules}
use Rattle.words.proofs.Sweeps.{swap_done}
use Rattle.words.proofs.swap_remove.Goals as goal

pub remove_at-requires : goal.remove_at-requires
remove_at-requires c = rw length-set (search rules)

pub shape_of-a : goal.shape_of-a
shape_of-a c = c.remove_at.auto.a ∙ simp length-set

pub returns : goal.returns
returns c = search swap_done
