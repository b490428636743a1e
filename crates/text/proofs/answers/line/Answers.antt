use Rattle.text.proofs.Pieces.{told_line}
use Rattle.text.proofs.answers.line.Goals as goal

-- `line`: a word, the fields of the numbers, and LF. Assumes nothing.

pub returns : goal.returns
returns g c = told_line g.T.Into.converts c.args.list.now c.bytes-p.ensures c.fields_of-q.ensures c.byte.ensures
