use Rattle.text.proofs.Namings.{line_unknown, line_unfit}
use Rattle.text.proofs.parses.parse.Goals as goal

-- `parse`: by the word, then by its fields, then by how many there are. Assumes nothing.

pub returns-in_err-word : goal.returns-in_err-word
returns-in_err-word c = rw c.from_residual.ensures (line_unknown c.args.line.now c.in_err-word.ensures)

pub returns-else-fits : goal.returns-else-fits
returns-else-fits c = line_unfit c.in_ok-word.word c.in_ok-word.ensures c.name.ensures c.in_ok-count.ensures c.if-fits.ensures
