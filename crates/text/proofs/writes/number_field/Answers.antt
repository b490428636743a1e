use Rattle.text.proofs.Pieces.{pieces}
use Rattle.text.proofs.writes.number_field.Goals as goal

-- `number_field`: digits behind a space. Assumes nothing.

pub byte-p-requires : goal.byte-p-requires
byte-p-requires c = search pieces

pub write_number-requires : goal.write_number-requires
write_number-requires c = search pieces

pub shape_of-out : goal.shape_of-out
shape_of-out c = search pieces

pub returns : goal.returns
returns c = search pieces
