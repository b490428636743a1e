use Rattle.text.proofs.Pieces.{pieces}
use Rattle.text.proofs.writes.signed_field.Goals as goal

-- `signed_field`: digits with their sign behind a space. Assumes nothing.

pub byte-p-requires : goal.byte-p-requires
byte-p-requires c = search pieces

pub write_signed-requires : goal.write_signed-requires
write_signed-requires c = search pieces

pub shape_of-out : goal.shape_of-out
shape_of-out c = search pieces

pub returns : goal.returns
returns c = search pieces
