use Rattle.text.proofs.Pieces.{pieces}
use Rattle.text.proofs.answers.parts.Goals as goal

-- `parts`: a word, two numbers with their signs, and LF. Assumes nothing.

pub bytes-p-requires : goal.bytes-p-requires
bytes-p-requires c = search pieces

pub signed_field-q-requires : goal.signed_field-q-requires
signed_field-q-requires c = search pieces

pub signed_field-r-requires : goal.signed_field-r-requires
signed_field-r-requires c = search pieces

pub byte-requires : goal.byte-requires
byte-requires c = search pieces

pub shape_of-out : goal.shape_of-out
shape_of-out c = search pieces

pub returns : goal.returns
returns c = search pieces
