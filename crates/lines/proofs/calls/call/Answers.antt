use mathlib.Core.Path.{refl}
use Rattle.lines.proofs.Calling.{unasked, calling}
use Rattle.lines.proofs.calls.call.Goals as goal

-- `call`: a word with numbers that fit it asks for one thing, and its function answers that. Assumes nothing.

pub put-requires : goal.put-requires
put-requires c = search calling

pub returns-in-Put : goal.returns-in-Put
returns-in-Put c = search calling

pub returns-in-Cut : goal.returns-in-Cut
returns-in-Cut c = search calling

pub returns-in-Show : goal.returns-in-Show
returns-in-Show c = search calling

pub returns-in-Crit : goal.returns-in-Crit
returns-in-Crit c = search calling

pub returns-in_default : goal.returns-in_default
returns-in_default c = (λ q A. unasked c.args.owners c.args.numbers.now q c.args.word A.is c.in_default.not-Put c.in_default.not-Cut c.in_default.not-Show c.in_default.not-Crit, record { store = refl; bytes = refl })
