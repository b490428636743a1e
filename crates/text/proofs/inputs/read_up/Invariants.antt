-- `read_up`: what was read stands in front, and is all that the reader gave. Assumes nothing.
use Rattle.std.proofs.Common.{◌≤◌, length, take}
use Rattle.std.specs.Io.KnownBytes.{Consumes}
use Rattle.text.proofs.inputs.read_up.Given as goal

abbrev pub invariant-loop : goal.invariant-loop
invariant-loop g l = (l.n ≤ length l.input) × Consumes (g.R.Read.remaining l.initial.from) (g.R.Read.remaining l.from) (take l.n l.input)
