use mathlib.Core.List.{◌++◌}
use lib.ListN.{drop}
use Rattle.text.specs.Grammar.{digits_of}
use Rattle.text.proofs.Scans.{Scanning}
use Rattle.text.proofs.fields.rest_of.Given as goal

abbrev pub invariant-loop-i : goal.invariant-loop-i
invariant-loop-i l = Scanning (digits_of l.first ++ drop l.from l.line) l.line l.from l.i l.x
