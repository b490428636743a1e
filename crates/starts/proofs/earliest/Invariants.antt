use Rattle.std.proofs.Common.{◌≡◌, drop}
use Rattle.starts.proofs.Pulled.{pulled}
use Rattle.starts.proofs.earliest.Given as goal

abbrev pub invariant-loop-u : goal.invariant-loop-u
invariant-loop-u l = pulled l.spans l.starts l.n l.best (drop l.u-index l.u-items) ≡ pulled l.spans l.starts l.n 0 l.u-items
