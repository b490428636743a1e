-- `open`: `go` on a zeroed store, and the lines behind it. Assumes nothing.
use Rattle.std.proofs.Common.{refl}
use Rattle.notekarip.proofs.Running.{at_ok}
use Rattle.notekarip.proofs.Opening.{opened_prints}
use Rattle.notekarip.proofs.open.Goals as goal

pub returns : goal.returns
returns g c =
    at_ok c.serve.result c.serve.ensures
    (opened_prints _ _ _ _ _ _ _ c.go-answer.result refl refl c.go-answer.ensures c.in_ok-begun.ensures c.narrow.ensures)
