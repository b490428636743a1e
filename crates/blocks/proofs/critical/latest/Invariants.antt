use Rattle.std.proofs.Common.{◌≡◌, drop}
use Rattle.blocks.proofs.Settling.{lowest}
use Rattle.blocks.proofs.critical.latest.Given as goal

-- what is found is what is left to find
abbrev pub invariant-loop-w : goal.invariant-loop-w
invariant-loop-w l = lowest l.late l.n l.low (drop l.w-index l.row) ≡ lowest l.late l.n l.top l.row
