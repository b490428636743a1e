use Rattle.std.proofs.Common.{◌≡◌, length}
use Rattle.blocks.proofs.Settling.{Later}
use Rattle.blocks.proofs.critical.latests.Given as goal

-- the jobs from place i of the order on are settled
abbrev pub invariant-loop-i : goal.invariant-loop-i
invariant-loop-i l = (length l.late ≡ length l.initial.late) × (length l.crit ≡ length l.initial.crit) × Later l.e l.spans l.starts l.order l.n l.top l.i l.late l.crit
