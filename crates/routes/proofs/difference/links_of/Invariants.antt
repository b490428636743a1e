use Rattle.std.proofs.Common.{◌≡◌, ◌≤◌, length}
use Rattle.routes.proofs.Linking.{Linking}
use Rattle.routes.proofs.difference.links_of.Given as goal

abbrev pub invariant-loop-w : goal.invariant-loop-w
invariant-loop-w l = (l.last ≤ 65535) × (length l.out ≡ length l.initial.out) × Linking l.s l.out l.n l.last l.w-index
