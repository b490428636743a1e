use Rattle.std.proofs.Common.{◌≡◌, length}
use Rattle.rules.specs.Sizes.{most_entries}
use Rattle.routes.proofs.Snaps.{Scan}
use Rattle.routes.proofs.snap.snapshot.Given as goal

abbrev pub invariant-loop-entry : goal.invariant-loop-entry
invariant-loop-entry l =
    Scan l.entries l.expected l.initial.out l.plan.jobs l.owner.0 l.out l.valid l.invalid l.violations l.joined l.entry-index
    × (length l.out ≡ most_entries)
