-- `serve`: the lines before the one at hand are answered. Assumes nothing.
use Rattle.std.proofs.Common.{◌+◌, ◌-◌, ◌≤◌, ◌≡◌, length}
use Rattle.stores.specs.Promise.{slices}
use Rattle.lines.specs.Sizes.{longest_answer}
use Rattle.notekarip.proofs.Serving.{Serving}
use Rattle.notekarip.proofs.serve.Given as goal

abbrev pub invariant-loop-at : goal.invariant-loop-at
invariant-loop-at g l =
    (l.at ≤ length l.input) × (l.line ≤ l.before + l.at) × (length l.out ≡ longest_answer) × (length l.edges ≡ length l.initial.edges)
    × (length l.routes ≡ length l.initial.routes) × (length l.times ≡ length l.initial.times)
    × Serving l.input l.owners l.before (slices l.base l.spans l.initial.edges l.initial.routes l.initial.times) (g.W.Write.contents l.initial.output)
    l.at l.line (slices l.base l.spans l.edges l.routes l.times) l.out (g.W.Write.contents l.output)

abbrev pub decreases-loop-at : goal.decreases-loop-at
decreases-loop-at g l = length l.input - l.at
