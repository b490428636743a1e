use Rattle.std.proofs.Common.{ℕ}
use Rattle.words.specs.Words.{Gives}
use Rattle.words.proofs.Sweeps.{Calling, Mapping}
use Rattle.words.proofs.map_from.Given as goal

abbrev pub invariant-loop-i : goal.invariant-loop-i
invariant-loop-i g l =
    Calling (λ x y. g.F.Fn.post l.f (x, tt) y) l.k l.initial.a l.a l.i
    × ((h : ℕ → ℕ) → Gives (λ f x y. g.F.Fn.post f (x, tt) y) l.f h → Mapping h l.k l.initial.a l.a l.i)
