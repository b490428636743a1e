-- What the verdict call answers. Assumes nothing.
use Rattle.std.specs.Prelude.{ℕ, ◌≡◌, List, Result}
use Rattle.std.proofs.Math.Option.{none}
use Rattle.std.proofs.lemmas.List.Edits.{sets}
use Rattle.rules.specs.declared.Refusal.{Refusal}
use Rattle.rules.specs.Routes.{Plan}
use Rattle.rules.specs.Shown.{shown_line_up, shown_cycle}
use Rattle.rules.specs.Calls.{Reply, lined_up, cycled, verdict_of}
use Rattle.rules.specs.Sound.{Sound}
use Rattle.edges.specs.Edges.{Holds}
use Rattle.routes.specs.Desks.{edges_of}
use Rattle.refresh.specs.declared.verdict.Judged.{Judged}
use Rattle.refresh.specs.declared.verdict.Judged.TheVariants.{LineUp, Cycle}
use Rattle.stores.specs.Promise.{answer_of}
use Rattle.stores.specs.Says.{places, says}

-- a line_up of so many jobs, or a cycle of so many
abbrev pub shown_as : List ℕ → Judged → Reply
shown_as out (LineUp n) = lined_up (places n out)
shown_as out (Cycle n) = cycled (places n out)

-- verdict
abbrev pub says_verdict : List ℕ → Result Judged Refusal → Reply
says_verdict out = says (shown_as out)

-- the verdict on a plan, and the answer buffer after it
pub record Showing (p : Plan) (out : List ℕ) (r : Judged) (out' : List ℕ) : Type 0 where
  pub says : shown_as out' r ≡ verdict_of (shown_line_up p) (shown_cycle p)
  pub answers : out' ≡ sets out 0 (answer_of (shown_as out' r))

-- of every plan whose edges are the words e
pub record Shows (e : List ℕ) (n : ℕ) (out : List ℕ) (r : Judged) (out' : List ℕ) : Type 0 where
  pub is : (p : Plan) → Sound p → Holds e (edges_of p) → n ≡ p.base.jobs → Showing p out r out'

-- of a plan that has no line_up
pub record Closing (e : List ℕ) (n : ℕ) (out : List ℕ) (r : Judged) (out' : List ℕ) : Type 0 where
  pub is : (p : Plan) → Sound p → Holds e (edges_of p) → n ≡ p.base.jobs → shown_line_up p ≡ none → Showing p out r out'
