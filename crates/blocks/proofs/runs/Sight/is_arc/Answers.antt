use Rattle.std.proofs.Common.{arith, rules, ltb-true, ◌∙◌, sym}
use Rattle.blocks.proofs.Running.{arc_out, arc_loose, arc_joins}
use Rattle.blocks.proofs.runs.Sight.is_arc.Goals as goal
use Rattle.blocks.proofs.runs.Sight.is_arc.Goals.{then-u-self, else-u-self, then-v-self, else-v-self}

pub returns-then-is_tight : goal.returns-then-is_tight
returns-then-is_tight c =
    elim c.if-v-self.branch [
      | then-v-self w ↦ search (rules, arc_joins)
      | else-v-self w ↦ elim c.if-u-self.branch [
        | then-u-self z ↦ absurd (omega (arith, ltb-true _ _ (sym z.t-10-is ∙ sym w.value-is ∙ c.if-is_tight.true)))
        | else-u-self z ↦ absurd (omega (arith, ltb-true _ _ (sym z.t-10-is ∙ sym w.value-is ∙ c.if-is_tight.true)))
      ]
    ]

pub returns-else-is_tight : goal.returns-else-is_tight
returns-else-is_tight c =
    elim c.if-v-self.branch [
      | then-v-self w ↦ search (rules, arc_loose)
      | else-v-self w ↦ search (rules, arc_out)
    ]
