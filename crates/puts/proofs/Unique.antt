-- Two replies that keep the promise of a put are one: words that hold a plan decide the words afterwards and the queue that is handed up.
-- Assumes nothing.
use Prim.Native.Nat.{ℕ, ◌<◌}
use mathlib.Core.Path.{◌≡◌, sym, ◌∙◌}
use mathlib.Core.List.{List, [], ◌++◌}
use lib.ListN.{take}
use Rattle.std.specs.Prelude.{Result}
use Rattle.rules.specs.declared.Refusal.{Refusal}
use Rattle.rules.specs.Sizes.{most_entries}
use Rattle.rules.specs.Routes.{Plan, in_force, put_plan}
use Rattle.rules.specs.Reports.{push}
use Rattle.edges.proofs.Unique.{one_words as one_edges}
use Rattle.routes.proofs.Unique.{one_words}
use Rattle.puts.specs.declared.put.Heads.{Heads}
use Rattle.puts.specs.Puts.{Asked, PutDone, PutPromised}

-- what the heads of a put queue
abbrev pub queue_of : (h : Heads) (came went gone : List ℕ) → List ℕ
queue_of h came went gone = push [] (take h.came came ++ (take h.went went ++ take h.gone gone))

module _ (p : Plan) (o : ℕ) (l : List ℕ) where
  pub put_once : {r₁ e₁ came₁ went₁ gone₁ r₂ e₂ came₂ went₂ gone₂ : List ℕ} {a₁ a₂ : Result Heads Refusal}
      (x : PutDone p o l r₁ e₁ came₁ went₁ gone₁ a₁) (y : PutDone p o l r₂ e₂ came₂ went₂ gone₂ a₂)
      → (r₁ ≡ r₂) × (e₁ ≡ e₂)
      × (queue_of x.heads came₁ went₁ gone₁ ≡ queue_of y.heads came₂ went₂ gone₂)
  put_once x y =
      (one_words x.desked.routes y.desked.routes, one_edges x.desked.edges y.desked.edges, x.queued ∙ sym y.queued)

module _ {r e expected l : List ℕ} {n o : ℕ} (p : Plan) (k : Asked r e p expected n o)
    (full : most_entries < in_force (put_plan p o l).desk.routes) where
  pub refused_once : {r₁ e₁ r₂ e₂ c c₁ c₂ w w₁ w₂ g g₁ g₂ : List ℕ} {a₁ a₂ : Result Heads Refusal}
      → PutPromised r e expected n o l r₁ e₁ c c₁ w w₁ g g₁ a₁ → PutPromised r e expected n o l r₂ e₂ c c₂ w w₂ g g₂ a₂
      → (a₁ ≡ a₂) × (r₁ ≡ r₂) × (e₁ ≡ e₂)
  refused_once x y =
      let a = x.full p k full in
      let b = y.full p k full in
      (a.0 ∙ sym b.0, a.1 ∙ sym b.1, a.2 ∙ sym b.2)
