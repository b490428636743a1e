-- Laws of lists: what is read of a list that was written, what heads queue. Assumes nothing.
use Prim.Native.Nat.{ℕ, ◌+◌, ◌≤◌}
use native.Mathlib.Omega.{arith}
use mathlib.Core.Path.{◌≡◌, refl, sym, ap, ◌∙◌}
use mathlib.Core.List.{List, [], ◌∷◌, ◌++◌, map}
use lib.ListN.{length, take, drop}
use lib.Seq.{sets, sets-eq, take_at}
use Rattle.rules.specs.Lists.{Pair}
use Rattle.rules.specs.Reports.{push, head_of}
use Rattle.rules.proofs.Steps.{push_append}
use Rattle.routes.specs.Promises.{Queues}

-- what was written at the front
pub taken : (l x : List ℕ) (k : ℕ) → k ≡ length x → length x ≤ length l → take k (sets l 0 x) ≡ x
taken l x k q h = rw (q, sets-eq x l 0 (omega arith)) (take_at x (drop (0 + length x) l) (length x) refl)

pub queues_none : Queues [] []
queues_none q = refl

pub queues_join : (g h : List ℕ) (a b : List Pair) → Queues g a → Queues h b → Queues (g ++ h) (a ++ b)
queues_join g h a b G H q =
    push_append q g h ∙ ap (λ (x : List ℕ). push x h) (G q) ∙ H (push q (map head_of a))
    ∙ sym (ap (push q) (heads a) ∙ push_append q (map head_of a) (map head_of b))
  where
    heads : (a : List Pair) → map head_of (a ++ b) ≡ map head_of a ++ map head_of b
    heads [] = refl
    heads (e ∷ a) = ap {B = List ℕ} (λ (l : List ℕ). head_of e ∷ l) (heads a)
