-- A promise decides the whole of a move: two replies that keep it are one, and leave the same in every lent place. Assumes nothing.
use Prim.Native.Nat.{ℕ}
use native.Mathlib.Omega.{arith}
use mathlib.Core.Path.{◌≡◌, sym, ap, ◌∙◌}
use mathlib.Core.List.{List}
use lib.ListN.{length}
use Rattle.rules.specs.Calls.{to_move}
use Rattle.rules.specs.Moves.{Move}
use Rattle.rules.specs.Routes.{State}
use Rattle.stores.specs.Promise.{Promise, Slices, StandsFor}
use Rattle.stores.specs.Says.{places}
use Rattle.stores.proofs.Tabled.{places_length}
use Rattle.refresh.proofs.Unique.{unique}
use Rattle.moves.specs.Calls.{says_moved}
use Rattle.moves.specs.declared.moved.Moved.{Moved}
use Rattle.rules.specs.declared.Refusal.{Refusal}
use Rattle.std.specs.Prelude.{Result, Ok, Err}

-- no two answers mean the same
pub moved_same : (out : List ℕ) (x y : Result Moved Refusal) → says_moved out x ≡ says_moved out y → x ≡ y
moved_same out (Ok m) (Ok w) e =
    let z : places m.length out ≡ places w.length out = cc in
    let a : m.length ≡ w.length = sym (places_length m.length out) ∙ ap length z ∙ places_length w.length out in
    let b : m.quick ≡ w.quick = cc in
    let c : m.full ≡ w.full = cc in
    rw (a, b, c)
moved_same out (Ok m) (Err r) e = let z : ◌≡◌ {A = ℕ} 0 1 = cc in absurd (omega arith)
moved_same out (Err r) (Ok m) e = let z : ◌≡◌ {A = ℕ} 0 1 = cc in absurd (omega arith)
moved_same out (Err r) (Err q) e = cc

-- of each of the four moves
pub move_unique : {o k : ℕ} {m : Move} {s s₁ s₂ : Slices} {out o₁ o₂ : List ℕ} (t : State) → StandsFor s t → (x y : Result Moved Refusal)
    → Promise (to_move o m k) s s₁ out o₁ (says_moved o₁ x) → Promise (to_move o m k) s s₂ out o₂ (says_moved o₂ y)
    → (x ≡ y) × (s₁ ≡ s₂) × (o₁ ≡ o₂)
move_unique {o₁ = o₁} t h x y p q =
    let (a, b, c) = unique t h p q in
    (moved_same o₁ x y (a ∙ ap (λ (o : List ℕ). says_moved o y) (sym c)), b, c)
