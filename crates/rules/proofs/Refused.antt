-- Refusals: a call is refused with r exactly if r's check is the first of its checks whose test holds; every call's checks stand in the
-- document's order, and none is for 12; a refused call changes nothing. Assumes nothing.
use Prim.Native.Nat.{ℕ}
use mathlib.Core.Path.{◌≡◌, refl, ap}
use mathlib.Core.Bool.{Bool, true, false, cond, ◌||◌}
use mathlib.Core.Option.{none, some}
use mathlib.Core.Logic.{◌↔◌}
use mathlib.Core.List.{List, [], ◌∷◌, map}
use native.Mathlib.Omega.{arith}
use lib.Dec.{eqb}
use Rattle.rules.specs.declared.Refusal.{Refusal}
use Rattle.rules.specs.declared.Refusal.TheVariants.{BadStore}
use Rattle.rules.specs.Calls.{Ask, Call, Turn, accepted, change_of, checks_of, refusal, refused, reply, step, to_blocks, to_load}
use Rattle.rules.specs.Calls.{to_move, to_put, to_reset, to_retract, to_score, to_starts, to_verdict}
use Rattle.rules.specs.Given.{Given, all_checks, by_later, by_this, is_part, refusal_order, test_of}
use Rattle.rules.specs.Lists.{any_of, memb}
use Rattle.rules.specs.Refusals.{Check, first_of, number_of}
use Rattle.rules.specs.Routes.{State}
use Rattle.rules.specs.Scores.{no_change}
use Rattle.rules.proofs.Ranges.{clash}

-- ── what a refused call leaves ──

-- "Refusals 1 to 11 change nothing: waiting marks, store .. stay, and the score change is zero"
pub refused_stays : (s : State) (c : Call) (r : Refusal) → refusal s c ≡ some r → ((step s c).state ≡ s) × (reply s c ≡ refused r)
unfolding step
refused_stays s c r e =
    let t : step s c ≡ record { state = s; reply = refused r } = rw e in
    (ap (λ (u : Turn). u.state) t, ap (λ (u : Turn). u.reply) t)

-- "and the score change is zero"
pub refused_zero : (s : State) (c : Call) (r : Refusal) → refusal s c ≡ some r → change_of (reply s c) ≡ no_change
refused_zero s c r e = ap change_of (refused_stays s c r e).1

-- any other call is accepted
pub accepted_step : (s : State) (c : Call) → refusal s c ≡ none → step s c ≡ accepted s c.asks
unfolding step
accepted_step s c e = rw e

-- ── which refusal is given ──

first_given : (l : List Check) (r : Refusal) → (first_of l ≡ some r) ↔ Given r l
first_given l r = (to l, from)
  where
    to : (l : List Check) → first_of l ≡ some r → Given r l
    to [] e = absurd (let z : ◌≡◌ {A = ℕ} 0 1 = cc in omega arith)
    to ((q, true) ∷ l) e = let z : q ≡ r = cc in rw z (by_this refl)
    to ((q, false) ∷ l) e = by_later refl (to l e)

    from : {l : List Check} → Given r l → first_of l ≡ some r
    from (by_this e) = rw e
    from (by_later e g) = rw e (from g)

first_none : (l : List Check) → (first_of l ≡ none) ↔ (any_of test_of l ≡ false)
first_none l = (to l, from l)
  where
    to : (l : List Check) → first_of l ≡ none → any_of test_of l ≡ false
    to [] e = refl
    to ((q, true) ∷ l) e = absurd (let z : ◌≡◌ {A = ℕ} 0 1 = cc in omega arith)
    to ((q, false) ∷ l) e = to l e

    from : (l : List Check) → any_of test_of l ≡ false → first_of l ≡ none
    from [] e = refl
    from ((q, true) ∷ l) e = clash refl e
    from ((q, false) ∷ l) e = from l e

-- "given exactly if"
pub refusal_given : (s : State) (c : Call) (r : Refusal) → (refusal s c ≡ some r) ↔ Given r (all_checks s c)
unfolding refusal
refusal_given s c r = first_given (all_checks s c) r

pub refusal_none : (s : State) (c : Call) → (refusal s c ≡ none) ↔ (any_of test_of (all_checks s c) ≡ false)
unfolding refusal
refusal_none s c = first_none (all_checks s c)

-- ── their order ──

abbrev number : Check → ℕ
number k = number_of k.0

pub in_order : (s : State) (c : Call) → is_part (map number (all_checks s c)) refusal_order ≡ true
in_order s c = go s c.asks
  where
    go : (s : State) (a : Ask) → is_part (9 ∷ map number (checks_of s a)) refusal_order ≡ true
    go s (to_load l) = refl
    go s to_reset = refl
    go none (to_retract o) = refl
    go (some p) (to_retract o) = refl
    go none (to_put o l) = refl
    go (some p) (to_put o l) = refl
    go none to_score = refl
    go (some p) to_score = refl
    go none (to_verdict k) = refl
    go (some p) (to_verdict k) = refl
    go none (to_starts k) = refl
    go (some p) (to_starts k) = refl
    go none (to_blocks os k) = refl
    go (some p) (to_blocks os k) = refl
    go none (to_move o m k) = refl
    go (some p) (to_move o m k) = refl

-- so a refusal that is given has its place in that order
module _ (r : Refusal) where
  this_place : (b x y c : Bool) → (y ≡ true → c ≡ true) → cond b x y ≡ true → b || c ≡ true
  this_place true x y c f h = refl
  this_place false x y c f h = f h

  later_place : (a b x y c : Bool) → (x ≡ true → c ≡ true) → (y ≡ true → c ≡ true) → cond b x y ≡ true → a || c ≡ true
  later_place true b x y c f g h = refl
  later_place false true x y c f g h = f h
  later_place false false x y c f g h = g h

  has_place : {l : List Check} → Given r l → (m : List ℕ) → is_part (map number l) m ≡ true → memb (number_of r) m ≡ true
  has_place (by_this e) [] h = clash h refl
  has_place (by_this {b} {l} e) (j ∷ m) h = this_place (eqb (number_of r) j) _ _ _ (has_place {l = (r, b) ∷ l} (by_this e) m) h
  has_place (by_later e g) [] h = clash h refl
  has_place (by_later {q} {b} {l} e g) (j ∷ m) h =
      later_place (eqb (number_of r) j) (eqb (number_of q) j) _ _ _ (has_place g m) (has_place {l = (q, b) ∷ l} (by_later e g) m) h

-- and 12 has none
pub never_twelve : (s : State) (c : Call) → refusal s c ≡ some BadStore → ⊥
never_twelve s c e = clash (has_place BadStore ((refusal_given s c BadStore).0 e) refusal_order (in_order s c)) refl
