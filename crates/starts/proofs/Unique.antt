-- Two replies that keep a promise are one, and leave the same words. Which line_up `line_up` leaves is free. Assumes nothing.
use Rattle.std.proofs.Common.{◌≡◌, ℕ, ◌+◌, ◌-◌, ◌<◌, ◌≤◌, Bool, true, false, ◌⊎◌, List, [], length, get_or, drop, sym, refl, ap, ◌∙◌, subst, inl, inr, arith, get_or-drop, ext_get_or}
use mathlib.Core.Option.{none}
use Rattle.rules.specs.Graphs.{LineUp}
use Rattle.rules.specs.Reports.{push}
use Rattle.rules.specs.Shown.{order}
use Rattle.rules.specs.Sizes.{longest}
use Rattle.rules.proofs.Orders.{lineup_answered}
use Rattle.rules.proofs.Ranges.{lt_or_le}
use Rattle.edges.specs.Edges.{Model, Holds}
use Rattle.graphs.specs.Falls.{Steady}
use Rattle.graphs.specs.Graph.{Below, at, live}
use Rattle.graphs.specs.Sound.{Seeded, Sound}
use Rattle.starts.specs.Backs.{headed, Judges}
use Rattle.starts.specs.Lines.{LinedUp, Lines, Lows, Verdict}
use Rattle.starts.specs.Pulls.{Full}
use Rattle.starts.specs.Walks.{Walks}

-- ── lists that are one ──

pub same_beyond : (n : ℕ) (l m : List ℕ) → drop n l ≡ drop n m → (v : ℕ) → n ≤ v → get_or l v 0 ≡ get_or m v 0
same_beyond n l m q v h =
    let e : n + (v - n) ≡ v = omega arith in
    subst (λ (k : ℕ). get_or l k 0 ≡ get_or m k 0) e
    (sym (get_or-drop n l (v - n) 0) ∙ ap (λ (x : List ℕ). get_or x (v - n) 0) q ∙ get_or-drop n m (v - n) 0)

same_list : (n : ℕ) (l m : List ℕ) → length l ≡ length m → ((v : ℕ) → v < n → at l v ≡ at m v) → drop n l ≡ drop n m → l ≡ m
same_list n l m e f q = ext_get_or 0 l m e (λ v h. go v (lt_or_le v n))
  where
    go : (v : ℕ) → (v < n) ⊎ (n ≤ v) → at l v ≡ at m v
    go v (inl h) = f v h
    go v (inr h) = same_beyond n l m q v h

-- ── the verdict ──

module _ (m : Model) (n : ℕ) where
  never : (l : List ℕ) → LineUp n (live m) l → order n (live m) ≡ none → ⊥
  never l L z = let (k, e, X) = lineup_answered n (live m) l L in let y : ◌≡◌ {A = ℕ} 0 1 = cc in omega arith

  verdict_one : (a b : Bool) → Verdict m n a → Verdict m n b → a ≡ b
  verdict_one true true x y = refl
  verdict_one false false x y = refl
  verdict_one true false (l, L) y = absurd (never l L y)
  verdict_one false true y (l, L) = absurd (never l L y)

  lined : (o : List ℕ) (a : Bool) → LinedUp m n o a → Verdict m n a
  lined o true x = (_, x)
  lined o false x = x

pub line_up_unique : {e : List ℕ} {n : ℕ} {a b : Bool} {o₁ o₂ : List ℕ} → Lines e n a o₁ → Lines e n b o₂
    → (m : Model) → Holds e m → Below n m → a ≡ b
line_up_unique {n} {a} {b} {o₁} {o₂} x y m H w = verdict_one m n a b (lined m n o₁ a (x.is m H w)) (lined m n o₂ b (y.is m H w))

pub judge_unique : {e st heads : List ℕ} {n : ℕ} {a b : Bool} → Judges e st heads n a → Judges e st heads n b
    → (m : Model) → Holds e m → Below n m → Lows n heads → (rank : ℕ → ℕ) → Steady n (live m) (headed heads) (at st) rank → a ≡ b
judge_unique {n} {a} {b} x y m H w g rank S = verdict_one m n a b (x.told m H w g rank S) (y.told m H w g rank S)

-- ── the starts ──

pub full_unique : {e sp : List ℕ} {f : ℕ → ℕ} {st : List ℕ} {n : ℕ} {a b : Bool} {st₁ st₂ : List ℕ} → Full e sp f st n a st₁
    → Full e sp f st n b st₂ → length st₁ ≡ length st₂ → (m : Model) → Holds e m → Below n m → ((u : ℕ) → u < n → at sp u ≤ longest)
    → (a ≡ b) × (st₁ ≡ st₂)
full_unique {n} {a} {b} {st₁} {st₂} x y len m H w d = (same, go a refl)
  where
    same : a ≡ b
    same = verdict_one m n a b (x.verdict m H w) (y.verdict m H w)

    go : (c : Bool) → a ≡ c → st₁ ≡ st₂
    go false e = x.stays e ∙ sym (y.stays (sym same ∙ e))
    go true e = same_list n st₁ st₂ len (λ v h. x.starts e m H w d v h ∙ sym (y.starts (sym same ∙ e) m H w d v h)) (x.beyond ∙ sym y.beyond)

pub walk_unique : {e sp : List ℕ} {f : ℕ → ℕ} {st vs : List ℕ} {n r₁ r₂ : ℕ} {st₁ st₂ : List ℕ} → Walks e sp f st vs n r₁ st₁
    → Walks e sp f st vs n r₂ st₂ → length st₁ ≡ length st₂ → (m : Model) (rank : ℕ → ℕ) → Sound e sp f n m rank
    → Seeded n m f sp st (push [] vs) → (r₁ ≡ r₂) × (st₁ ≡ st₂)
walk_unique {st₁} {st₂} x y len m rank S D =
    let a = x.is m rank S D in
    let b = y.is m rank S D in
    (a.visits ∙ sym b.visits, ext_get_or 0 st₁ st₂ len (λ v h. ap (λ (f : ℕ → ℕ). f v) (a.starts ∙ sym b.starts)))
