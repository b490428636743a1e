-- Lists of jobs: membership as a test, no job twice. Assumes nothing.
use Prim.Native.Nat.{ℕ, ◌≤◌, ◌<◌, max}
use mathlib.Core.Path.{◌≡◌, refl, sym, ◌∙◌}
use mathlib.Core.Bool.{Bool, true, false, ◌||◌}
use mathlib.Core.Logic.{◌⊎◌, inl, inr, ⊎_elim}
use mathlib.Core.List.{List, [], ◌∷◌, ◌++◌}
use native.Mathlib.Omega.{arith}
use lib.Dec.{eqb}
use lib.ListN.{length}
use borrow.Author.Tests.{eq-eqb, ne_eqb, eqb-true}
use Rattle.rules.specs.Lists.{Once, count, greatest, less, memb}
use Rattle.rules.proofs.Ranges.{clash, count_less, greatest_lub, greatest_ub, less_other}

pub or-true : {a b : Bool} → a || b ≡ true → (a ≡ true) ⊎ (b ≡ true)
or-true {a = true} h = inl refl
or-true {a = false} h = inr h

pub or_false : {a b : Bool} → a || b ≡ false → (a ≡ false) × (b ≡ false)
or_false {a = true} h = clash refl h
or_false {a = false} h = (refl, h)

pub memb_append : (v : ℕ) (l m : List ℕ) → memb v (l ++ m) ≡ memb v l || memb v m
memb_append v [] m = refl
memb_append v (w ∷ l) m = go (eqb v w) (memb_append v l m)
  where
    go : (b : Bool) → memb v (l ++ m) ≡ memb v l || memb v m → b || memb v (l ++ m) ≡ (b || memb v l) || memb v m
    go true e = refl
    go false e = e

pub once_snoc : (l : List ℕ) (v : ℕ) → Once l → memb v l ≡ false → Once (l ++ v ∷ [])
once_snoc [] v o e = (refl, tt)
once_snoc (w ∷ l) v (a, o) e = let (x, y) = or_false {a = eqb v w} e in (go x, once_snoc l v o y)
  where
    go : eqb v w ≡ false → memb w (l ++ v ∷ []) ≡ false
    go x = rw (memb_append w l (v ∷ []), a, ne_eqb w v (λ q. clash (eq-eqb v w (sym q)) x))

-- a list without a job twice, whose jobs pass p, is no longer than p's count
pub once_count : (n : ℕ) (l : List ℕ) (p : ℕ → Bool) → Once l → ((v : ℕ) → memb v l ≡ true → (v < n) × (p v ≡ true))
    → length l ≤ count n p
once_count n [] p o f = omega arith
once_count n (v ∷ l) p (a, o) f =
    let (h, e) = f v (rw (eq-eqb v v refl)) in
    let z = count_less n p v h e in
    let y = once_count n l (less p v) o (λ w m. let (b, c) = f w (go w m) in (b, less_other p v w (λ q. clash m (rw q a)) ∙ c)) in
    omega arith
  where
    go : (w : ℕ) → memb w l ≡ true → eqb w v || memb w l ≡ true
    go w m = rw m (or_one (eqb w v))
      where
        or_one : (b : Bool) → b || true ≡ true
        or_one true = refl
        or_one false = refl

-- ── for code that goes through a list of predecessors ──

abbrev pub greatest_of : (ℕ → ℕ) → List ℕ → ℕ
greatest_of f [] = 0
greatest_of f (v ∷ l) = max (f v) (greatest_of f l)

-- a list that holds just the jobs below n that pass p has the same greatest
pub greatest_list : (n : ℕ) (p : ℕ → Bool) (f : ℕ → ℕ) (l : List ℕ) → ((v : ℕ) → memb v l ≡ true → (v < n) × (p v ≡ true))
    → ((v : ℕ) → v < n → p v ≡ true → memb v l ≡ true) → greatest_of f l ≡ greatest n p f
greatest_list n p f l h g = let a = upper l h in let b = greatest_lub n p f (greatest_of f l) (λ v k e. lower l v (g v k e)) in
    omega arith
  where
    or_one : (b : Bool) → b || true ≡ true
    or_one true = refl
    or_one false = refl

    upper : (m : List ℕ) → ((v : ℕ) → memb v m ≡ true → (v < n) × (p v ≡ true)) → greatest_of f m ≤ greatest n p f
    upper [] k = omega arith
    upper (v ∷ m) k = let (x, y) = k v (rw (eq-eqb v v refl)) in let a = greatest_ub n p f v x y in
        let b = upper m (λ w e. k w (rw e (or_one (eqb w v)))) in omega arith

    lower : (m : List ℕ) (v : ℕ) → memb v m ≡ true → f v ≤ greatest_of f m
    lower [] v e = clash e refl
    lower (w ∷ m) v e =
        ⊎_elim (λ (x : eqb v w ≡ true). rw (eqb-true v w x) (omega arith)) (λ (x : memb v m ≡ true). let a = lower m v x in omega arith)
        (or-true {a = eqb v w} e)
