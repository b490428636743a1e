-- Laws on the jobs 0 to n - 1: the lowest that passes a test, how many pass it, the greatest of a number.
-- Assumes nothing.
use Prim.Native.Nat.{ℕ, zero, suc, ◌+◌, ◌≤◌, ◌<◌, max}
use mathlib.Core.Path.{◌≡◌, refl, ap, subst}
use mathlib.Core.Bool.{Bool, true, false, not, ◌&&◌, cond}
use mathlib.Core.Option.{Option, none, some}
use mathlib.Core.Logic.{◌⊎◌, inl, inr, ⊎_elim}
use native.Mathlib.Omega.{arith}
use native.Mathlib.Nat.{not-suc-le-zero}
use native.Mathlib.Numerals.{add-one}
use lib.Dec.{eqb, ltb}
use borrow.Author.Tests.{eqb-true, eqb-false, eq-eqb, ne_eqb, ltb-true, ltb-false}
use Rattle.rules.specs.Lists.{count, first, greatest, is_some, less, next, nobody, tick}

-- a test, with its answer kept
pub data Test (b : Bool) : Type 0 where
  pass : b ≡ true → Test b
  fail : b ≡ false → Test b

pub test : (b : Bool) → Test b
test true = pass refl
test false = fail refl

-- two jobs are the same, or not
pub same : (v w : ℕ) → (v ≡ w) ⊎ (v ≡ w → ⊥)
same v w = go (test (eqb v w))
  where
    go : Test (eqb v w) → (v ≡ w) ⊎ (v ≡ w → ⊥)
    go (pass e) = inl (eqb-true v w e)
    go (fail e) = inr (eqb-false v w e)

-- a number below suc n is below n, or is n
pub below : {v n : ℕ} → v < suc n → (v < n) ⊎ (v ≡ n)
below {v} {n} h = go (same v n)
  where
    go : (v ≡ n) ⊎ (v ≡ n → ⊥) → (v < n) ⊎ (v ≡ n)
    go (inl e) = inr e
    go (inr k) = inl (omega arith)

-- a test that passes and fails
pub clash : {A : Type 0} {b : Bool} → b ≡ true → b ≡ false → A
clash {A} {b} p q = let z : ◌≡◌ {A = ℕ} 0 1 = cc in let k : ⊥ = omega arith in absurd k

pub and_true : {a b : Bool} → a && b ≡ true → (a ≡ true) × (b ≡ true)
and_true {a = true} h = (refl, h)
and_true {a = false} h = clash h refl

-- `less p v` is p but at v
pub less_other : (p : ℕ → Bool) (v w : ℕ) → (w ≡ v → ⊥) → less p v w ≡ p w
less_other p v w k = rw (ne_eqb w v k) (go (p w))
  where
    go : (b : Bool) → b && true ≡ b
    go true = refl
    go false = refl

pub less_self : (p : ℕ → Bool) (v : ℕ) → less p v v ≡ false
less_self p v = rw (eq-eqb v v refl) (go (p v))
  where
    go : (b : Bool) → b && false ≡ false
    go true = refl
    go false = refl

pub less_true : (p : ℕ → Bool) (v w : ℕ) → less p v w ≡ true → (p w ≡ true) × (w ≡ v → ⊥)
less_true p v w h = ((and_true h).0, λ e. clash (subst (λ x. less p v x ≡ true) e h) (less_self p v))

pub lt_or_le : (a b : ℕ) → (a < b) ⊎ (b ≤ a)
lt_or_le a b = go (test (ltb a b))
  where
    go : Test (ltb a b) → (a < b) ⊎ (b ≤ a)
    go (pass e) = inl (ltb-true a b e)
    go (fail e) = inr (ltb-false a b e)

-- `first` finds the lowest
pub data Found (n : ℕ) (p : ℕ → Bool) : Option ℕ → Type 0 where
  hit : (v : ℕ) → v < n → p v ≡ true → ((w : ℕ) → p w ≡ true → v ≤ w) → Found n p (some v)
  miss : ((w : ℕ) → w < n → p w ≡ false) → Found n p none

pub found : (n : ℕ) (p : ℕ → Bool) → Found n p (first n p)
found zero p = miss (λ w h. absurd (not-suc-le-zero h))
found (suc n) p = go (found n p) (p n) refl
  where
    low : ((w : ℕ) → w < n → p w ≡ false) → (w : ℕ) → p w ≡ true → n ≤ w
    low m w h = ⊎_elim (λ (l : w < n). clash h (m w l)) (λ (l : n ≤ w). l) (lt_or_le w n)

    none_here : ((w : ℕ) → w < n → p w ≡ false) → p n ≡ false → (w : ℕ) → w < suc n → p w ≡ false
    none_here m e w h = ⊎_elim (m w) (λ (q : w ≡ n). rw q e) (below h)

    go : {o : Option ℕ} → Found n p o → (b : Bool) → p n ≡ b → Found (suc n) p (next o n b)
    go (hit v h q l) b e = hit v (omega arith) q l
    go (miss m) true e = hit n (omega arith) e (low m)
    go (miss m) false e = miss (none_here m e)

-- to take one away lowers the count
pub count_same : (n : ℕ) (p q : ℕ → Bool) → ((w : ℕ) → w < n → p w ≡ q w) → count n p ≡ count n q
count_same zero p q h = refl
count_same (suc n) p q h = rw (h n (omega arith), count_same n p q (λ w k. h w (omega arith)))

pub count_less : (n : ℕ) (p : ℕ → Bool) (v : ℕ) → v < n → p v ≡ true → suc (count n (less p v)) ≡ count n p
count_less zero p v h e = absurd (not-suc-le-zero h)
count_less (suc n) p v h e =
    ⊎_elim (λ (l : v < n). rw (less_other p v n (λ (q : n ≡ v). omega arith)) (step (p n) (count_less n p v l e))) last (below h)
  where
    step : (b : Bool) → suc (count n (less p v)) ≡ count n p → suc (tick b (count n (less p v))) ≡ tick b (count n p)
    step true ih = ap suc ih
    step false ih = ih

    last : v ≡ n → suc (tick (less p v n) (count n (less p v))) ≡ tick (p n) (count n p)
    last q = let t : p n ≡ true = rw (← q) e in let u : less p v n ≡ false = rw (← q) (less_self p v) in
        rw (u, t) (ap suc (count_same n (less p v) p (λ w k. less_other p v w (λ (r : w ≡ v). omega arith))))

pub count_le : (n : ℕ) (p : ℕ → Bool) → count n p ≤ n
count_le zero p = omega arith
count_le (suc n) p = go (p n) (count_le n p)
  where
    go : (b : Bool) → count n p ≤ n → tick b (count n p) ≤ suc n
    go true h = omega arith
    go false h = omega arith

-- the greatest is an upper bound, and the least
pub greatest_ub : (n : ℕ) (p : ℕ → Bool) (f : ℕ → ℕ) (v : ℕ) → v < n → p v ≡ true → f v ≤ greatest n p f
greatest_ub zero p f v h e = absurd (not-suc-le-zero h)
greatest_ub (suc n) p f v h e = ⊎_elim (λ (l : v < n). let ih = greatest_ub n p f v l e in omega arith) last (below h)
  where
    last : v ≡ n → f v ≤ max (greatest n p f) (cond (p n) (f n) 0)
    last q = rw (← q, e) (omega arith)

pub greatest_lub : (n : ℕ) (p : ℕ → Bool) (f : ℕ → ℕ) (b : ℕ) → ((v : ℕ) → v < n → p v ≡ true → f v ≤ b) → greatest n p f ≤ b
greatest_lub zero p f b h = omega arith
greatest_lub (suc n) p f b h = go (p n) refl (greatest_lub n p f b (λ v l. h v (omega arith)))
  where
    go : (t : Bool) → p n ≡ t → greatest n p f ≤ b → max (greatest n p f) (cond t (f n) 0) ≤ b
    go true e ih = let k = h n (omega arith) e in omega arith
    go false e ih = omega arith

-- it is 0, or that of some job
pub greatest_at : (n : ℕ) (p : ℕ → Bool) (f : ℕ → ℕ)
    → (greatest n p f ≡ 0) ⊎ ((v : ℕ) × (v < n) × (p v ≡ true) × (greatest n p f ≡ f v))
greatest_at zero p f = inl refl
greatest_at (suc n) p f = go (p n) refl (greatest_at n p f)
  where
    At : ℕ → ℕ → Type 0
    At m g = (g ≡ 0) ⊎ ((v : ℕ) × (v < m) × (p v ≡ true) × (g ≡ f v))

    old : (x : ℕ) → x ≤ greatest n p f → At n (greatest n p f) → At (suc n) (max (greatest n p f) x)
    old x l (inl z) = inl (omega arith)
    old x l (inr (v, h, e, q)) = inr (v, omega arith, e, omega arith)

    go : (t : Bool) → p n ≡ t → At n (greatest n p f) → At (suc n) (max (greatest n p f) (cond t (f n) 0))
    go true e ih =
        ⊎_elim (λ (l : greatest n p f < f n). inr (n, omega arith, e, omega arith)) (λ (l : f n ≤ greatest n p f). old (f n) l ih)
        (lt_or_le (greatest n p f) (f n))
    go false e ih = old 0 (omega arith) ih

pub greatest_same : (n : ℕ) (p : ℕ → Bool) (f g : ℕ → ℕ) → ((v : ℕ) → v < n → p v ≡ true → f v ≡ g v) → greatest n p f ≡ greatest n p g
greatest_same zero p f g h = refl
greatest_same (suc n) p f g h =
    rw (greatest_same n p f g (λ v l. h v (omega arith))) (ap (λ (x : ℕ). max (greatest n p g) x) (go (p n) refl))
  where
    go : (t : Bool) → p n ≡ t → cond t (f n) 0 ≡ cond t (g n) 0
    go true e = h n (omega arith) e
    go false e = refl

pub greatest_tests : (n : ℕ) (p q : ℕ → Bool) (f : ℕ → ℕ) → ((v : ℕ) → v < n → p v ≡ q v) → greatest n p f ≡ greatest n q f
greatest_tests zero p q f h = refl
greatest_tests (suc n) p q f h = rw (h n (omega arith), greatest_tests n p q f (λ v l. h v (omega arith)))

-- the step of a loop that keeps the greatest
pub greatest_more : (i : ℕ) (f : ℕ → ℕ) {b c : ℕ} → b ≡ greatest i (λ v. true) f → c ≡ max b (f i) → c ≡ greatest (i + 1) (λ v. true) f
greatest_more i f p q = rw (add-one, ← p) q

-- ── nobody, and how many ──

pub nobody_true : (n : ℕ) (p : ℕ → Bool) → nobody n p ≡ true → (w : ℕ) → w < n → p w ≡ false
nobody_true n p = go (found n p)
  where
    go : {o : Option ℕ} → Found n p o → not (is_some o) ≡ true → (w : ℕ) → w < n → p w ≡ false
    go (hit v h q l) e = clash e refl
    go (miss m) e = m

pub nobody_false : (n : ℕ) (p : ℕ → Bool) → nobody n p ≡ false → (v : ℕ) × (v < n) × (p v ≡ true)
nobody_false n p = go (found n p)
  where
    go : {o : Option ℕ} → Found n p o → not (is_some o) ≡ false → (v : ℕ) × (v < n) × (p v ≡ true)
    go (hit v h q l) e = (v, h, q)
    go (miss m) e = clash refl e

pub nobody_of : (n : ℕ) (p : ℕ → Bool) → ((w : ℕ) → w < n → p w ≡ false) → nobody n p ≡ true
nobody_of n p m = go (test (nobody n p))
  where
    go : Test (nobody n p) → nobody n p ≡ true
    go (pass e) = e
    go (fail e) = let (v, h, q) = nobody_false n p e in clash q (m v h)

pub count_none : (n : ℕ) (p : ℕ → Bool) → ((w : ℕ) → w < n → p w ≡ false) → count n p ≡ 0
count_none zero p m = refl
count_none (suc n) p m = rw (m n (omega arith)) (count_none n p (λ w h. m w (omega arith)))

pub count_all_lem : (n : ℕ) → count n (λ v. true) ≡ n
count_all_lem zero = refl
count_all_lem (suc n) = ap suc (count_all_lem n)

pub count_zero : (n : ℕ) (p : ℕ → Bool) → count n p ≡ 0 → (w : ℕ) → w < n → p w ≡ false
count_zero n p c w h = go (test (p w))
  where
    go : Test (p w) → p w ≡ false
    go (pass e) = let z = count_less n p w h e in let k : ⊥ = omega arith in absurd k
    go (fail e) = e

pub count_some : (n : ℕ) (p : ℕ → Bool) {k : ℕ} → count n p ≡ suc k → (v : ℕ) × (v < n) × (p v ≡ true)
count_some n p {k} c = go (test (nobody n p))
  where
    go : Test (nobody n p) → (v : ℕ) × (v < n) × (p v ≡ true)
    go (pass e) = let z = count_none n p (nobody_true n p e) in let f : ⊥ = omega arith in absurd f
    go (fail e) = nobody_false n p e

pub and_left : {a b : Bool} → a && b ≡ false → a ≡ true → b ≡ false
and_left {a = true} h e = h
and_left {a = false} h e = clash e refl
