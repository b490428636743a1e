-- The stored lists: what vanishes and appears in one, and in all of them, edge after edge. Assumes nothing.
use Prim.Native.Nat.{ℕ, zero, suc, ◌<◌}
use mathlib.Core.Path.{◌≡◌, refl, sym, ap, ◌∙◌}
use mathlib.Core.Bool.{Bool, true, false, cond, ◌||◌}
use mathlib.Core.Logic.{◌⊎◌, inl, inr}
use mathlib.Core.List.{List, [], ◌∷◌, ◌++◌}
use native.Mathlib.Omega.{arith}
use lib.Dec.{eqb}
use lib.ListN.{length-set}
use lib.Seq.{get_or-set_same, get_or-set_other}
use borrow.Author.Tests.{eq-eqb, ne_eqb, eqb-true}
use Rattle.rules.specs.Lists.{Once, Pair, is_zero, memb, same_pair, tick, times}
use Rattle.rules.specs.Routes.{Heads, adds, alter, appear, but_last, drops, each, last_first, last_of, outs, vanish}
use Rattle.rules.specs.Sound.{Tidy}
use Rattle.rules.proofs.Members.{memb_append, once_snoc, or_false}
use Rattle.rules.proofs.Ranges.{Test, and_true, clash, fail, pass, same, test}

-- ── one list ──

last_split : (h : ℕ) (l : List ℕ) → but_last h l ++ last_of h l ∷ [] ≡ h ∷ l
last_split h [] = refl
last_split h (k ∷ l) = ap {B = List ℕ} (λ m. h ∷ m) (last_split k l)

or_comm' : (a b : Bool) → a || b ≡ b || (a || false)
or_comm' true true = refl
or_comm' true false = refl
or_comm' false true = refl
or_comm' false false = refl

last_first_memb : (w : ℕ) (l : List ℕ) → memb w (last_first l) ≡ memb w l
last_first_memb w [] = refl
last_first_memb w (h ∷ l) = or_comm' (eqb w (last_of h l)) (memb w (but_last h l)) ∙ sym (memb_append w (but_last h l) (last_of h l ∷ []))
    ∙ ap (memb w) (last_split h l)

once_unsnoc : (l : List ℕ) (v : ℕ) → Once (l ++ v ∷ []) → (memb v l ≡ false) × Once l
once_unsnoc [] v o = (refl, tt)
once_unsnoc (w ∷ l) v (a, o) =
    let (b, c) = once_unsnoc l v o in
    let (x, y) = or_false {a = memb w l} (rw (memb_append w l (v ∷ [])) at a) in
    let z : eqb v w ≡ false = ne_eqb v w (λ q. clash (rw (eq-eqb w v (sym q))) y) in
    (rw (z, b), (x, c))

last_first_once : (l : List ℕ) → Once l → Once (last_first l)
last_first_once [] o = tt
last_first_once (h ∷ l) o = once_unsnoc (but_last h l) (last_of h l) (rw (last_split h l) o)

pub vanish_other : (v w : ℕ) (l : List ℕ) → (w ≡ v → ⊥) → memb w (vanish v l) ≡ memb w l
vanish_other v w [] k = refl
vanish_other v w (u ∷ l) k = go (test (eqb v u)) (vanish_other v w l k)
  where
    go : Test (eqb v u) → memb w (vanish v l) ≡ memb w l → memb w (vanish v (u ∷ l)) ≡ memb w (u ∷ l)
    go (pass e) ih = rw (e, ne_eqb w u (λ q. k (q ∙ sym (eqb-true v u e)))) (last_first_memb w l)
    go (fail e) ih = rw (e) (ap (λ (b : Bool). eqb w u || b) ih)

pub vanish_self : (v : ℕ) (l : List ℕ) → Once l → memb v (vanish v l) ≡ false
vanish_self v [] o = refl
vanish_self v (u ∷ l) (a, o) = go (test (eqb v u)) (vanish_self v l o)
  where
    go : Test (eqb v u) → memb v (vanish v l) ≡ false → memb v (vanish v (u ∷ l)) ≡ false
    go (pass e) ih = rw (e, last_first_memb v l, eqb-true v u e) a
    go (fail e) ih = rw (e, e) ih

pub vanish_once : (v : ℕ) (l : List ℕ) → Once l → Once (vanish v l)
vanish_once v [] o = tt
vanish_once v (u ∷ l) (a, o) = go (test (eqb v u)) (vanish_once v l o)
  where
    go : Test (eqb v u) → Once (vanish v l) → Once (vanish v (u ∷ l))
    go (pass e) ih = rw e (last_first_once l o)
    go (fail e) ih = rw e (vanish_other v u l (λ q. clash (eq-eqb v u (sym q)) e) ∙ a, ih)

pub appear_self : (v : ℕ) (l : List ℕ) → memb v (appear v l) ≡ true
appear_self v l = go (test (memb v l))
  where
    go : Test (memb v l) → memb v (appear v l) ≡ true
    go (pass e) = rw (e) e
    go (fail e) = rw (e, memb_append v l (v ∷ []), e, eq-eqb v v refl)

pub appear_other : (v w : ℕ) (l : List ℕ) → (w ≡ v → ⊥) → memb w (appear v l) ≡ memb w l
appear_other v w l k = go (test (memb v l))
  where
    go : Test (memb v l) → memb w (appear v l) ≡ memb w l
    go (pass e) = rw e
    go (fail e) = rw (e, memb_append w l (v ∷ []), ne_eqb w v k) (or_false' (memb w l))
      where
        or_false' : (b : Bool) → b || false ≡ b
        or_false' true = refl
        or_false' false = refl

pub appear_once : (v : ℕ) (l : List ℕ) → Once l → Once (appear v l)
appear_once v l o = go (test (memb v l))
  where
    go : Test (memb v l) → Once (appear v l)
    go (pass e) = rw e o
    go (fail e) = rw e (once_snoc l v o e)

-- ── all lists ──

pub same_pair_lem : {u v : ℕ} {e : Pair} → same_pair (u, v) e ≡ true → ◌≡◌ {A = Pair} (u, v) e
same_pair_lem {u} {v} {e} h = let (a, b) = and_true {a = eqb u e.0} h in λ i. (eqb-true u e.0 a i, eqb-true v e.1 b i)

-- edges from jobs below n
abbrev pub From : ℕ → List Pair → Type 0
From n [] = Unit {0}
From n (e ∷ es) = (e.0 < n) × From n es

outs_same : (n : ℕ) (t : Heads) (f : ℕ → List ℕ → List ℕ) (e : Pair) → Tidy n t → e.0 < n
    → outs (alter f t e) e.0 ≡ f e.1 (outs t e.0)
outs_same n t f e T h = get_or-set_same t e.0 (f e.1 (outs t e.0)) [] (let a = T.size in omega arith)

outs_other : (t : Heads) (f : ℕ → List ℕ → List ℕ) (e : Pair) (u : ℕ) → (u ≡ e.0 → ⊥) → outs (alter f t e) u ≡ outs t u
outs_other t f e u k = get_or-set_other t e.0 u (f e.1 (outs t e.0)) [] k

-- a change of one list that keeps jobs single and moves but one job
pub record Change (f : ℕ → List ℕ → List ℕ) (g : Bool → Bool) : Type 0 where
  pub self : (v : ℕ) (l : List ℕ) → Once l → memb v (f v l) ≡ g (memb v l)
  pub other : (v w : ℕ) (l : List ℕ) → (w ≡ v → ⊥) → memb w (f v l) ≡ memb w l
  pub once : (v : ℕ) (l : List ℕ) → Once l → Once (f v l)

module _ (n : ℕ) (f : ℕ → List ℕ → List ℕ) (g : Bool → Bool) (C : Change f g) where
  alter_tidy : (t : Heads) (e : Pair) → Tidy n t → e.0 < n → Tidy n (alter f t e)
  alter_tidy t e T h = record { size = length-set t e.0 (f e.1 (outs t e.0)) ∙ T.size; once = λ u. go u (same u e.0) }
    where
      go : (u : ℕ) → (u ≡ e.0) ⊎ (u ≡ e.0 → ⊥) → Once (outs (alter f t e) u)
      go u (inl q) = rw (q, outs_same n t f e T h) (C.once e.1 (outs t e.0) (T.once e.0))
      go u (inr q) = rw (outs_other t f e u q) (T.once u)

  alter_at : (t : Heads) (e : Pair) (u v : ℕ) → Tidy n t → e.0 < n
      → memb v (outs (alter f t e) u) ≡ cond (same_pair (u, v) e) (g (memb v (outs t u))) (memb v (outs t u))
  alter_at t e u v T h = go (same u e.0) (same v e.1)
    where
      go : (u ≡ e.0) ⊎ (u ≡ e.0 → ⊥) → (v ≡ e.1) ⊎ (v ≡ e.1 → ⊥)
          → memb v (outs (alter f t e) u) ≡ cond (same_pair (u, v) e) (g (memb v (outs t u))) (memb v (outs t u))
      go (inl q) (inl r) =
          rw (q, r, eq-eqb e.0 e.0 refl, eq-eqb e.1 e.1 refl, outs_same n t f e T h)
          (C.self e.1 (outs t e.0) (T.once e.0))
      go (inl q) (inr r) =
          rw (q, eq-eqb e.0 e.0 refl, ne_eqb v e.1 r, outs_same n t f e T h) (C.other e.1 v (outs t e.0) r)
      go (inr q) x = rw (ne_eqb u e.0 q) (ap (memb v) (outs_other t f e u q))

-- edge after edge: what each edge does to the test `(u, v) is there` is G if it is (u, v), and nothing else
module _ (n : ℕ) (F : Pair → Heads → Heads) (tidy : (t : Heads) (e : Pair) → Tidy n t → e.0 < n → Tidy n (F e t)) where
  each_tidy : (es : List Pair) (t : Heads) → From n es → Tidy n t → Tidy n (each F t es)
  each_tidy [] t h T = T
  each_tidy (e ∷ es) t (a, h) T = each_tidy es (F e t) h (tidy t e T a)

  each_at : (u v : ℕ) (G : Bool → Bool) → ((b : Bool) → G (G b) ≡ G b)
      → ((t : Heads) (e : Pair) → Tidy n t → e.0 < n
      → memb v (outs (F e t) u) ≡ cond (same_pair (u, v) e) (G (memb v (outs t u))) (memb v (outs t u)))
      → (es : List Pair) (t : Heads) → From n es → Tidy n t
      → memb v (outs (each F t es) u) ≡ cond (is_zero (times (u, v) es)) (memb v (outs t u)) (G (memb v (outs t u)))
  each_at u v G idem at [] t h T = refl
  each_at u v G idem at (e ∷ es) t (a, h) T = each_at u v G idem at es (F e t) h (tidy t e T a)
      ∙ go (same_pair (u, v) e) (times (u, v) es) (at t e T a)
    where
      go : (s : Bool) (x : ℕ) {m : Bool} → m ≡ cond s (G (memb v (outs t u))) (memb v (outs t u))
          → cond (is_zero x) m (G m) ≡ cond (is_zero (tick s x)) (memb v (outs t u)) (G (memb v (outs t u)))
      go true zero q = q
      go true (suc x) q = ap G q ∙ idem (memb v (outs t u))
      go false x q = rw q

vanish_change : Change vanish (λ b. false)
vanish_change = record { self = vanish_self; other = vanish_other; once = vanish_once }

appear_change : Change appear (λ b. true)
appear_change = record { self = λ v l o. appear_self v l; other = appear_other; once = appear_once }

pub adds_tidy : (n : ℕ) (es : List Pair) (t : Heads) → From n es → Tidy n t → Tidy n (adds t es)
adds_tidy n = each_tidy n (λ e t. alter appear t e) (alter_tidy n appear (λ b. true) appear_change)

-- an edge is there afterwards if it was there, or is one of the list
pub adds_at : (n : ℕ) (es : List Pair) (t : Heads) (u v : ℕ) → From n es → Tidy n t
    → memb v (outs (adds t es) u) ≡ cond (is_zero (times (u, v) es)) (memb v (outs t u)) true
adds_at n es t u v =
    each_at n (λ e t. alter appear t e) (alter_tidy n appear (λ b. true) appear_change) u v (λ b. true) (λ b. refl)
    (λ t e. alter_at n appear (λ b. true) appear_change t e u v) es t

module _ (n : ℕ) (c : Pair → Bool) where
  drop_tidy : (t : Heads) (e : Pair) → Tidy n t → e.0 < n → Tidy n (cond (c e) (alter vanish t e) t)
  drop_tidy t e T h = go (c e)
    where
      go : (b : Bool) → Tidy n (cond b (alter vanish t e) t)
      go true = alter_tidy n vanish (λ b. false) vanish_change t e T h
      go false = T

  pub drops_tidy : (es : List Pair) (t : Heads) → From n es → Tidy n t → Tidy n (drops c t es)
  drops_tidy = each_tidy n (λ e t. cond (c e) (alter vanish t e) t) drop_tidy

  -- an edge is there afterwards if it was there, and does not pass c or is not of the list
  pub drops_at : (es : List Pair) (t : Heads) (u v : ℕ) → From n es → Tidy n t
      → memb v (outs (drops c t es) u) ≡ cond (is_zero (times (u, v) es)) (memb v (outs t u)) (cond (c (u, v)) false (memb v (outs t u)))
  drops_at es t u v =
      each_at n (λ e t. cond (c e) (alter vanish t e) t) drop_tidy u v (λ b. cond (c (u, v)) false b) (idem (c (u, v)))
      (λ t e T h. at t e T h (c e) refl (test (same_pair (u, v) e))) es t
    where
      idem : (x b : Bool) → cond x false (cond x false b) ≡ cond x false b
      idem true b = refl
      idem false b = refl

      at : (t : Heads) (e : Pair) → Tidy n t → e.0 < n → (x : Bool) → c e ≡ x → Test (same_pair (u, v) e)
          → memb v (outs (cond x (alter vanish t e) t) u) ≡ cond (same_pair (u, v) e) (cond (c (u, v)) false (memb v (outs t u)))
          (memb v (outs t u))
      at t e T h true q (pass s) = let k : c (u, v) ≡ true = ap c (same_pair_lem s) ∙ q in
          alter_at n vanish (λ b. false) vanish_change t e u v T h ∙ rw (s, k)
      at t e T h true q (fail s) = alter_at n vanish (λ b. false) vanish_change t e u v T h ∙ rw s
      at t e T h false q (pass s) = let k : c (u, v) ≡ false = ap c (same_pair_lem s) ∙ q in rw (s, k)
      at t e T h false q (fail s) = rw s
