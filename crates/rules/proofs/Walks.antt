-- The first_in first-out walk that mends the starts after a change: take the front, compute its start anew from its predecessors, and if it changed
-- queue its successors that are not queued, in stored order. On a graph without cycles it ends after at most n(n+1)/2 steps, with the new starts.
-- Assumes nothing.
use Prim.Native.Nat.{ℕ, zero, suc, ◌+◌, ◌*◌, ◌-◌, ◌≤◌, ◌<◌}
use mathlib.Core.Path.{◌≡◌, refl, sym, ap, ◌∙◌, fun_ext}
use mathlib.Core.Bool.{Bool, true, false, cond, ◌||◌}
use mathlib.Core.Logic.{◌⊎◌, inl, inr, ⊎_elim}
use mathlib.Core.List.{List, [], ◌∷◌, ◌++◌, append_assoc, append-nil}
use native.Mathlib.Omega.{arith}
use native.Mathlib.Nat.{not-suc-le-zero}
use lib.Dec.{eqb, leb}
use lib.ListN.{length, get_or, set}
use lib.Seq.{get_or-set_same, get_or-set_other}
use borrow.Author.Tests.{eq-eqb, ne_eqb, eqb-true, leb-true, le-leb}
use Rattle.rules.specs.Lists.{Once, count, less, memb, tick}
use Rattle.rules.specs.Reports.{Outcome, bump, push, tri, upd, walk}
use Rattle.rules.specs.Routes.{edge}
use Rattle.rules.specs.Scores.{best}
use Rattle.rules.specs.Solved.{Mended, Ranks, Solves}
use Rattle.rules.proofs.Members.{memb_append, once_count, once_snoc, or_false, or-true}
use Rattle.rules.proofs.Ranges.{Test, clash, count_le, count_less, fail, less_other, lt_or_le, pass, same, test}
use Rattle.rules.proofs.Starts.{best_edges, best_same}

-- v joins `nxt`, what is queued behind `cur`, the rest of this round
abbrev pub join : List ℕ → List ℕ → ℕ → Bool → List ℕ
join cur nxt v true = nxt
join cur nxt v false = nxt ++ v ∷ []

abbrev pub queued : List ℕ → List ℕ → ℕ → Bool
queued cur nxt v = memb v cur || memb v nxt

abbrev pub push2 : List ℕ → List ℕ → List ℕ → List ℕ
push2 cur nxt [] = nxt
push2 cur nxt (v ∷ vs) = push2 cur (join cur nxt v (queued cur nxt v)) vs

pub push_split : (cur nxt vs : List ℕ) → push (cur ++ nxt) vs ≡ cur ++ push2 cur nxt vs
push_split cur nxt [] = refl
push_split cur nxt (v ∷ vs) =
    rw (memb_append v cur nxt) (rw (go (queued cur nxt v)) (push_split cur (join cur nxt v (queued cur nxt v)) vs))
  where
    go : (b : Bool) → cond b (cur ++ nxt) ((cur ++ nxt) ++ v ∷ []) ≡ cur ++ join cur nxt v b
    go true = refl
    go false = append_assoc cur nxt (v ∷ [])

pub memb_snoc : (w : ℕ) (l : List ℕ) (v : ℕ) → memb w (l ++ v ∷ []) ≡ true → (memb w l ≡ true) ⊎ (w ≡ v)
memb_snoc w l v e = go (or-true {a = memb w l} (rw (memb_append w l (v ∷ [])) at e))
  where
    go : (memb w l ≡ true) ⊎ (eqb w v || false ≡ true) → (memb w l ≡ true) ⊎ (w ≡ v)
    go (inl a) = inl a
    go (inr b) = inr (⊎_elim (λ (x : eqb w v ≡ true). eqb-true w v x) (λ (x : false ≡ true). clash x refl) (or-true b))

pub or_right : (a : Bool) {b : Bool} → b ≡ true → a || b ≡ true
or_right true e = refl
or_right false e = e

-- if `nxt` holds no job twice, what comes of it does not
pub push2_once : (cur nxt vs : List ℕ) → Once nxt → Once (push2 cur nxt vs)
push2_once cur nxt [] o = o
push2_once cur nxt (v ∷ vs) o = push2_once cur (join cur nxt v (queued cur nxt v)) vs (go (queued cur nxt v) refl)
  where
    go : (b : Bool) → queued cur nxt v ≡ b → Once (join cur nxt v b)
    go true e = o
    go false e = once_snoc nxt v o (or_false {a = memb v cur} e).1

pub push2_old : (cur nxt vs : List ℕ) (w : ℕ) → memb w nxt ≡ true → memb w (push2 cur nxt vs) ≡ true
push2_old cur nxt [] w e = e
push2_old cur nxt (v ∷ vs) w e = push2_old cur (join cur nxt v (queued cur nxt v)) vs w (go (queued cur nxt v))
  where
    go : (b : Bool) → memb w (join cur nxt v b) ≡ true
    go true = e
    go false = rw (memb_append w nxt (v ∷ []), e)

pub push2_new : (cur nxt vs : List ℕ) (w : ℕ) → memb w vs ≡ true → memb w cur ≡ false → memb w (push2 cur nxt vs) ≡ true
push2_new cur nxt [] w e f = clash e refl
push2_new cur nxt (v ∷ vs) w e f =
    ⊎_elim (λ (x : eqb w v ≡ true). push2_old cur (join cur nxt v (queued cur nxt v)) vs w
    (go (eqb-true w v x) (queued cur nxt v) refl))
    (λ (x : memb w vs ≡ true). push2_new cur (join cur nxt v (queued cur nxt v)) vs w x f) (or-true {a = eqb w v} e)
  where
    go : w ≡ v → (b : Bool) → queued cur nxt v ≡ b → memb w (join cur nxt v b) ≡ true
    go q true h =
        ⊎_elim (λ (x : memb v cur ≡ true). clash x (rw q at f)) (λ (x : memb v nxt ≡ true). rw q x) (or-true {a = memb v cur} h)
    go q false h = rw (memb_append w nxt (v ∷ []), eq-eqb w v q) (or_right (memb w nxt) refl)

pub push2_from : (cur nxt vs : List ℕ) (w : ℕ) → memb w (push2 cur nxt vs) ≡ true → (memb w nxt ≡ true) ⊎ (memb w vs ≡ true)
push2_from cur nxt [] w e = inl e
push2_from cur nxt (v ∷ vs) w e = go (queued cur nxt v) (push2_from cur (join cur nxt v (queued cur nxt v)) vs w e)
  where
    go : (b : Bool) → (memb w (join cur nxt v b) ≡ true) ⊎ (memb w vs ≡ true) → (memb w nxt ≡ true) ⊎ (eqb w v || memb w vs ≡ true)
    go true (inl x) = inl x
    go false (inl x) = ⊎_elim (λ (y : memb w nxt ≡ true). inl y) (λ (y : w ≡ v). inr (rw (eq-eqb w v y))) (memb_snoc w nxt v x)
    go b (inr x) = inr (or_right (eqb w v) x)

pub count_mono : (n : ℕ) (p q : ℕ → Bool) → ((w : ℕ) → w < n → p w ≡ true → q w ≡ true) → count n p ≤ count n q
count_mono zero p q f = omega arith
count_mono (suc n) p q f = go (p n) refl (q n) refl (count_mono n p q (λ w h. f w (omega arith)))
  where
    go : (a : Bool) → p n ≡ a → (b : Bool) → q n ≡ b → count n p ≤ count n q → tick a (count n p) ≤ tick b (count n q)
    go true x true y ih = omega arith
    go true x false y ih = clash (f n (omega arith) x) y
    go false x true y ih = omega arith
    go false x false y ih = omega arith

tri_ge : (m : ℕ) → m ≤ tri m
tri_ge zero = omega arith
tri_ge (suc m) = omega arith

upd_same : (s : ℕ → ℕ) (v x : ℕ) → upd s v x v ≡ x
upd_same s v x = rw (eq-eqb v v refl)

upd_other : (s : ℕ → ℕ) (v x w : ℕ) → (w ≡ v → ⊥) → upd s v x w ≡ s w
upd_other s v x w k = rw (ne_eqb w v k)

-- the walk, on a graph that r lines up, with z the starts to come to
module _ (n : ℕ) (out : ℕ → List ℕ) (f d : ℕ → ℕ) (r z : ℕ → ℕ) (ranks : Ranks n (edge out) r) (zs : Solves n (edge out) f d z)
    (bound : (u v : ℕ) → u < n → edge out u v ≡ true → v < n) where
  -- few jobs have a high rank
  high_count : (k : ℕ) → count n (λ v. leb k (r v)) ≤ n - k
  high_count zero = let a = count_le n (λ v. leb 0 (r v)) in omega arith
  high_count (suc k) = go (lt_or_le k n) (high_count k)
    where
      sub : count n (λ v. leb (suc k) (r v)) ≤ count n (λ v. leb k (r v))
      sub = count_mono n (λ v. leb (suc k) (r v)) (λ v. leb k (r v))
          (λ w h e. le-leb k (r w) (let a = leb-true (suc k) (r w) e in omega arith))

      go : (k < n) ⊎ (n ≤ k) → count n (λ v. leb k (r v)) ≤ n - k → count n (λ v. leb (suc k) (r v)) ≤ n - suc k
      go (inr l) ih = omega (arith, sub)
      go (inl l) ih =
          let (v, h, e) = ranks.hits k l in
          let a = count_less n (λ v. leb k (r v)) v h (le-leb k (r v) (omega arith)) in
          let b = count_mono n (λ v. leb (suc k) (r v)) (less (λ v. leb k (r v)) v) (λ w hw t. let c = leb-true (suc k) (r w) t in
          less_other (λ v. leb k (r v)) v w (λ q. let y : r w ≡ r v = ap r q in omega arith) ∙ le-leb k (r w) (omega arith)) in
          omega arith

  -- cur: what is left of this round; nxt: the next round; jobs below rank ρ have come to rest
  record Inv (cur nxt : List ℕ) (s : ℕ → ℕ) (ρ : ℕ) : Type 0 where
    calm : (v : ℕ) → v < n → memb v cur ≡ false → memb v nxt ≡ false → s v ≡ best n (edge out) f d s v
    rest : (v : ℕ) → v < n → r v < ρ → s v ≡ z v
    now : (v : ℕ) → memb v cur ≡ true → (v < n) × (ρ ≤ r v)
    later : (v : ℕ) → memb v nxt ≡ true → (v < n) × (ρ < r v)
    once : Once nxt

  -- the next round begins
  turn : (nxt : List ℕ) (s : ℕ → ℕ) (ρ : ℕ) → Inv [] nxt s ρ → Inv nxt [] s (suc ρ)
  turn nxt s ρ I = record {
    calm = λ v h a b. I.calm v h refl a;
    rest = λ v h l. go v h (lt_or_le (r v) ρ) (test (memb v nxt)) l;
    now = λ v e. I.later v e;
    later = λ v e. clash e refl;
    once = tt;
  }
    where
      settle : (v : ℕ) → v < n → ρ ≡ r v → memb v nxt ≡ false → s v ≡ z v
      settle v h q e = I.calm v h refl e
          ∙ best_same n (edge out) f d s z v (λ u hu e. I.rest u hu (let a = ranks.rises u v hu h e in omega arith))
          ∙ sym (zs v h)

      go : (v : ℕ) → v < n → (r v < ρ) ⊎ (ρ ≤ r v) → Test (memb v nxt) → r v < suc ρ → s v ≡ z v
      go v h (inl a) t l = I.rest v h a
      go v h (inr a) (pass e) l = let (x, y) = I.later v e in let k : ⊥ = omega arith in absurd k
      go v h (inr a) (fail e) l = settle v h (omega arith) e

  turn_length : (nxt : List ℕ) (s : ℕ → ℕ) (ρ : ℕ) → Inv [] nxt s ρ → length nxt ≤ n - suc ρ
  turn_length nxt s ρ I =
      let a = once_count n nxt (λ v. leb (suc ρ) (r v)) I.once (λ v e. let (x, y) = I.later v e in (x, le-leb (suc ρ) (r v) y)) in
      let b = high_count (suc ρ) in
      omega arith

  -- a visit
  visit : (v : ℕ) (cur nxt : List ℕ) (s : ℕ → ℕ) (ρ : ℕ) → Inv (v ∷ cur) nxt s ρ
      → (c : Bool) → eqb (best n (edge out) f d s v) (s v) ≡ c
      → Inv cur (cond c nxt (push2 cur nxt (out v))) (upd s v (best n (edge out) f d s v)) ρ
  visit v cur nxt s ρ I c e = record {
    calm = λ w h a b. settled w h a (old c w b) (out_of c e w a b) (same w v);
    rest = λ w h l. upd_other s v x w (λ q. let y : r w ≡ r v = ap r q in omega (arith, vn.1)) ∙ I.rest w h l;
    now = λ w m. I.now w (or_right (eqb w v) m);
    later = λ w m. came c w m;
    once = stays c;
  }
    where
      x : ℕ
      x = best n (edge out) f d s v

      vn : (v < n) × (ρ ≤ r v)
      vn = I.now v (rw (eq-eqb v v refl))

      still : (w : ℕ) → (edge out v w ≡ true → upd s v x v ≡ s v) → best n (edge out) f d (upd s v x) w ≡ best n (edge out) f d s w
      still w g = best_same n (edge out) f d (upd s v x) s w (λ u hu m.
          ⊎_elim (λ (q : u ≡ v). rw q (g (rw q at m))) (λ (q : u ≡ v → ⊥). upd_other s v x u q) (same u v))

      settled : (w : ℕ) → w < n → memb w cur ≡ false → memb w nxt ≡ false → (edge out v w ≡ true → upd s v x v ≡ s v)
          → (w ≡ v) ⊎ (w ≡ v → ⊥) → upd s v x w ≡ best n (edge out) f d (upd s v x) w
      settled w h a b f (inl q) =
          rw q (upd_same s v x ∙ sym (still v (λ m. let y = ranks.rises v v vn.0 vn.0 m in let k : ⊥ = omega arith in absurd k)))
      settled w h a b f (inr q) = upd_other s v x w q ∙ I.calm w h (rw (ne_eqb w v q) a) b ∙ sym (still w f)

      old : (c : Bool) (w : ℕ) → memb w (cond c nxt (push2 cur nxt (out v))) ≡ false → memb w nxt ≡ false
      old true w b = b
      old false w b = go (test (memb w nxt))
        where
          go : Test (memb w nxt) → memb w nxt ≡ false
          go (pass m) = clash (push2_old cur nxt (out v) w m) b
          go (fail m) = m

      out_of : (c : Bool) → eqb x (s v) ≡ c → (w : ℕ) → memb w cur ≡ false → memb w (cond c nxt (push2 cur nxt (out v))) ≡ false
          → edge out v w ≡ true → upd s v x v ≡ s v
      out_of true e w a b m = upd_same s v x ∙ eqb-true x (s v) e
      out_of false e w a b m = clash (push2_new cur nxt (out v) w m a) b

      came : (c : Bool) (w : ℕ) → memb w (cond c nxt (push2 cur nxt (out v))) ≡ true → (w < n) × (ρ < r w)
      came true w m = I.later w m
      came false w m =
          ⊎_elim (I.later w)
          (λ (y : memb w (out v) ≡ true). let h = bound v w vn.0 y in
          (h, let k = ranks.rises v w vn.0 h y in omega (arith, vn.1))) (push2_from cur nxt (out v) w m)

      stays : (c : Bool) → Once (cond c nxt (push2 cur nxt (out v)))
      stays true = I.once
      stays false = push2_once cur nxt (out v) I.once

  -- one step, and then the rest
  onward : (k v : ℕ) (cur nxt : List ℕ) (s : ℕ → ℕ) (ρ b : ℕ) → Inv (v ∷ cur) nxt s ρ
      → ((nxt' : List ℕ) (s' : ℕ → ℕ) → Inv cur nxt' s' ρ → Mended n out f d b (walk n out f d k (cur ++ nxt') s'))
      → Mended n out f d (suc b) (walk n out f d (suc k) (v ∷ (cur ++ nxt)) s)
  onward k v cur nxt s ρ b I rest = go (eqb x (s v)) refl
    where
      x : ℕ
      x = best n (edge out) f d s v

      split : (c : Bool) → cond c (cur ++ nxt) (push (cur ++ nxt) (out v)) ≡ cur ++ cond c nxt (push2 cur nxt (out v))
      split true = refl
      split false = push_split cur nxt (out v)

      up : {o : Outcome} → Mended n out f d b o → Mended n out f d (suc b) (bump o)
      up M = record { ends = M.ends; few = let a = M.few in omega arith; solves = M.solves }

      go : (c : Bool) → eqb x (s v) ≡ c
          → Mended n out f d (suc b) (bump (walk n out f d k (cond c (cur ++ nxt) (push (cur ++ nxt) (out v))) (upd s v x)))
      go c e = rw (split c) (up (rest (cond c nxt (push2 cur nxt (out v))) (upd s v x) (visit v cur nxt s ρ I c e)))

  tri_step : (m : ℕ) → m + tri (m - 1) ≡ tri m
  tri_step zero = refl
  tri_step (suc m) = let a : suc m - 1 ≡ m = omega arith in rw a

  weaken : {b b' : ℕ} {o : Outcome} → b ≤ b' → Mended n out f d b o → Mended n out f d b' o
  weaken h M = record { ends = M.ends; few = let a = M.few in omega arith; solves = M.solves }

  main : (k : ℕ) (cur nxt : List ℕ) (s : ℕ → ℕ) (ρ : ℕ) → Inv cur nxt s ρ → length cur + tri (n - suc ρ) ≤ k
      → Mended n out f d (length cur + tri (n - suc ρ)) (walk n out f d k (cur ++ nxt) s)
  main zero [] [] s ρ I h = record { ends = refl; few = omega arith; solves = λ v l. I.calm v l refl refl }
  main (suc k) [] [] s ρ I h = record { ends = refl; few = omega arith; solves = λ v l. I.calm v l refl refl }
  main zero [] (w ∷ nxt) s ρ I h = let a = turn_length (w ∷ nxt) s ρ I in let b = tri_ge (n - suc ρ) in let f : ⊥ = omega arith in
      absurd f
  main zero (v ∷ cur) nxt s ρ I h = let f : ⊥ = omega arith in absurd f
  main (suc k) [] (w ∷ nxt) s ρ I h =
      let a = turn_length (w ∷ nxt) s ρ I in
      let b : suc (length nxt) + tri (n - suc (suc ρ)) ≤ tri (n - suc ρ) = shorter a in
      weaken (let c = b in omega arith)
      (rw append-nil at
      (onward k w nxt [] s (suc ρ) (length nxt + tri (n - suc (suc ρ))) (turn (w ∷ nxt) s ρ I)
      (λ nxt' s' J. main k nxt nxt' s' (suc ρ) J (omega arith))))
    where
      shorter : suc (length nxt) ≤ n - suc ρ → suc (length nxt) + tri (n - suc (suc ρ)) ≤ tri (n - suc ρ)
      shorter a = let e : n - suc (suc ρ) ≡ n - suc ρ - 1 = omega arith in let t = tri_step (n - suc ρ) in rw e (omega arith)
  main (suc k) (v ∷ cur) nxt s ρ I h =
      weaken (omega arith) (onward k v cur nxt s ρ (length cur + tri (n - suc ρ)) I (λ nxt' s' J. main k cur nxt' s' ρ J (omega arith)))

  -- started where every job that is not queued has its start, no job queued twice, n(n+1)/2 steps are enough
  pub mends : (k : ℕ) (q : List ℕ) (s : ℕ → ℕ) → tri n ≤ k → Once q → ((v : ℕ) → memb v q ≡ true → v < n)
      → ((v : ℕ) → v < n → memb v q ≡ false → s v ≡ best n (edge out) f d s v) → Mended n out f d (tri n) (walk n out f d k q s)
  mends k q s h o low g =
      let a = once_count n q (λ v. true) o (λ v e. (low v e, refl)) in
      let b = count_le n (λ v. true) in
      let c = tri_step n in
      let e : length q + tri (n - 1) ≤ tri n = omega arith in
      weaken e (rw append-nil at (main k q [] s 0 start (omega arith)))
    where
      start : Inv q [] s 0
      start = record {
        calm = λ v l x y. g v l x;
        rest = λ v l x. absurd (not-suc-le-zero x);
        now = λ v e. (low v e, omega arith);
        later = λ v e. clash e refl;
        once = tt;
      }

  -- so it is enough to queue, at the starts of the graph before, each job at which an edge ends that appeared or vanished
  pub refreshes : (old : ℕ → List ℕ) (k : ℕ) (q : List ℕ) (s : ℕ → ℕ) → tri n ≤ k → Once q → ((v : ℕ) → memb v q ≡ true → v < n)
      → Solves n (edge old) f d s
      → ((u v : ℕ) → u < n → v < n → memb v q ≡ false → edge old u v ≡ edge out u v) → Mended n out f d (tri n) (walk n out f d k q s)
  refreshes old k q s h o low g e =
      mends k q s h o low (λ v l m. g v l ∙ best_edges n (edge old) (edge out) f d s v (λ u hu. e u v hu l m))

-- once the walk has ended, more fuel changes nothing
pub walk_more : (n : ℕ) (out : ℕ → List ℕ) (f d : ℕ → ℕ) (k : ℕ) (q : List ℕ) (s : ℕ → ℕ) → (walk n out f d k q s).left ≡ []
    → walk n out f d (suc k) q s ≡ walk n out f d k q s
walk_more n out f d zero [] s e = refl
walk_more n out f d zero (v ∷ q) s e = let z : ◌≡◌ {A = ℕ} 0 1 = cc in let f : ⊥ = omega arith in absurd f
walk_more n out f d (suc k) [] s e = refl
walk_more n out f d (suc k) (v ∷ q) s e = ap bump (walk_more n out f d k _ _ e)

-- the starts as they stand in an array: a store is an update
pub upd_set : (a : List ℕ) (v x : ℕ) → v < length a → upd (λ w. get_or a w 0) v x ≡ (λ w. get_or (set a v x) w 0)
upd_set a v x h = fun_ext (λ w. look w (same w v))
  where
    look : (w : ℕ) → (w ≡ v) ⊎ (w ≡ v → ⊥) → upd (λ w. get_or a w 0) v x w ≡ get_or (set a v x) w 0
    look w (inl q) = rw q (upd_same (λ w. get_or a w 0) v x ∙ sym (get_or-set_same a v x 0 h))
    look w (inr q) = upd_other (λ w. get_or a w 0) v x w q ∙ sym (get_or-set_other a v w x 0 q)

pub tri_is : (n : ℕ) → 2 * tri n ≡ n * (n + 1)
tri_is zero = refl
tri_is (suc n) = let a = tri_is n in omega arith

-- ── a queue from nothing: each job once ──

pub single_once : (l : List ℕ) → Once (push [] l)
single_once l = rw (push_split [] [] l) (push2_once [] [] l tt)

pub single_in : (l : List ℕ) (v : ℕ) → memb v (push [] l) ≡ true → memb v l ≡ true
single_in l v e =
    ⊎_elim (λ (x : false ≡ true). clash x refl) (λ (x : memb v l ≡ true). x) (push2_from [] [] l v (rw (push_split [] [] l) at e))

pub single_out : (l : List ℕ) (v : ℕ) → memb v (push [] l) ≡ false → memb v l ≡ false
single_out l v e = go (test (memb v l))
  where
    go : Test (memb v l) → memb v l ≡ false
    go (fail x) = x
    go (pass x) = clash (push2_new [] [] l v x refl) (rw (push_split [] [] l) at e)
