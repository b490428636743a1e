-- The shown cycle: from the lowest job that lies on a cycle, a shortest cycle through it, of those the lowest in dictionary order. Assumes nothing.
use Prim.Native.Nat.{ℕ, zero, suc, ◌≤◌, ◌<◌}
use mathlib.Core.Path.{◌≡◌, refl, sym, ap, ◌∙◌}
use mathlib.Core.Bool.{Bool, true, false, not, ◌&&◌, ◌||◌}
use mathlib.Core.Option.{Option, none, some}
use mathlib.Core.Logic.{◌⊎◌, inl, inr, ⊎_elim}
use mathlib.Core.List.{List, [], ◌∷◌, ◌++◌}
use native.Mathlib.Omega.{arith}
use native.Mathlib.Nat.{not-suc-le-zero}
use lib.Dec.{eqb}
use lib.ListN.{length}
use borrow.Author.Tests.{eq-eqb, ne_eqb, eqb-true, not-true}
use Rattle.rules.specs.Graphs.{Cycle, Lex, LowestCycle, Trail, end, go, lex_eq, lex_lt, lex_nil}
use Rattle.rules.specs.Lists.{Once, less, memb, nobody}
use Rattle.rules.specs.Shown.{closes, cycle, cycle_at, reach, trail}
use Rattle.rules.proofs.Members.{once_count, or-true}
use Rattle.rules.proofs.Orders.{Circuit, Walk, more, one}
use Rattle.rules.proofs.Ranges.{Found, Test, and_true, clash, count_all_lem, count_less, fail, found, hit, less_other, miss, nobody_false, nobody_true, pass, same, test}

module _ (n : ℕ) (E : ℕ → ℕ → Bool) where
  pub reach_of_lem : {u v : ℕ} {l : List ℕ} → Trail n E u l v → reach n E (length l) u v ≡ true
  reach_of_lem {u} {v} (end q) = eq-eqb u v q
  reach_of_lem {u} {v} (go {w = w} {l = l} h e t) = some_of (test (nobody n p)) (reach_of_lem t)
    where
      p : ℕ → Bool
      p w = E u w && reach n E (length l) w v

      some_of : Test (nobody n p) → reach n E (length l) w v ≡ true → not (nobody n p) ≡ true
      some_of (fail f) r = rw f
      some_of (pass f) r = clash (rw (e, r)) (nobody_true n p f w h)

  -- the lowest trail
  pub record Least (k u v : ℕ) (l : List ℕ) : Type 0 where
    pub is : Trail n E u l v
    pub long : length l ≡ k
    pub low : (m : List ℕ) → Trail n E u m v → length m ≡ k → Lex l m

  lead_lower : (k w w' v : ℕ) (l : List ℕ) → w < w' → Trail n E w' l v → length l ≡ k → Lex (trail n E k w v) l
  lead_lower zero w w' v l h t e = lex_nil
  lead_lower (suc k) w w' v l h (end q) e = let f : ⊥ = omega arith in absurd f
  lead_lower (suc k) w w' v l h (go a b t) e = lex_lt h

  pub trail_least : (k u v : ℕ) → reach n E k u v ≡ true → Least k u v (trail n E k u v)
  trail_least zero u v r = record { is = end (eqb-true u v r); long = refl; low = λ m t e. lex_nil }
  trail_least (suc k) u v r = next (found n p) (λ w. trail_least k w v)
    where
      p : ℕ → Bool
      p w = E u w && reach n E k w v

      next : {o : Option ℕ} → Found n p o → ((w : ℕ) → reach n E k w v ≡ true → Least k w v (trail n E k w v))
          → Least (suc k) u v (u ∷ elim o [ none ↦ [] | some w ↦ trail n E k w v ])
      next (miss m) ih = let (w, h, q) = nobody_false n p (not-true (nobody n p) r) in clash q (m w h)
      next (hit w h q low) ih = let (a, b) = and_true {a = E u w} q in record {
        is = go h a (ih w b).is;
        long = ap suc (ih w b).long;
        low = λ m t e. lower m t e;
      }
        where
          lower : (m : List ℕ) → Trail n E u m v → length m ≡ suc k → Lex (u ∷ trail n E k w v) m
          lower m (end x) e = let f : ⊥ = omega arith in absurd f
          lower m (go {w = w'} {l = l'} h' e' t') e =
              lex_eq refl (⊎_elim (λ (x : w ≡ w'). (ih w (and_true {a = E u w} q).1).low l' (rw x t') len)
              (λ (x : w ≡ w' → ⊥). lead_lower k w w' v l' (omega (arith, step)) t' len) (same w w'))
            where
              len : length l' ≡ k
              len = omega arith

              step : w ≤ w'
              step = low w' (rw (e') (rw len at (reach_of_lem t')))

  -- a walk to v meets no job twice, and v nowhere, once its loops are left out
  pub record Simple (u v : ℕ) : Type 0 where
    pub list : List ℕ
    pub is : Trail n E u list v
    pub once : Once list
    pub free : memb v list ≡ false
    pub within : (x : ℕ) → memb x list ≡ true → x < n

  -- from u on, where u stands in the list of a walk
  cut : {w v : ℕ} {l : List ℕ} (u : ℕ) → Trail n E w l v → Once l → memb u l ≡ true
      → (m : List ℕ) × Trail n E u m v × Once m × ((x : ℕ) → memb x m ≡ true → memb x l ≡ true)
  cut u (end q) o e = clash e refl
  cut {w} {v} u (go {w = w'} {l = l} h a t) o e = pick (same u w) (λ x. cut u t o.1 x)
    where
      weak : (m : List ℕ) → ((x : ℕ) → memb x m ≡ true → memb x l ≡ true) → (x : ℕ) → memb x m ≡ true → eqb x w || memb x l ≡ true
      weak m f x y = rw (f x y) (or_one (eqb x w))
        where
          or_one : (b : Bool) → b || true ≡ true
          or_one true = refl
          or_one false = refl

      pick : (u ≡ w) ⊎ (u ≡ w → ⊥)
          → (memb u l ≡ true → (m : List ℕ) × Trail n E u m v × Once m × ((x : ℕ) → memb x m ≡ true → memb x l ≡ true))
          → (m : List ℕ) × Trail n E u m v × Once m × ((x : ℕ) → memb x m ≡ true → memb x (w ∷ l) ≡ true)
      pick (inl q) ih = (w ∷ l, rw q (go h a t), o, λ x y. y)
      pick (inr q) ih = let (m, b, c, d) = ih (rw (ne_eqb u w q) at e) in (m, b, c, weak m d)

  pub simple : {u v : ℕ} {l : List ℕ} → u < n → Trail n E u l v → Simple u v
  simple hu (end q) = record { list = []; is = end q; once = tt; free = refl; within = λ x y. clash y refl }
  simple {u} {v} hu (go {w = w} h a t) = pick (same u v) (simple h t)
    where
      pick : (u ≡ v) ⊎ (u ≡ v → ⊥) → Simple w v → Simple u v
      pick (inl q) S = record { list = []; is = end q; once = tt; free = refl; within = λ x y. clash y refl }
      pick (inr q) S = meet (test (memb u S.list))
        where
          meet : Test (memb u S.list) → Simple u v
          meet (fail f) = record {
            list = u ∷ S.list;
            is = go h a S.is;
            once = (f, S.once);
            free = rw (ne_eqb v u (λ x. q (sym x))) S.free;
            within = λ x y. ⊎_elim (λ (z : eqb x u ≡ true). rw (eqb-true x u z) hu) (λ (z : memb x S.list ≡ true). S.within x z)
                (or-true {a = eqb x u} y);
          }
          meet (pass f) = let (m, b, c, d) = cut u S.is S.once f in record {
            list = m;
            is = b;
            once = c;
            free = none_here m d (test (memb v m));
            within = λ x y. S.within x (d x y);
          }
            where
              none_here : (m : List ℕ) → ((x : ℕ) → memb x m ≡ true → memb x S.list ≡ true) → Test (memb v m) → memb v m ≡ false
              none_here m d (fail z) = z
              none_here m d (pass z) = clash (d v z) S.free

  -- a cycle through v has one of at most n edges
  short : (v : ℕ) (l : List ℕ) → v < n → 0 < length l → Trail n E v l v → (k : ℕ) × (k < n) × (closes n E v k ≡ true)
  short v l h z (end q) = absurd (not-suc-le-zero z)
  short v l h z (go {w = w} hw a t) =
      let S = simple hw t in
      let b = once_count n S.list (less (λ x. true) v) S.once
      (λ x y. (S.within x y, less_other (λ x. true) v x (λ q. clash y (rw q S.free)))) in
      let c = count_less n (λ x. true) v h refl in
      let d = count_all_lem n in
      (length S.list, omega arith, reach_of_lem (go hw a S.is))

  -- what `cycle` shows: the rules' cycle, or nothing, and then there is none
  pub data Shows : Option (List ℕ) → Type 0 where
    shows : {l : List ℕ} → LowestCycle n E l → Shows (some l)
    calm : ((w : ℕ) (m : List ℕ) → Cycle n E w m → ⊥) → Shows none

  abbrev on : ℕ → Bool
  on v = not (nobody n (closes n E v))

  on_of : (w : ℕ) (m : List ℕ) → Cycle n E w m → on w ≡ true
  on_of w m c = let (k, a, b) = short w m c.inside c.some c.closed in look k a b (test (nobody n (closes n E w)))
    where
      look : (k : ℕ) → k < n → closes n E w k ≡ true → Test (nobody n (closes n E w)) → on w ≡ true
      look k a b (fail f) = rw f
      look k a b (pass f) = clash b (nobody_true n (closes n E w) f k a)

  shortest_of : (v k : ℕ) → ((j : ℕ) → closes n E v j ≡ true → k ≤ j) → (m : List ℕ) → Cycle n E v m → suc k ≤ length m
  shortest_of v k low m c = size (length m) c.some (reach_of_lem c.closed)
    where
      size : (x : ℕ) → 0 < x → reach n E x v v ≡ true → suc k ≤ x
      size zero y r = absurd (not-suc-le-zero y)
      size (suc j) y r = let a = low j r in omega arith

  lowest_of_lem : (v k : ℕ) (l : List ℕ) → v < n → Least (suc k) v v l → ((m : List ℕ) → Cycle n E v m → suc k ≤ length m)
      → ((w : ℕ) → on w ≡ true → v ≤ w) → LowestCycle n E l
  lowest_of_lem v k l h L short' low = record {
    job = v;
    is = record { inside = h; some = let a = L.long in omega arith; closed = L.is };
    lowest_job = λ w m c. low w (on_of w m c);
    shortest = λ m c. let a = L.long in let b = short' m c in omega arith;
    lowest = λ m c e. L.low m c.closed (e ∙ L.long);
  }

  pub cycle_shows : Shows (cycle n E)
  cycle_shows = outer (found n on)
    where
      inner : (v : ℕ) → v < n → on v ≡ true → ((w : ℕ) → on w ≡ true → v ≤ w) → {o : Option ℕ} → Found n (closes n E v) o
          → Shows (elim o [ none ↦ none | some k ↦ some (trail n E (suc k) v v) ])
      inner v h q low (hit k a b lowk) =
          shows (lowest_of_lem v k (trail n E (suc k) v v) h (trail_least (suc k) v v b) (shortest_of v k lowk) low)
      inner v h q low (miss f) =
          let (k, a, b) = nobody_false n (closes n E v) (not-true (nobody n (closes n E v)) q) in
          clash b (f k a)

      outer : {o : Option ℕ} → Found n on o → Shows (cycle_at n E o)
      outer (hit v h q low) = inner v h q low (found n (closes n E v))
      outer (miss f) = calm (λ w m c. clash (on_of w m c) (f w c.inside))

  -- ── walks with and without their lists ──

  pub trail_append : {u v w : ℕ} {l m : List ℕ} → Trail n E u l v → Trail n E v m w → Trail n E u (l ++ m) w
  trail_append (end q) t = rw q t
  trail_append (go h e s) t = go h e (trail_append s t)

  pub trail_walk : {u v w : ℕ} {l : List ℕ} → E u v ≡ true → v < n → Trail n E v l w → Walk n E u w
  trail_walk {u} {v} {w} e h (end q) = let y : E u w ≡ true = rw q at e in one y
  trail_walk e h (go h' e' t) = more h e (trail_walk e' h' t)

  pub walk_trail : {u w : ℕ} → w < n → Walk n E u w → (l : List ℕ) × (0 < length l) × Trail n E u l w
  walk_trail {u} {w} h (one e) = (u ∷ [], omega arith, go h e (end refl))
  walk_trail {u} {w} h (more hv e k) = let (l, z, t) = walk_trail h k in (u ∷ l, omega arith, go hv e t)

  pub circuit_cycle : Circuit n E → (v : ℕ) × (l : List ℕ) × Cycle n E v l
  circuit_cycle (v, h, w) = let (l, z, t) = walk_trail h w in (v, l, record { inside = h; some = z; closed = t })

  pub cycle_circuit : {v : ℕ} {l : List ℕ} → Cycle n E v l → Circuit n E
  cycle_circuit {v} {l} c = look c.inside c.some c.closed
    where
      look : {l : List ℕ} → v < n → 0 < length l → Trail n E v l v → Circuit n E
      look h z (end q) = absurd (not-suc-le-zero z)
      look h z (go hw e t) = (v, h, trail_walk e hw t)
