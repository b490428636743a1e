-- The move checks against their sentences, and what a move keeps of a route.
-- A cycle is a list of jobs; its steps are the neighbours of that list, closed. A trail of E is one of S, or has a step that is not of S:
-- so the two checks differ only where S holds a cycle. A move puts the pieces of a route together anew: every sum over it stays.
-- Assumes nothing.
use Prim.Native.Nat.{ℕ, zero, suc, ◌+◌, ◌-◌, ◌≤◌, ◌<◌}
use mathlib.Core.Path.{◌≡◌, refl, sym, ap, ◌∙◌}
use mathlib.Core.Bool.{Bool, true, false, not, cond, ◌&&◌, ◌||◌}
use mathlib.Core.Logic.{◌⊎◌, inl, inr, ⊎_elim, ◌↔◌}
use mathlib.Core.List.{List, [], ◌∷◌, ◌++◌, map}
use native.Mathlib.Omega.{arith}
use native.Mathlib.Nat.{not-suc-le-zero}
use lib.Dec.{eqb, ltb, leb}
use lib.ListN.{length, get_or, take, drop, take-append-drop, length-take, length-drop, length-map}
use lib.Seq.{take-add}
use borrow.Author.Tests.{eq-eqb, eqb-true, not-true, ltb-true, leb-true}
use Rattle.rules.specs.Graphs.{Cycle, Graph, Trail, end, go}
use Rattle.rules.specs.Lists.{Once, Pair, all_below, count, distinct, is_zero, less, memb, nobody, same_pair, sum_below, sum_of, tick, times}
use Rattle.rules.specs.Moves.{AddedCycle, Move, full_check, good_positions, insert_at, is_fixed, is_moved_cyclic, is_moved_quick, leads, moved_added, steps_of}
use Rattle.rules.specs.Moves.{list_change, moved, moved_on, moved_stays, neighbours, new_route, occurs, permutation, quick_check}
use Rattle.rules.specs.Moves.{remove, slice, sublist_change, sublist_swap, swapped}
use Rattle.rules.specs.Routes.{Plan, Stop, invalid_of, jobs_of, links, links_of, live, read, route_of, stops_of}
use Rattle.rules.specs.Scores.{is_cyclic, times_in}
use Rattle.rules.specs.Shown.{reach, trail}
use Rattle.rules.specs.Sound.{Joined}
use Rattle.rules.proofs.Bounds.{sum_const, sum_places}
use Rattle.rules.proofs.Cycles.{reach_of_lem, simple, trail_append, trail_least}
use Rattle.rules.proofs.Members.{once_count, or-true}
use Rattle.rules.proofs.Plans.{cyclic_cycle}
use Rattle.rules.proofs.Ranges.{Test, and_true, below, clash, count_all_lem, count_less, count_zero, fail, less_other, less_self, nobody_false, nobody_true, pass, test}
use Rattle.rules.proofs.Stages.{all_valid, stops_joined}
use Rattle.rules.proofs.Verdicts.{order_cycle}
use Rattle.rules.proofs.Walks.{or_right}

-- ── tests ──

-- two tests that pass together are one
pub tests_same : {a b : Bool} → (a ≡ true → b ≡ true) → (b ≡ true → a ≡ true) → a ≡ b
tests_same {a = true} f g = sym (f refl)
tests_same {a = false} {b = true} f g = g refl
tests_same {a = false} {b = false} f g = refl

pub somebody : (n : ℕ) (p : ℕ → Bool) (v : ℕ) → v < n → p v ≡ true → not (nobody n p) ≡ true
somebody n p v h e = look (test (nobody n p))
  where
    look : Test (nobody n p) → not (nobody n p) ≡ true
    look (fail f) = rw f
    look (pass f) = clash e (nobody_true n p f v h)

pub occurs_first : (u v : ℕ) (l : List Pair) → occurs ((u, v) ∷ l) u v ≡ true
occurs_first u v l = rw (eq-eqb u u refl, eq-eqb v v refl)

pub occurs_later : (e : Pair) (l : List Pair) (u v : ℕ) → occurs l u v ≡ true → occurs (e ∷ l) u v ≡ true
occurs_later e l u v h = look (same_pair (u, v) e)
  where
    look : (b : Bool) → not (is_zero (tick b (times (u, v) l))) ≡ true
    look true = refl
    look false = h

pub occurs_either : (a b : ℕ) (l : List Pair) (u v : ℕ) → occurs ((a, b) ∷ l) u v ≡ true
    → ((u ≡ a) × (v ≡ b)) ⊎ (occurs l u v ≡ true)
occurs_either a b l u v h = look (test (same_pair (u, v) (a, b)))
  where
    look : Test (same_pair (u, v) (a, b)) → ((u ≡ a) × (v ≡ b)) ⊎ (occurs l u v ≡ true)
    look (pass e) = let (x, y) = and_true {a = eqb u a} e in inl (eqb-true u a x, eqb-true v b y)
    look (fail e) = inr (rw e at h)

-- ── the steps of a cycle ──

module _ (n : ℕ) (E : Graph) where
  trail_steps : {w x : ℕ} {l : List ℕ} (a : ℕ) → Trail n E w l x → steps_of x (a ∷ l) ≡ (a, w) ∷ steps_of x l
  trail_steps a (end q) = rw q
  trail_steps a (go h e t) = refl

  -- a trail from a to x takes the edge from u to v
  pub record Passes (a x u v : ℕ) : Type 0 where
    pub tail_in : u < n
    pub head_in : v < n
    pub is : E u v ≡ true
    pub before : (l : List ℕ) × Trail n E a l u
    pub behind : (l : List ℕ) × Trail n E v l x

  pub passes : {a x : ℕ} {l : List ℕ} → a < n → Trail n E a l x → (u v : ℕ) → occurs (steps_of x l) u v ≡ true → Passes a x u v
  passes ha (end q) u v o = clash o refl
  passes {a} {x} ha (go {w = w} {l = l} h e t) u v o =
      look (occurs_either a w (steps_of x l) u v (rw (trail_steps a t) at o)) (λ k. passes h t u v k)
    where
      look : ((u ≡ a) × (v ≡ w)) ⊎ (occurs (steps_of x l) u v ≡ true) → (occurs (steps_of x l) u v ≡ true → Passes w x u v) → Passes a x u v
      look (inl (p, q)) ih =
          record { tail_in = rw p ha; head_in = rw q h; is = rw (p, q) e; before = ([], end (sym p)); behind = (l, rw q t) }
      look (inr k) ih =
          let P = ih k in
          record {
            tail_in = P.tail_in;
            head_in = P.head_in;
            is = P.is;
            before = (a ∷ P.before.0, go h e P.before.1);
            behind = P.behind;
          }

  leads_of : (u v : ℕ) (l : List ℕ) → u < n → v < n → Trail n E u l v → leads n E u v ≡ true
  leads_of u v l hu hv t =
      let S = simple n E hu t in
      let b = once_count n S.list (less (λ x. true) v) S.once
      (λ x y. (S.within x y, less_other (λ x. true) v x (λ q. clash y (rw q S.free)))) in
      let c = count_less n (λ x. true) v hv refl in
      let d = count_all_lem n in
      somebody n (λ k. reach n E k u v) (length S.list) (omega arith) (reach_of_lem n E S.is)

  leads_trail : (u v : ℕ) → leads n E u v ≡ true → (l : List ℕ) × Trail n E u l v
  leads_trail u v e =
      let (k, h, r) = nobody_false n (λ k. reach n E k u v) (not-true (nobody n (λ k. reach n E k u v)) e) in
      (trail n E k u v, (trail_least n E k u v r).is)

  -- some walk leads from u to v
  pub leads_exactly : (u v : ℕ) → u < n → v < n → (leads n E u v ≡ true) ↔ ((l : List ℕ) × Trail n E u l v)
  leads_exactly u v hu hv = (λ e. leads_trail u v e, λ (l, t). leads_of u v l hu hv t)

  -- ── the checks of a graph ──

  -- "Full check: cyclic exactly if the edges that are on hold a cycle."
  pub full_cycle : (full_check n E ≡ true) ↔ ((v : ℕ) × (l : List ℕ) × Cycle n E v l)
  full_cycle = let a = order_cycle n E in (λ e. a.0 (not-true _ e), λ c. ap not (a.1 c))

  module _ (S : Graph) where
    -- some cycle of E uses an edge that is not of S
    pub record Turned : Type 0 where
      pub job : ℕ
      pub list : List ℕ
      pub is : Cycle n E job list
      pub tail : ℕ
      pub head : ℕ
      pub step : occurs (steps_of job list) tail head ≡ true
      pub new : S tail head ≡ false

    -- the same for a search: of E an edge that is not of S, from whose head a walk leads back to its tail
    pub record Back : Type 0 where
      pub tail : ℕ
      pub head : ℕ
      pub tail_in : tail < n
      pub head_in : head < n
      pub is : E tail head ≡ true
      pub new : S tail head ≡ false
      pub list : List ℕ
      pub back : Trail n E head list tail

    pub turned_back : Turned → Back
    turned_back T =
        let P = passes T.is.inside T.is.closed T.tail T.head T.step in
        record {
          tail = T.tail;
          head = T.head;
          tail_in = P.tail_in;
          head_in = P.head_in;
          is = P.is;
          new = T.new;
          list = P.behind.0 ++ P.before.0;
          back = trail_append n E P.behind.1 P.before.1;
        }

    pub back_turned : Back → Turned
    back_turned B = record {
      job = B.tail;
      list = B.tail ∷ B.list;
      is = record { inside = B.tail_in; some = omega arith; closed = go B.head_in B.is B.back };
      tail = B.tail;
      head = B.head;
      step = rw (trail_steps B.tail B.back) (occurs_first B.tail B.head (steps_of B.tail B.list));
      new = B.new;
    }

    quick_back : quick_check n E S ≡ true → Back
    quick_back e =
        let (u, hu, a) = nobody_false n outer (not-true (nobody n outer) e) in
        let (v, hv, b) = nobody_false n (inner u) (not-true (nobody n (inner u)) a) in
        let (c, d) = and_true {a = E u v && not (S u v)} b in
        let (f, g) = and_true {a = E u v} c in
        let (l, t) = leads_trail v u d in
        record { tail = u; head = v; tail_in = hu; head_in = hv; is = f; new = not-true (S u v) g; list = l; back = t }
      where
        inner : ℕ → ℕ → Bool
        inner u v = (E u v && not (S u v)) && leads n E v u

        outer : ℕ → Bool
        outer u = not (nobody n (inner u))

    back_quick : Back → quick_check n E S ≡ true
    back_quick B =
        somebody n (λ u. not (nobody n (λ v. (E u v && not (S u v)) && leads n E v u))) B.tail B.tail_in
        (somebody n (λ v. (E B.tail v && not (S B.tail v)) && leads n E v B.tail) B.head B.head_in
        (rw (B.is, B.new, leads_of B.head B.tail B.list B.head_in B.tail_in B.back)))

    -- "Quick check: yes exactly if some cycle of them uses an added edge that was not already on."
    pub quick_turned : (quick_check n E S ≡ true) ↔ Turned
    quick_turned = (λ e. back_turned (quick_back e), λ T. back_quick (turned_back T))

    -- a trail of E is one of S, or has a step that is not of S
    crossed : {a x : ℕ} {l : List ℕ} → Trail n E a l x
        → Trail n S a l x ⊎ ((u : ℕ) × (v : ℕ) × (occurs (steps_of x l) u v ≡ true) × (S u v ≡ false))
    crossed (end q) = inl (end q)
    crossed {a} {x} (go {w = w} {l = l} h e t) = look (test (S a w)) (crossed t)
      where
        look : Test (S a w) → Trail n S w l x ⊎ ((u : ℕ) × (v : ℕ) × (occurs (steps_of x l) u v ≡ true) × (S u v ≡ false))
            → Trail n S a (a ∷ l) x ⊎ ((u : ℕ) × (v : ℕ) × (occurs (steps_of x (a ∷ l)) u v ≡ true) × (S u v ≡ false))
        look (fail s) r = inr (a, w, rw (trail_steps a t) (occurs_first a w (steps_of x l)), s)
        look (pass s) (inl r) = inl (go h s r)
        look (pass s) (inr (u, v, o, f)) = inr (u, v, rw (trail_steps a t) (occurs_later (a, w) (steps_of x l) u v o), f)

    -- the quick check never says yes where the full one says no
    pub quick_full : quick_check n E S ≡ true → full_check n E ≡ true
    quick_full e = let T = quick_turned.0 e in full_cycle.1 (T.job, T.list, T.is)

    -- "They agree if the live edges, less the removed unfixed ones, hold no cycle."
    pub same_checks : ((v : ℕ) (l : List ℕ) → Cycle n S v l → ⊥) → full_check n E ≡ quick_check n E S
    same_checks none_of = tests_same (λ e. (let (v, l, c) = full_cycle.0 e in quick_turned.1 (turn c (crossed c.closed)))) quick_full
      where
        turn : {v : ℕ} {l : List ℕ} → Cycle n E v l
            → Trail n S v l v ⊎ ((u : ℕ) × (w : ℕ) × (occurs (steps_of v l) u w ≡ true) × (S u w ≡ false)) → Turned
        turn {v} {l} c (inl t) = absurd (none_of v l (record { inside = c.inside; some = c.some; closed = t }))
        turn {v} {l} c (inr (u, w, o, f)) = record { job = v; list = l; is = c; tail = u; head = w; step = o; new = f }

-- more edges have more trails
pub trail_more : (n : ℕ) (E F : Graph) → ((u v : ℕ) → E u v ≡ true → F u v ≡ true)
    → {a x : ℕ} {l : List ℕ} → Trail n E a l x → Trail n F a l x
trail_more n E F f (end q) = end q
trail_more n E F f (go h e t) = go h (f _ _ e) (trail_more n E F f t)

-- ── the checks of a plan ──

-- an edge that is on and was not already on is added
pub fresh_added : (p : Plan) (o : ℕ) (m : Move) (u v : ℕ) → moved_on p o m u v ≡ true → moved_stays p o m u v ≡ false
    → moved_added p o m u v ≡ true
unfolding moved_on moved_stays
fresh_added p o m u v e f = ⊎_elim (λ (x : moved_added p o m u v ≡ true). x) (λ x. clash x f) (or-true {a = moved_added p o m u v} e)

-- an added edge was already on exactly if it was live
pub added_stays : (p : Plan) (o : ℕ) (m : Move) (u v : ℕ) → moved_added p o m u v ≡ true → moved_stays p o m u v ≡ live p u v
unfolding moved_stays
added_stays p o m u v e = let (a, b) = and_true {a = occurs (neighbours (new_route p o m)) u v} e in
    rw a (look (occurs (neighbours (jobs_of (route_of p o))) u v) (live p u v))
  where
    look : (a b : Bool) → b && (not (a && false) || is_fixed p u v) ≡ b
    look true true = refl
    look true false = refl
    look false true = refl
    look false false = refl

-- "Full check: cyclic exactly if the edges that are on hold a cycle."
pub full_check_lem : (p : Plan) (o : ℕ) (m : Move)
    → (is_moved_cyclic p o m ≡ true) ↔ ((v : ℕ) × (l : List ℕ) × Cycle p.base.jobs (moved_on p o m) v l)
unfolding is_moved_cyclic
full_check_lem p o m = full_cycle p.base.jobs (moved_on p o m)

-- "Quick check: yes exactly if some cycle of them uses an added edge that was not already on."
pub quick_check_lem : (p : Plan) (o : ℕ) (m : Move) → (is_moved_quick p o m ≡ true) ↔ AddedCycle p o m
unfolding is_moved_quick
quick_check_lem p o m = (λ e. forth ((quick_turned n E S).0 e), λ A. (quick_turned n E S).1 (back A))
  where
    n : ℕ
    n = p.base.jobs

    E : Graph
    E = moved_on p o m

    S : Graph
    S = moved_stays p o m

    forth : Turned n E S → AddedCycle p o m
    forth T = record {
      job = T.job;
      list = T.list;
      is = T.is;
      tail = T.tail;
      head = T.head;
      step = T.step;
      joins = fresh_added p o m T.tail T.head (passes n E T.is.inside T.is.closed T.tail T.head T.step).is T.new;
      was_off = T.new;
    }

    back : AddedCycle p o m → Turned n E S
    back A = record { job = A.job; list = A.list; is = A.is; tail = A.tail; head = A.head; step = A.step; new = A.was_off }

-- "They agree if the live edges, less the removed unfixed ones, hold no cycle."
pub checks_agree : (p : Plan) (o : ℕ) (m : Move) → ((v : ℕ) (l : List ℕ) → Cycle p.base.jobs (moved_stays p o m) v l → ⊥)
    → is_moved_cyclic p o m ≡ is_moved_quick p o m
unfolding is_moved_cyclic is_moved_quick
checks_agree p o m = same_checks p.base.jobs (moved_on p o m) (moved_stays p o m)

-- so they agree on a plan that is not cyclic
pub checks_agree_calm : (p : Plan) (o : ℕ) (m : Move) → is_cyclic p ≡ false → is_moved_cyclic p o m ≡ is_moved_quick p o m
unfolding moved_stays
checks_agree_calm p o m e = checks_agree p o m (λ v l c. clash ((cyclic_cycle p).1 (
  v,
  l,
  record {
    inside = c.inside;
    some = c.some;
    closed = trail_more p.base.jobs (moved_stays p o m) (live p) (λ u w f. (and_true {a = live p u w} f).0) c.closed;
  },
)) e)

-- and the quick one never says yes where the full one says no
pub quick_cyclic : (p : Plan) (o : ℕ) (m : Move) → is_moved_quick p o m ≡ true → is_moved_cyclic p o m ≡ true
unfolding is_moved_cyclic is_moved_quick
quick_cyclic p o m = quick_full p.base.jobs (moved_on p o m) (moved_stays p o m)

-- ── a route put with no invalid entry ──

-- then its edges are just its neighbours
pub joined_links : (l : List Stop) → Joined l → links l ≡ neighbours (map (λ (s : Stop). s.0) l)
joined_links [] h = refl
joined_links (a ∷ []) h = refl
joined_links (a ∷ b ∷ l) (e, h) = look b.1 e (joined_links (b ∷ l) h)
  where
    m : List Pair
    m = neighbours (map (λ (s : Stop). s.0) (b ∷ l))

    look : (k : Bool) → k ≡ true → links (b ∷ l) ≡ m → cond k ((a.0, b.0) ∷ links (b ∷ l)) (links (b ∷ l)) ≡ (a.0, b.0) ∷ m
    look true e ih = ap {B = List Pair} (λ (x : List Pair). (a.0, b.0) ∷ x) ih
    look false e ih = clash e refl

stops_jobs : (n : ℕ) (j : Bool) (l : List ℕ) → invalid_of n l ≡ 0 → map (λ (s : Stop). s.0) (stops_of n j l) ≡ l
stops_jobs n j [] z = refl
stops_jobs n j (v ∷ l) z =
    let (a, y) = all_valid n v l z in
    rw a (ap {B = List ℕ} (λ (x : List ℕ). v ∷ x) (stops_jobs n true l y))

-- it is stored as it was put
pub unbroken_jobs : (n : ℕ) (l : List ℕ) → (read n l).invalid ≡ 0 → jobs_of (read n l) ≡ l
unfolding read
unbroken_jobs n l z = stops_jobs n false l z

-- "Each two neighbouring valid entries, unbroken, give an edge."
pub unbroken_links : (n : ℕ) (l : List ℕ) → (read n l).invalid ≡ 0 → links_of (read n l) ≡ neighbours (jobs_of (read n l))
unfolding read
unbroken_links n l z = joined_links (stops_of n false l) (stops_joined n false l z)

-- ── what a move keeps ──

module _ {A : Type 0} (f : A → ℕ) where
  pub sum_append : (l m : List A) → sum_of f (l ++ m) ≡ sum_of f l + sum_of f m
  sum_append [] m = omega arith
  sum_append (a ∷ l) m = let ih = sum_append l m in omega arith

  sum_parts : (i : ℕ) (l : List A) → sum_of f (take i l) + sum_of f (drop i l) ≡ sum_of f l
  sum_parts i l = sym (sum_append (take i l) (drop i l)) ∙ ap (sum_of f) (take-append-drop i l)

pub sum_map : {A B : Type 0} (f : B → ℕ) (g : A → B) (l : List A) → sum_of f (map g l) ≡ sum_of (λ a. f (g a)) l
sum_map f g [] = refl
sum_map f g (a ∷ l) = ap (λ (x : ℕ). f (g a) + x) (sum_map f g l)

module _ (f : ℕ → ℕ) where
  sum_slice : (a b : ℕ) (l : List ℕ) → a ≤ b → sum_of f (take a l) + sum_of f (slice a b l) ≡ sum_of f (take b l)
  sum_slice a b l h =
      let e : a + (b - a) ≡ b = omega arith in
      sym (sum_append f (take a l) (slice a b l)) ∙ ap (sum_of f) (sym (take-add a (b - a) l)) ∙ ap (λ (x : ℕ). sum_of f (take x l)) e

  sum_insert : (i : ℕ) (x l : List ℕ) → sum_of f (insert_at i x l) ≡ sum_of f x + sum_of f l
  sum_insert i x l = omega (arith, sum_append f (take i l) (x ++ drop i l), sum_append f x (drop i l), sum_parts f i l)

  -- what is taken out and put in elsewhere
  sum_shift : (i a b : ℕ) (l : List ℕ) → a ≤ b → sum_of f (insert_at i (slice a b l) (remove a b l)) ≡ sum_of f l
  sum_shift i a b l h =
      let s = sum_insert i (slice a b l) (remove a b l) in
      omega (arith, sum_append f (take a l) (drop b l), sum_slice a b l h, sum_parts f b l)

  sum_swapped : (a b c d : ℕ) (l : List ℕ) → a ≤ b → b ≤ c → c ≤ d → sum_of f (swapped a b c d l) ≡ sum_of f l
  sum_swapped a b c d l h i j =
      let p = sum_append f (take a l) (slice c d l ++ (slice b c l ++ (slice a b l ++ drop d l))) in
      let q = sum_append f (slice c d l) (slice b c l ++ (slice a b l ++ drop d l)) in
      let r = sum_append f (slice b c l) (slice a b l ++ drop d l) in
      let s = sum_append f (slice a b l) (drop d l) in
      omega (arith, sum_slice a b l h, sum_slice b c l i, sum_slice c d l j, sum_parts f d l)

-- ── a permutation ──

pub distinct_once : (l : List ℕ) → distinct l ≡ true → Once l
distinct_once [] e = tt
distinct_once (v ∷ l) e = let (a, b) = and_true {a = not (memb v l)} e in (not-true (memb v l) a, distinct_once l b)

pub below_all : (n : ℕ) (l : List ℕ) → all_below n l ≡ true → (v : ℕ) → memb v l ≡ true → v < n
below_all n [] e v h = clash h refl
below_all n (w ∷ l) e v h =
    let (a, b) = and_true {a = ltb w n} e in
    ⊎_elim (λ (q : eqb v w ≡ true). rw (eqb-true v w q) (ltb-true w n a)) (λ (k : memb v l ≡ true). below_all n l b v k)
    (or-true {a = eqb v w} h)

pub sum_same : (n : ℕ) (f g : ℕ → ℕ) → ((v : ℕ) → v < n → f v ≡ g v) → sum_below n f ≡ sum_below n g
sum_same zero f g h = refl
sum_same (suc n) f g h = let a = sum_same n f g (λ v k. h v (omega arith)) in let b = h n (omega arith) in omega arith

-- the sum over those that pass p
abbrev pub sum_those : ℕ → (ℕ → Bool) → (ℕ → ℕ) → ℕ
sum_those n p f = sum_below n (λ v. cond (p v) (f v) 0)

pub sum_less : (n : ℕ) (p : ℕ → Bool) (f : ℕ → ℕ) (v : ℕ) → v < n → p v ≡ true → sum_those n p f ≡ f v + sum_those n (less p v) f
sum_less zero p f v h e = absurd (not-suc-le-zero h)
sum_less (suc n) p f v h e = ⊎_elim (λ (l : v < n). early l (sum_less n p f v l e)) last (below h)
  where
    early : v < n → sum_those n p f ≡ f v + sum_those n (less p v) f → sum_those (suc n) p f ≡ f v + sum_those (suc n) (less p v) f
    early l ih = rw (less_other p v n (λ (q : n ≡ v). omega arith)) (omega arith)

    last : v ≡ n → sum_those (suc n) p f ≡ f v + sum_those (suc n) (less p v) f
    last q =
        let a : p n ≡ true = rw (← q) e in
        let b : less p v n ≡ false = rw (← q) (less_self p v) in
        let c = sum_same n (λ w. cond (less p v w) (f w) 0) (λ w. cond (p w) (f w) 0)
        (λ w k. ap (λ (t : Bool). cond t (f w) 0) (less_other p v w (λ (r : w ≡ v). omega arith))) in
        let d : f v ≡ f n = ap f q in
        rw (b, a) (omega arith)

-- a list that holds just those that pass p, each once, has their sum
pub sum_once : (n : ℕ) (l : List ℕ) (p : ℕ → Bool) (f : ℕ → ℕ) → Once l → ((v : ℕ) → memb v l ≡ true → (v < n) × (p v ≡ true))
    → length l ≡ count n p → sum_of f l ≡ sum_those n p f
sum_once n [] p f o h e =
    let a = sum_same n (λ v. cond (p v) (f v) 0) (λ v. 0) (λ v k. ap (λ (t : Bool). cond t (f v) 0) (count_zero n p (sym e) v k)) in
    let b = sum_const n 0 in
    omega arith
sum_once n (v ∷ l) p f (a, o) h e =
    let (hv, pv) = h v (rw (eq-eqb v v refl)) in
    let c = count_less n p v hv pv in
    let ih = sum_once n l (less p v) f o
    (λ w m. let (x, y) = h w (or_right (eqb w v) m) in (x, less_other p v w (λ q. clash m (rw q a)) ∙ y)) (omega arith) in
    let s = sum_less n p f v hv pv in
    omega arith

sum_permuted : (f : ℕ → ℕ) (s π : List ℕ) → length π ≡ length s → all_below (length s) π ≡ true → distinct π ≡ true
    → sum_of f (map (λ i. get_or s i 0) π) ≡ sum_of f s
sum_permuted f s π e b d =
    sum_map f (λ i. get_or s i 0) π
    ∙ sum_once (length s) π (λ v. true) (λ i. f (get_or s i 0)) (distinct_once π d) (λ v h. (below_all (length s) π b v h, refl))
    (e ∙ sym (count_all_lem (length s)))
    ∙ sym (sum_places f 0 s)

-- ── the new route ──

-- every sum over a route is that over the new one: the same entries stand in it, each as often
pub moved_sum : (f : ℕ → ℕ) (m : Move) (l : List ℕ) → good_positions (length l) m ≡ true → sum_of f (moved m l) ≡ sum_of f l
unfolding good_positions moved
moved_sum f (list_change s d) l e = sum_shift f (cond (ltb s d) (d - 1) d) s (suc s) l (omega arith)
moved_sum f (sublist_change a b d) l e = sum_shift f d a b l (leb-true a b (and_true {a = leb a b} e).0)
moved_sum f (sublist_swap a b c d) l e =
    let (x, y) = and_true {a = leb a b && leb c d} e in
    let (p, q) = and_true {a = leb a b} x in
    look (leb-true a b p) (leb-true c d q) (leb a c) y
  where
    look : a ≤ b → c ≤ d → (t : Bool) → cond t (leb b c && leb d (length l)) (leb d a && leb b (length l)) ≡ true
        → sum_of f (cond t (swapped a b c d l) (swapped c d a b l)) ≡ sum_of f l
    look h i true k = sum_swapped f a b c d l h (leb-true b c (and_true {a = leb b c} k).0) i
    look h i false k = sum_swapped f c d a b l i (leb-true d a (and_true {a = leb d a} k).0) h
moved_sum f (permutation a b π) l e =
    let (x, y) = and_true {a = leb a b} e in
    let (z, u) = and_true {a = leb b (length l)} y in
    let (v, w) = and_true {a = eqb (length π) (b - a)} u in
    let (s, t) = and_true {a = all_below (b - a) π} w in
    let h = leb-true a b x in
    let k = leb-true b (length l) z in
    let n : length (slice a b l) ≡ b - a = simp (length-take, length-drop) (omega arith) in
    let r = sum_permuted f (slice a b l) π (eqb-true _ _ v ∙ sym n) (rw n s) t in
    let g = map (λ i. get_or (slice a b l) i 0) π in
    omega (arith, sum_append f (take a l) (g ++ drop b l), sum_append f g (drop b l), sum_slice f a b l h, sum_parts f b l)

pub sum_ones : {A : Type 0} (l : List A) → sum_of (λ a. 1) l ≡ length l
sum_ones [] = refl
sum_ones (a ∷ l) = let ih = sum_ones l in omega arith

-- the new route is as long as the old one
pub moved_length : (m : Move) (l : List ℕ) → good_positions (length l) m ≡ true → length (moved m l) ≡ length l
moved_length m l e = sym (sum_ones (moved m l)) ∙ moved_sum (λ v. 1) m l e ∙ sum_ones l

-- each job stands in it as often
pub moved_times : (m : Move) (l : List ℕ) → good_positions (length l) m ≡ true → (v : ℕ) → times_in v (moved m l) ≡ times_in v l
moved_times m l e v = moved_sum (λ w. tick (eqb v w) 0) m l e

pub memb_times : (v : ℕ) (l : List ℕ) → memb v l ≡ not (is_zero (times_in v l))
memb_times v [] = refl
memb_times v (w ∷ l) = look (eqb v w) (memb_times v l)
  where
    look : (b : Bool) → memb v l ≡ not (is_zero (times_in v l)) → b || memb v l ≡ not (is_zero (tick b 0 + times_in v l))
    look true ih = ap (λ (x : ℕ). not (is_zero x)) (let a : suc (times_in v l) ≡ 1 + times_in v l = omega arith in a)
    look false ih = ih ∙ ap (λ (x : ℕ). not (is_zero x)) (let a : times_in v l ≡ 0 + times_in v l = omega arith in a)

-- and its jobs are those of the old one
pub moved_jobs : (m : Move) (l : List ℕ) → good_positions (length l) m ≡ true → (v : ℕ) → memb v (moved m l) ≡ memb v l
moved_jobs m l e v =
    memb_times v (moved m l) ∙ ap (λ (x : ℕ). not (is_zero x)) (moved_times m l e v) ∙ sym (memb_times v l)

-- of a plan, where the move's positions are not refused
module _ (p : Plan) (o : ℕ) (m : Move) (good : good_positions (length (route_of p o).stops) m ≡ true) where
  good_jobs : good_positions (length (jobs_of (route_of p o))) m ≡ true
  good_jobs = rw (length-map (route_of p o).stops (λ (s : Stop). s.0)) good

  -- the answer needs "the route's length for a move"
  pub new_length : length (new_route p o m) ≡ length (route_of p o).stops
  unfolding new_route
  new_length = moved_length m (jobs_of (route_of p o)) good_jobs ∙ length-map (route_of p o).stops (λ (s : Stop). s.0)

  pub new_times : (v : ℕ) → times_in v (new_route p o m) ≡ times_in v (jobs_of (route_of p o))
  unfolding new_route
  new_times = moved_times m (jobs_of (route_of p o)) good_jobs

  pub new_jobs : (v : ℕ) → memb v (new_route p o m) ≡ memb v (jobs_of (route_of p o))
  unfolding new_route
  new_jobs = moved_jobs m (jobs_of (route_of p o)) good_jobs
