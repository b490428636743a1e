-- A put, stage by stage, as a chain of plans: each waiting owner's route becomes empty, then the owner's own route the new one. Each plan on
-- the way is sound, and how many entries are in force at the end can be told before. Assumes nothing.
use Prim.Native.Nat.{ℕ, zero, suc, ◌+◌, ◌≤◌, ◌<◌}
use mathlib.Core.Path.{◌≡◌, refl, sym, ap, ◌∙◌}
use mathlib.Core.Bool.{Bool, true, false, not, cond}
use mathlib.Core.Logic.{⊎_elim}
use mathlib.Core.List.{List, [], ◌∷◌, ◌++◌, map}
use native.Mathlib.Omega.{arith}
use native.Mathlib.Nat.{not-suc-le-zero}
use lib.Dec.{eqb}
use lib.ListN.{length, get_or, set, length-set}
use lib.Seq.{get_or-set_other}
use borrow.Author.Tests.{eq-eqb, eqb-true, eqb-false}
use Rattle.rules.specs.Lists.{Once, Pair, is_zero, memb, sum_of, times}
use Rattle.rules.specs.Reports.{push}
use Rattle.rules.specs.Routes.{Emptied, Plan, Route, emptied, empty, empty_route, exchange, holders, in_force, links_of, live, own_stage, put_plan, read, route_of, staged, without}
use Rattle.rules.specs.Sizes.{Base, most_entries}
use Rattle.rules.specs.Sound.{Sound, Read}
use Rattle.rules.specs.Steps.{staging, turning, amid, begun, unwaited}
use Rattle.rules.proofs.Members.{memb_append, or_false, or-true}
use Rattle.rules.proofs.Puts.{Along, emptied_along}
use Rattle.rules.proofs.Ranges.{Test, clash, fail, pass, test}
use Rattle.rules.proofs.Stages.{keep_none, read_read, reads_set, staged_kept, staged_tails, sum_set, tells, tips}
use Rattle.rules.proofs.Walks.{or_right}

-- ── one stage ──

pub turning_sound : (p : Plan) (o : ℕ) (r : Route) → Sound p → o < p.base.owners → Read p.base.jobs r
    → in_force (set p.desk.routes o r) ≤ most_entries → Sound (turning p o r)
unfolding turning staging
turning_sound p o r S h R room = record {
  loaded = S.loaded;
  kept = staged_kept p.base p.desk.routes p.desk.heads p.desk.tails o r k S.reads R S.kept;
  kept_tails = staged_tails p.base p.desk.routes p.desk.heads p.desk.tails o r k S.reads R S.kept_tails;
  rows = length-set p.desk.routes o r ∙ S.rows;
  reads = reads_set p.base.jobs p.desk.routes o r S.reads R k;
  room = room;
  waits = S.waits;
  once = S.once;
}
  where
    k : o < length p.desk.routes
    k = let a = S.rows in omega arith

-- an emptied owner's entries are given up
pub given_up_lem : (l : List Route) (w : ℕ) → w < length l → in_force (set l w empty_route) + length (get_or l w empty_route).stops ≡ in_force l
given_up_lem l w h = let a = sum_set (λ (r : Route). length r.stops) empty_route l w empty_route h in omega arith

-- ── the waiting owners ──

pub without_turns : (p : Plan) (w : ℕ) (x : Emptied) → amid p (without p.base w x) ≡ turning (amid p x) w empty_route
unfolding without turning staging
without_turns p w x = refl

pub without_went : (p : Plan) (w : ℕ) (x : Emptied) → (without p.base w x).went ≡ x.went ++ (staging (amid p x) w empty_route).went
unfolding without staging
without_went p w x = refl

-- one more of them
pub empty_more : (b : Base) (o : ℕ) (ws : List ℕ) (w : ℕ) (x : Emptied)
    → empty b o (ws ++ w ∷ []) x ≡ cond (eqb w o) (empty b o ws x) (without b w (empty b o ws x))
unfolding empty
empty_more b o [] w x = refl
empty_more b o (v ∷ ws) w x = empty_more b o ws w (cond (eqb v o) x (without b v x))

pub empty_none : (b : Base) (o : ℕ) (x : Emptied) → empty b o [] x ≡ x
unfolding empty
empty_none b o x = refl

pub emptied_all : (p : Plan) (o : ℕ) → emptied p o ≡ empty p.base o p.desk.waiting (begun p)
unfolding emptied
emptied_all p o = refl

-- ── the put ──

pub put_turns : (p : Plan) (o : ℕ) (l : List ℕ) → put_plan p o l ≡ unwaited (turning (amid p (emptied p o)) o (read p.base.jobs l))
unfolding put_plan own_stage turning staging
put_turns p o l = refl

-- ── entries in force ──

-- what the waiting owners of ws other than o have in force
abbrev pub freed_of : ℕ → List ℕ → List Route → ℕ
freed_of o ws l = sum_of (λ w. cond (eqb w o) 0 (length (get_or l w empty_route).stops)) ws

-- a route is counted as it was, unless its owner was emptied
freed_other : (o w : ℕ) (ws : List ℕ) (l : List Route) → memb w ws ≡ false → freed_of o ws (set l w empty_route) ≡ freed_of o ws l
freed_other o w [] l m = refl
freed_other o w (v ∷ ws) l m =
    let (a, b) = or_false {a = eqb w v} m in
    let e = get_or-set_other l w v empty_route empty_route (λ q. eqb-false w v a (sym q)) in
    let ih = freed_other o w ws l b in
    rw (e, ih)

pub empty_freed : (b : Base) (o : ℕ) (ws : List ℕ) (x : Emptied) → Once ws → ((w : ℕ) → memb w ws ≡ true → w < length x.routes)
    → in_force (empty b o ws x).routes + freed_of o ws x.routes ≡ in_force x.routes
unfolding empty without
empty_freed b o [] x n h = omega arith
empty_freed b o (w ∷ ws) x (m, n) h = go (eqb w o) (λ y. empty_freed b o ws y n)
  where
    first : w < length x.routes
    first = h w (rw (eq-eqb w w refl))

    rest : (v : ℕ) → memb v ws ≡ true → v < length x.routes
    rest v k = h v (or_right (eqb v w) k)

    x' : Emptied
    x' = without b w x

    Freed : Emptied → Type 0
    Freed y = in_force (empty b o ws y).routes + freed_of o ws y.routes ≡ in_force y.routes

    go : (k : Bool) → ((y : Emptied) → ((v : ℕ) → memb v ws ≡ true → v < length y.routes) → Freed y)
        → in_force (empty b o ws (cond k x x')).routes + (cond k 0 (length (get_or x.routes w empty_route).stops) + freed_of o ws x.routes)
        ≡ in_force x.routes
    go true ih = let a = ih x rest in omega arith
    go false ih =
        let a = ih x' (λ v k. let z = length-set x.routes w empty_route in let y = rest v k in omega arith) in
        let c = freed_other o w ws x.routes m in
        let d = given_up_lem x.routes w first in
        omega arith

-- the owner's own route is not emptied
pub empty_own : (b : Base) (o : ℕ) (ws : List ℕ) (x : Emptied) → get_or (empty b o ws x).routes o empty_route ≡ get_or x.routes o empty_route
unfolding empty without
empty_own b o [] x = refl
empty_own b o (w ∷ ws) x = empty_own b o ws (cond (eqb w o) x (without b w x)) ∙ go (test (eqb w o))
  where
    go : Test (eqb w o) → get_or (cond (eqb w o) x (without b w x)).routes o empty_route ≡ get_or x.routes o empty_route
    go (pass e) = rw e
    go (fail e) = rw e (get_or-set_other x.routes w o empty_route empty_route (λ q. eqb-false w o e (sym q)))

-- how many valid entries are in force after a put: what was, less what the waiting owners and the owner had, and the new ones
pub put_entries : (p : Plan) (o : ℕ) (l : List ℕ) → Sound p → o < p.base.owners
    → in_force (put_plan p o l).desk.routes + (freed_of o p.desk.waiting p.desk.routes + length (route_of p o).stops)
    ≡ in_force p.desk.routes + length (read p.base.jobs l).stops
unfolding put_plan
put_entries p o l S h =
    let a = sum_set (λ (r : Route). length r.stops) empty_route (emptied p o).routes o (read p.base.jobs l) k in
    let b = ap (λ (x : Emptied). in_force x.routes) (emptied_all p o) in
    let c = empty_freed p.base o p.desk.waiting (begun p) S.once (λ w m. let z = S.waits w m in let y = S.rows in omega arith) in
    let d = ap (λ (x : Emptied). length (get_or x.routes o empty_route).stops) (emptied_all p o) in
    let e = ap (λ (r : Route). length r.stops) (empty_own p.base o p.desk.waiting (begun p)) in
    omega arith
  where
    k : o < length (emptied p o).routes
    k = let a = (emptied_along p o S).rows in omega arith

-- ── seeds: an edge named twice queues its head once ──

pub push_append : (q l m : List ℕ) → push q (l ++ m) ≡ push (push q l) m
push_append q [] m = refl
push_append q (v ∷ l) m = push_append (cond (memb v q) q (q ++ v ∷ [])) l m

pub push_old : (v : ℕ) (q l : List ℕ) → memb v q ≡ true → memb v (push q l) ≡ true
push_old v q [] e = e
push_old v q (w ∷ l) e = push_old v (cond (memb w q) q (q ++ w ∷ [])) l (go (memb w q))
  where
    go : (b : Bool) → memb v (cond b q (q ++ w ∷ [])) ≡ true
    go true = e
    go false = memb_append v q (w ∷ []) ∙ rw e

pub push_new : (v : ℕ) (q l : List ℕ) → memb v l ≡ true → memb v (push q l) ≡ true
push_new v q [] e = clash e refl
push_new v q (w ∷ l) e = ⊎_elim (λ (x : eqb v w ≡ true). push_old v (cond (memb w q) q (q ++ w ∷ [])) l (go (eqb-true v w x) (test (memb w q))))
    (λ (x : memb v l ≡ true). push_new v (cond (memb w q) q (q ++ w ∷ [])) l x) (or-true {a = eqb v w} e)
  where
    go : v ≡ w → Test (memb w q) → memb v (cond (memb w q) q (q ++ w ∷ [])) ≡ true
    go x (pass m) = rw (m, x) m
    go x (fail m) = rw (m, memb_append v q (w ∷ []), eq-eqb v w x) (or_right (memb v q) refl)

pub memb_map : (f : ℕ → ℕ) (v : ℕ) (l : List ℕ) → memb v l ≡ true → memb (f v) (map f l) ≡ true
memb_map f v [] e = clash e refl
memb_map f v (w ∷ l) e = ⊎_elim (λ (x : eqb v w ≡ true). rw (eq-eqb (f v) (f w) (ap f (eqb-true v w x))))
    (λ (x : memb v l ≡ true). or_right (eqb (f v) (f w)) (memb_map f v l x)) (or-true {a = eqb v w} e)

push_map : (f : ℕ → ℕ) (q acc l : List ℕ) → push q (map f (push acc l)) ≡ push (push q (map f acc)) (map f l)
push_map f q acc [] = refl
push_map f q acc (v ∷ l) = push_map f q (cond (memb v acc) acc (acc ++ v ∷ [])) l ∙ go (test (memb v acc))
  where
    map_snoc : (a : List ℕ) → map f (a ++ v ∷ []) ≡ map f a ++ f v ∷ []
    map_snoc [] = refl
    map_snoc (w ∷ a) = ap {B = List ℕ} (λ (m : List ℕ). f w ∷ m) (map_snoc a)

    go : Test (memb v acc) → push (push q (map f (cond (memb v acc) acc (acc ++ v ∷ [])))) (map f l) ≡ push (push q (map f acc)) (map f (v ∷ l))
    go (pass e) =
        ap (λ (b : Bool). push (push q (map f (cond b acc (acc ++ v ∷ [])))) (map f l)) e
        ∙ sym (ap (λ (b : Bool). push (cond b (push q (map f acc)) (push q (map f acc) ++ f v ∷ [])) (map f l))
        (push_new (f v) q (map f acc) (memb_map f v acc e)))
    go (fail e) =
        ap (λ (b : Bool). push (push q (map f (cond b acc (acc ++ v ∷ [])))) (map f l)) e
        ∙ ap (λ (x : List ℕ). push (push q x) (map f l)) (map_snoc acc)
        ∙ ap (λ (x : List ℕ). push x (map f l)) (push_append q (map f acc) (f v ∷ []))

-- numbers named again change nothing
pub push_once : (f : ℕ → ℕ) (q l : List ℕ) → push q (map f (push [] l)) ≡ push q (map f l)
push_once f q l = push_map f q [] l

-- ── edges that come ──

fewer_sum : (f : Route → ℕ) → f empty_route ≡ 0 → (l : List Route) (w : ℕ) → sum_of f (set l w empty_route) ≤ sum_of f l
fewer_sum f e [] w = omega arith
fewer_sum f e (r ∷ l) zero = omega arith
fewer_sum f e (r ∷ l) (suc w) = let a = fewer_sum f e l w in omega arith

less_held : (b : Base) (l : List Route) (w : ℕ) (e : Pair) → holders b (set l w empty_route) e ≤ holders b l e
unfolding holders
less_held b l w e = let a = fewer_sum (λ r. times e (links_of r)) refl l w in omega arith

-- emptied routes hold no edge more often
empty_fewer : (b : Base) (o : ℕ) (ws : List ℕ) (x : Emptied) (e : Pair) → holders b (empty b o ws x).routes e ≤ holders b x.routes e
unfolding empty without
empty_fewer b o [] x e = omega arith
empty_fewer b o (w ∷ ws) x e = let a = empty_fewer b o ws (cond (eqb w o) x (without b w x)) e in let c = go (eqb w o) in omega arith
  where
    go : (k : Bool) → holders b (cond k x (without b w x)).routes e ≤ holders b x.routes e
    go true = omega arith
    go false = less_held b x.routes w e

-- where no edge to v appeared, every edge to v of the new plan is one of the old
pub came_was : (p : Plan) (o : ℕ) (l : List ℕ) → Sound p → Sound (put_plan p o l) → o < p.base.owners → length l ≤ most_entries
    → (u v : ℕ) → memb v (tips (own_stage p o l).came) ≡ false → live (put_plan p o l) u v ≡ true → live p u v ≡ true
unfolding put_plan own_stage staged exchange
came_was p o l S S' h few u v none k = S.kept.held u v ∙ above (holders p.base p.desk.routes (u, v)) held
  where
    x : Emptied
    x = emptied p o

    A : Along p.base p.desk.heads x
    A = emptied_along p o S

    before : ℕ
    before = holders p.base x.routes (u, v)

    after : ℕ
    after = holders p.base (set x.routes o (read p.base.jobs l)) (u, v)

    positive : (c : ℕ) → not (is_zero c) ≡ true → 0 < c
    positive zero e = clash e refl
    positive (suc c) e = omega arith

    still : Test (is_zero before) → 0 < before
    still (fail z) = positive before (ap not z)
    still (pass z) =
        let a = keep_none (λ e. is_zero (holders p.base x.routes e)) u v (links_of (read p.base.jobs l)) z none in
        let b = tells p.base x.routes x.heads x.tails o (read p.base.jobs l)
        (let c = A.rows in omega arith) A.reads (read_read p.base.jobs l few) (u, v) in
        let d = positive after (sym (S'.kept.held u v) ∙ k) in
        let e = zero_of before z in
        let f : ⊥ = omega arith in
        absurd f
      where
        zero_of : (c : ℕ) → is_zero c ≡ true → c ≡ 0
        zero_of zero e = refl
        zero_of (suc c) e = clash e refl

    held : 0 < holders p.base p.desk.routes (u, v)
    held =
        let a = empty_fewer p.base o p.desk.waiting (begun p) (u, v) in
        let b = ap (λ (y : Emptied). holders p.base y.routes (u, v)) (emptied_all p o) in
        let c = still (test (is_zero before)) in
        omega arith

    above : (c : ℕ) → 0 < c → not (is_zero c) ≡ true
    above zero e = absurd (not-suc-le-zero e)
    above (suc c) e = refl
