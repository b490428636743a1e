-- What is on, as the words hold it, is what the rules say is on: so the verdicts are the rules' own. Assumes nothing.
use Rattle.std.proofs.Common.{◌≡◌, ℕ, ◌<◌, ◌≤◌, Bool, true, false, cond, not, ◌&&◌, ◌||◌, eqb, ◌⊎◌, List, [], ◌∷◌, ◌++◌, sym, subst, refl, ap, ◌∙◌, inl, inr, ⊎_elim, arith, eq-eqb, ne_eqb}
use lib.ListN.{get_or-replicate}
use borrow.Author.Tests.{not-true}
use Rattle.rules.specs.Graphs.{Graph, Trail, end, go}
use Rattle.rules.specs.Lists.{Once, Pair, all_below, any_of, is_zero, memb, nobody, tick, times}
use Rattle.rules.specs.Moves.{full_check, leads, neighbours, occurs, quick_check}
use Rattle.rules.specs.Sizes.{most_entries, most_jobs, pair_up}
use Rattle.rules.proofs.Checks.{below_all, full_cycle, leads_exactly, occurs_either, occurs_first, occurs_later, quick_full, somebody, tests_same}
use Rattle.rules.proofs.Members.{memb_append, or-true}
use Rattle.rules.proofs.Ranges.{Test, and_true, clash, fail, nobody_false, pass, same, test}
use Rattle.edges.specs.Edges.{Holds, Model}
use Rattle.edges.specs.Lists.{out_of}
use Rattle.graphs.specs.Graph.{Below, live}
use Rattle.graphs.proofs.Bridge.{linked}
use Rattle.graphs.proofs.Kahn.{memb_later, memb_self}
use Rattle.starts.specs.Lines.{Lows}
use Rattle.probes.specs.Aheads.{heads_on, staying}
use Rattle.probes.specs.Chains.{Links, Rule, along, always, blank, heads_of, holds_of, joined}
use Rattle.probes.specs.Fulls.{OnGraph, on_edge, on_outs}
use Rattle.probes.specs.Gathered.{comes_on, goes_off}
use Rattle.probes.specs.Judges.{on_for, stays_for}
use Rattle.probes.specs.Pairs.{Rising}
use Rattle.probes.specs.Quicks.{closing, turning}
use Rattle.probes.proofs.Listing.{keep_memb, keep_once}
use Rattle.probes.specs.declared.chain.Chain.{Chain}

-- ── the edges of a set ──

or_none : (b : Bool) → b ≡ b || false
or_none true = refl
or_none false = refl

-- q is what decides while v is not among those that have joined
module _ (p : Rule) (q : Graph) (w : ℕ) (by : (v : ℕ) (m : List ℕ) → memb v m ≡ false → p w v m ≡ q w v) where
  joined_memb : (l : List Pair) (m : List ℕ) (v : ℕ) → memb v (joined p w l m) ≡ memb v m || (occurs l w v && q w v)
  joined_memb [] m v = or_none (memb v m)
  joined_memb ((a, b) ∷ l) m v = joined_memb l (cond (eqb w a && p a b m) (b ∷ m) m) v ∙ look (same w a)
    where
      new : v ≡ b → Test (memb v m) → (t : Bool) → (memb v m ≡ false → t ≡ q w v)
          → memb v (cond t (b ∷ m) m) || (occurs l w v && q w v) ≡ memb v m || q w v
      new e (pass x) true f = rw (eq-eqb v b e, x)
      new e (pass x) false f = rw x
      new e (fail x) true f = rw (eq-eqb v b e, x, ← f x)
      new e (fail x) false f = rw (x, ← f x) (none (occurs l w v))
        where
          none : (y : Bool) → y && false ≡ false
          none true = refl
          none false = refl

      old : (v ≡ b → ⊥) → (t : Bool) → memb v (cond t (b ∷ m) m) ≡ memb v m
      old e true = rw (ne_eqb v b e)
      old e false = refl

      at_w : w ≡ a → (v ≡ b) ⊎ (v ≡ b → ⊥)
          → memb v (cond (eqb w a && p a b m) (b ∷ m) m) || (occurs l w v && q w v)
          ≡ memb v m || (not (is_zero (tick (eqb w a && eqb v b) (times (w, v) l))) && q w v)
      at_w e (inl f) =
          let g : memb v m ≡ false → p a b m ≡ q w v = (λ x. rw (← e, ← f) (by v m x)) in
          rw (eq-eqb w a e, eq-eqb v b f) (new f (test (memb v m)) (p a b m) g)
      at_w e (inr f) = rw (eq-eqb w a e, ne_eqb v b f, old f (p a b m))

      look : (w ≡ a) ⊎ (w ≡ a → ⊥)
          → memb v (cond (eqb w a && p a b m) (b ∷ m) m) || (occurs l w v && q w v)
          ≡ memb v m || (not (is_zero (tick (eqb w a && eqb v b) (times (w, v) l))) && q w v)
      look (inl e) = at_w e (same v b)
      look (inr e) = rw (ne_eqb w a e)

joined_once : (p : Rule) (w : ℕ) → ((u v : ℕ) (m : List ℕ) → p u v m ≡ true → memb v m ≡ false) → (l : List Pair) (m : List ℕ) → Once m
    → Once (joined p w l m)
joined_once p w f [] m o = o
joined_once p w f ((a, b) ∷ l) m o = joined_once p w f l (cond (eqb w a && p a b m) (b ∷ m) m) (look (test (eqb w a && p a b m)))
  where
    look : Test (eqb w a && p a b m) → Once (cond (eqb w a && p a b m) (b ∷ m) m)
    look (fail e) = rw e o
    look (pass e) = rw e (f a b m (and_true {a = eqb w a} e).1, o)

-- of a set that was empty
blank_heads : (w : ℕ) → w < most_jobs → heads_of blank w ≡ []
unfolding along
blank_heads w h = rw (get_or-replicate {A = ℕ} most_jobs w 0 0 (omega arith))

links_hold : {G : Type 0} {p : G → Rule} {l : List Pair} {k : ℕ} {c : Chain} → Links p l k blank c → (g : G) (q : Graph) (u v : ℕ) → u < most_jobs
    → ((v : ℕ) (m : List ℕ) → memb v m ≡ false → p g u v m ≡ q u v) → holds_of c u v ≡ occurs l u v && q u v
links_hold {p = p} {l = l} L g q u v h by =
    ap (memb v) (L.are g u h ∙ ap (joined (p g) u l) (blank_heads u h)) ∙ joined_memb (p g) q u by l [] v

-- ── neighbours ──

-- both ends stand in the list
neighbours_in : (l : List ℕ) (u v : ℕ) → occurs (neighbours l) u v ≡ true → (memb u l ≡ true) × (memb v l ≡ true)
neighbours_in [] u v e = clash e refl
neighbours_in (a ∷ []) u v e = clash e refl
neighbours_in (a ∷ b ∷ l) u v e = look (occurs_either a b (neighbours (b ∷ l)) u v e) (neighbours_in (b ∷ l) u v)
  where
    look : ((u ≡ a) × (v ≡ b)) ⊎ (occurs (neighbours (b ∷ l)) u v ≡ true)
        → (occurs (neighbours (b ∷ l)) u v ≡ true → (memb u (b ∷ l) ≡ true) × (memb v (b ∷ l) ≡ true))
        → (memb u (a ∷ b ∷ l) ≡ true) × (memb v (a ∷ b ∷ l) ≡ true)
    look (inl (p, q)) ih = (
      subst (λ (y : ℕ). memb y (a ∷ b ∷ l) ≡ true) (sym p) (memb_self a (b ∷ l)),
      memb_later v a (b ∷ l) (subst (λ (y : ℕ). memb y (b ∷ l) ≡ true) (sym q) (memb_self b l)),
    )
    look (inr o) ih = let (x, y) = ih o in (memb_later u a (b ∷ l) x, memb_later v a (b ∷ l) y)

-- some pair passes
any_of_lem : (f : Pair → Bool) (l : List Pair) (u v : ℕ) → occurs l u v ≡ true → f (u, v) ≡ true → any_of f l ≡ true
any_of_lem f [] u v e q = clash e refl
any_of_lem f ((a, b) ∷ l) u v e q = look (occurs_either a b l u v e) (any_of_lem f l u v)
  where
    or_right : (x : Bool) {y : Bool} → y ≡ true → x || y ≡ true
    or_right true r = refl
    or_right false r = r

    look : ((u ≡ a) × (v ≡ b)) ⊎ (occurs l u v ≡ true) → (occurs l u v ≡ true → f (u, v) ≡ true → any_of f l ≡ true)
        → f (a, b) || any_of f l ≡ true
    look (inl (x, y)) ih = let z : f (a, b) ≡ true = rw (x, y) at q in rw z
    look (inr o) ih = or_right (f (a, b)) (ih o q)

any_some : (f : Pair → Bool) (l : List Pair) → any_of f l ≡ true → (u : ℕ) × (v : ℕ) × (occurs l u v ≡ true) × (f (u, v) ≡ true)
any_some f [] e = clash e refl
any_some f ((a, b) ∷ l) e = look (or-true {a = f (a, b)} e) (any_some f l)
  where
    look : (f (a, b) ≡ true) ⊎ (any_of f l ≡ true)
        → (any_of f l ≡ true → (u : ℕ) × (v : ℕ) × (occurs l u v ≡ true) × (f (u, v) ≡ true))
        → (u : ℕ) × (v : ℕ) × (occurs ((a, b) ∷ l) u v ≡ true) × (f (u, v) ≡ true)
    look (inl q) ih = (a, b, occurs_first a b l, q)
    look (inr q) ih = let (u, v, x, y) = ih q in (u, v, occurs_later (a, b) l u v x, y)

-- ── graphs that agree below n ──

module _ (n : ℕ) (E F : Graph) (agree : (u v : ℕ) → u < n → v < n → E u v ≡ F u v) where
  trail_same : {u v : ℕ} {l : List ℕ} → u < n → Trail n E u l v → Trail n F u l v
  trail_same h (end q) = end q
  trail_same h (go {u} {w} hw e T) = go hw (sym (agree u w h hw) ∙ e) (trail_same hw T)

  leads_more : (u v : ℕ) → u < n → v < n → leads n E u v ≡ true → leads n F u v ≡ true
  leads_more u v hu hv e = let (l, T) = (leads_exactly n E u v hu hv).0 e in (leads_exactly n F u v hu hv).1 (l, trail_same hu T)

  full_more : full_check n E ≡ true → full_check n F ≡ true
  full_more e =
      let (v, l, C) = (full_cycle n E).0 e in
      (full_cycle n F).1 (v, l, record { inside = C.inside; some = C.some; closed = trail_same C.inside C.closed })

module _ (n : ℕ) (E F : Graph) (agree : (u v : ℕ) → u < n → v < n → E u v ≡ F u v) where
  back : (u v : ℕ) → u < n → v < n → F u v ≡ E u v
  back u v h k = sym (agree u v h k)

  leads_same : (u v : ℕ) → u < n → v < n → leads n E u v ≡ leads n F u v
  leads_same u v hu hv = tests_same (leads_more n E F agree u v hu hv) (leads_more n F E back u v hu hv)

  full_same : full_check n E ≡ full_check n F
  full_same = tests_same (full_more n E F agree) (full_more n F E back)

-- ── what is on ──

join_once : (l m : List ℕ) → Once l → Once m → ((v : ℕ) → memb v l ≡ true → memb v m ≡ false) → Once (l ++ m)
join_once [] m o q f = q
join_once (w ∷ l) m (a, o) q f =
    (memb_append w l m ∙ rw (a, f w (memb_self w l)), join_once l m o q (λ v e. f v (memb_later v w l e)))

and_all : (b : Bool) → b && true ≡ b
and_all true = refl
and_all false = refl

-- an edge is old, is new, is live and is fixed: what stays and what comes on is what is on
on_bool : (o w a x : Bool) → (a && not (o && (not w && not x))) || (w && (not o && not a)) ≡ (w && not o) || (a && (not (o && not w) || x))
on_bool true true true x = refl
on_bool true true false x = refl
on_bool true false true true = refl
on_bool true false true false = refl
on_bool true false false x = refl
on_bool false true true x = refl
on_bool false true false x = refl
on_bool false false true x = refl
on_bool false false false x = refl

-- "an added edge that was not already on" is one that comes on
fresh_bool : (o w a x : Bool) → ((w && not o) || (a && (not (o && not w) || x))) && not (a && (not (o && not w) || x)) ≡ w && (not o && not a)
fresh_bool true true true x = refl
fresh_bool true true false x = refl
fresh_bool true false true true = refl
fresh_bool true false true false = refl
fresh_bool true false false x = refl
fresh_bool false true true x = refl
fresh_bool false true false x = refl
fresh_bool false false true x = refl
fresh_bool false false false x = refl

-- what the code has built of a move, of words that hold a model
pub record Given (from to e old new : List ℕ) (n : ℕ) (off plus : Chain) (m : Model) : Type 0 where
  pub holds : Holds e m
  pub below : Below n m
  pub jobs : n ≤ most_jobs
  pub low : all_below n new ≡ true
  pub rising : Rising from
  pub olds : Chain
  pub olds_are : Links always (neighbours old) most_entries blank olds
  pub news : Chain
  pub news_are : Links always (neighbours new) most_entries blank news
  pub off_are : Links (goes_off from to news) (neighbours old) most_entries blank off
  pub plus_are : Links (comes_on e olds) (neighbours new) most_entries blank plus

module _ {from to e old new : List ℕ} {n : ℕ} {off plus : Chain} {m : Model} (G : Given from to e old new n off plus m) where
  near : {u : ℕ} → u < n → u < most_jobs
  near h = let a = G.jobs in omega arith

  abbrev fixed : Graph
  fixed = occurs (pair_up from to)

  index_is : {l : List Pair} {c : Chain} → Links always l most_entries blank c → (u v : ℕ) → u < n → holds_of c u v ≡ occurs l u v
  unfolding always
  index_is {l} L u v hu = links_hold L tt (λ x y. true) u v (near hu) (λ v m x. refl) ∙ and_all (occurs l u v)

  off_is : (u v : ℕ) → u < n → holds_of off u v ≡ occurs (neighbours old) u v && (not (occurs (neighbours new) u v) && not (fixed u v))
  unfolding goes_off
  off_is u v hu =
      links_hold G.off_are G.rising (λ x y. not (holds_of G.news x y) && not (fixed x y)) u v (near hu) (λ v m x. refl)
      ∙ rw (index_is G.news_are u v hu)

  plus_is : (u v : ℕ) → u < n → holds_of plus u v ≡ occurs (neighbours new) u v && (not (occurs (neighbours old) u v) && not (live m u v))
  unfolding comes_on
  plus_is u v hu =
      links_hold G.plus_are (record { model = m; holds = G.holds }) (λ x y. not (holds_of G.olds x y) && not (live m x y)) u v (near hu)
      (λ v m x. rw x) ∙ rw (index_is G.olds_are u v hu)

  plus_new : (u v : ℕ) → u < n → holds_of plus u v ≡ true → occurs (neighbours new) u v ≡ true
  plus_new u v hu q = (and_true {a = occurs (neighbours new) u v} (sym (plus_is u v hu) ∙ q)).0

  new_low : (u v : ℕ) → occurs (neighbours new) u v ≡ true → (u < n) × (v < n)
  new_low u v q = let (a, b) = neighbours_in new u v q in (below_all n new G.low u a, below_all n new G.low v b)

  -- of the live heads of u
  stay_is : (u v : ℕ) → memb v (staying off u (out_of m u)) ≡ live m u v && not (holds_of off u v)
  stay_is u v = keep_memb (λ x. not (holds_of off u x)) (out_of m u) v

  -- none of a job's heads twice, and all below n
  pub on_graph : OnGraph e off plus n m
  unfolding comes_on heads_on
  on_graph = record { holds = G.holds; once = once; low = low }
    where
      heads_once_lem : (u : ℕ) → u < n → Once (heads_of plus u)
      heads_once_lem u hu =
          rw (G.plus_are.are (record { model = m; holds = G.holds }) u (near hu) ∙ ap (joined _ u (neighbours new)) (blank_heads u (near hu)))
          (joined_once _ u (λ x y l q. not-true _ (and_true {a = not (memb y l)} (and_true {a = not (holds_of G.olds x y)} q).1).0)
          (neighbours new) [] tt)

      apart : (u : ℕ) → u < n → (v : ℕ) → memb v (staying off u (out_of m u)) ≡ true → holds_of plus u v ≡ false
      apart u hu v q =
          plus_is u v hu
          ∙ rw (and_true {a = live m u v} (sym (stay_is u v) ∙ q)).0 (gone (occurs (neighbours new) u v) (not (occurs (neighbours old) u v)))
        where
          gone : (a b : Bool) → a && (b && false) ≡ false
          gone true true = refl
          gone true false = refl
          gone false b = refl

      once : (u : ℕ) → u < n → Once (on_outs m off plus u)
      once u hu = join_once (staying off u (out_of m u)) (heads_of plus u)
          (keep_once (λ x. not (holds_of off u x)) (out_of m u) ((linked n m G.holds.wf G.jobs G.below).out_once u hu))
          (heads_once_lem u hu) (apart u hu)

      low : (u : ℕ) → u < n → Lows n (on_outs m off plus u)
      low u hu v q =
          ⊎_elim (λ (r : memb v (staying off u (out_of m u)) ≡ true). (G.below u v (and_true {a = live m u v} (sym (stay_is u v) ∙ r)).0).1)
          (λ (r : holds_of plus u v ≡ true). (new_low u v (plus_new u v hu r)).1)
          (or-true {a = memb v (staying off u (out_of m u))} (sym (memb_append v (staying off u (out_of m u)) (heads_of plus u)) ∙ q))

  -- ── the verdicts ──

  module _ (fix : Graph) (f : (u v : ℕ) → u < n → v < n → fix u v ≡ fixed u v) where
    abbrev on : Graph
    on = on_for old new m fix

    abbrev stay : Graph
    stay = stays_for old new m fix

    -- the edges of the words are those of the rules
    edge_on : (u v : ℕ) → u < n → v < n → on_edge m off plus u v ≡ on u v
    unfolding heads_on
    edge_on u v hu hv =
        memb_append v (staying off u (out_of m u)) (heads_of plus u)
        ∙ rw (stay_is u v, off_is u v hu, plus_is u v hu, f u v hu hv)
        (on_bool (occurs (neighbours old) u v) (occurs (neighbours new) u v) (live m u v) (fixed u v))

    pub full_is : full_check n (on_edge m off plus) ≡ full_check n on
    full_is = full_same n (on_edge m off plus) on edge_on

    abbrev way : ℕ → ℕ → Bool
    way u v = (on u v && not (stay u v)) && leads n on v u

    way_is : (u v : ℕ) → u < n → v < n → closing n (on_edge m off plus) plus (u, v) ≡ way u v
    way_is u v hu hv =
        rw (
          fresh_bool (occurs (neighbours old) u v) (occurs (neighbours new) u v) (live m u v) (fix u v),
          plus_is u v hu,
          leads_same n (on_edge m off plus) on edge_on v u hv hu,
        )

    pub quick_is : turning m off plus new n ≡ quick_check n on stay
    unfolding turning
    quick_is = tests_same to_rules from_rules
      where
        to_rules : any_of (closing n (on_edge m off plus) plus) (neighbours new) ≡ true → quick_check n on stay ≡ true
        to_rules q =
            let (u, v, a, b) = any_some (closing n (on_edge m off plus) plus) (neighbours new) q in
            let (hu, hv) = new_low u v a in
            somebody n (λ u. not (nobody n (way u))) u hu (somebody n (way u) v hv (sym (way_is u v hu hv) ∙ b))

        from_rules : quick_check n on stay ≡ true → any_of (closing n (on_edge m off plus) plus) (neighbours new) ≡ true
        from_rules q =
            let (u, hu, a) = nobody_false n (λ u. not (nobody n (way u))) (not-true _ q) in
            let (v, hv, b) = nobody_false n (way u) (not-true _ a) in
            let c = way_is u v hu hv ∙ b in
            any_of_lem (closing n (on_edge m off plus) plus) (neighbours new) u v (plus_new u v hu (and_true {a = holds_of plus u v} c).0) c

    -- the quick one never says yes where the full one says no
    pub quick_then_full : turning m off plus new n ≡ true → full_check n (on_edge m off plus) ≡ true
    quick_then_full q = full_is ∙ quick_full n on stay (sym quick_is ∙ q)
