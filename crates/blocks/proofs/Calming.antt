-- The words of a plan without a cycle: its critical jobs, arcs and routes, and so the rules' blocks. Assumes nothing.
use Rattle.std.proofs.Common.{◌≡◌, ℕ, zero, suc, ◌+◌, ◌%◌, ◌^◌, ◌<◌, Bool, true, false, cond, not, ◌&&◌, ◌||◌, eqb, ltb, List, [], ◌∷◌, map, length, sym, refl, ap, ◌∙◌, subst, mod-eq_of_lt, arith, ltb-true, lt-ltb, eq-eqb}
use lib.ListN.{length-map}
use Rattle.rules.specs.declared.Block.{Block}
use Rattle.rules.specs.Lists.{is_zero, same_pair, tick, times}
use Rattle.rules.specs.Sizes.{duration, most_owners}
use Rattle.rules.specs.Graphs.{LineUp}
use Rattle.rules.specs.Routes.{Plan, Route, Stop, empty_route, holders, links, links_of, live, route_of}
use Rattle.rules.specs.Scores.{finish, starts}
use Rattle.rules.specs.Blocks.{arc, blocks, blocks_of, blocks_over, critical, latest, latest_by, scan}
use Rattle.rules.specs.Sound.{LowStops}
use Rattle.rules.proofs.Bounds.{finish_few}
use Rattle.rules.proofs.Plans.{whole_of}
use Rattle.rules.proofs.Puts.{live_held}
use Rattle.rules.proofs.Ranges.{Test, fail, pass, test}
use Rattle.rules.proofs.Runs.{blocks_calm}
use Rattle.rules.proofs.Stages.{sum_at}
use Rattle.rules.proofs.Tabled.{table_at}
use Rattle.graphs.specs.Graph.{at, live as live_in, Below}
use Rattle.routes.specs.Stops.{word, words}
use Rattle.routes.proofs.Codes.{half, odd}
use Rattle.routes.specs.Desks.{edges_of, routes_of}
use Rattle.routes.specs.Store.{route_at}
use Rattle.times.proofs.Graphing.{below, live_fun, span_fun, start_fun}
use Rattle.blocks.specs.Latests.{latest_of, Criticals}
use Rattle.blocks.specs.Arcs.{Sight, sight, crit_in, tight_in, join_in, arc_in, scan_from}
use Rattle.blocks.specs.Overs.{row_of, over, ahead, begun}
use Rattle.blocks.specs.Searches.{Calm, ahead_of}

-- ── marks and stops ──

pub mark_is : (b : Bool) → eqb (tick b 0) 1 ≡ b
mark_is true = refl
mark_is false = refl

-- a joined stop's edge is live
joined : (t j q : Bool) → (j ≡ true → q ≡ true) → t && (j || q) ≡ q && t
joined true true q f = rw (f refl)
joined false true q f = rw (f refl)
joined true false true f = refl
joined true false false f = refl
joined false false true f = refl
joined false false false f = refl

module _ {e sp st : List ℕ} {top n : ℕ} {l : List ℕ} {all : ℕ} {p : Plan} (C : Calm e sp st top n l all p) where
  -- ── critical jobs ──

  graph : live_in (edges_of p) ≡ live p
  graph = live_fun p C.desk.sound

  span_is : at sp ≡ duration p.base
  span_is = ap at C.spans ∙ span_fun p C.desk.sound

  start_is : at st ≡ starts p
  start_is = ap at C.starts ∙ start_fun p C.desk.sound C.calm

  finish_is : (v : ℕ) → at st v + at sp v ≡ finish p v
  finish_is v = λ i. start_is i v + span_is i v

  finish_fits : (v : ℕ) → v < n → (at st v + at sp v) % 2 ^ 64 ≡ finish p v
  finish_fits v h =
      mod-eq_of_lt (omega (arith, finish_is v, finish_few p C.desk.sound C.calm v (omega (arith, C.jobs)))) ∙ finish_is v

  critical_is : (v : ℕ) → eqb (at st v) (latest_of (edges_of p) sp n top v) ≡ critical p v
  unfolding critical latest
  critical_is v = λ i. eqb (start_is i v) (latest_by (C.jobs i) (graph i) (span_is i) (C.ends i) (C.jobs i) v)

  module _ {c : List ℕ} (K : Criticals e sp st top n c) where
    abbrev S : Sight
    S = sight sp st c n

    marked : (v : ℕ) → v < n → at c v ≡ tick (critical p v) 0
    marked v h =
        let (o, L) = whole_of p C.calm in
        let up : LineUp n (live_in (edges_of p)) o = rw (C.jobs, graph) L in
        let low = subst (λ (k : ℕ). Below k (edges_of p)) (sym C.jobs) (below p C.desk.sound) in
        K.are (edges_of p) C.desk.edges low o up v h ∙ ap (λ (b : Bool). tick b 0) (critical_is v)

    crit_at : (v : ℕ) → v < n → eqb (at c v) 1 ≡ critical p v
    crit_at v h = rw (marked v h) (mark_is (critical p v))

    crit_same : (a : Stop) → a.0 < n → crit_in c n (word a) ≡ critical p a.0
    unfolding crit_in
    crit_same a h = rw (half a.0 a.1, lt-ltb a.0 n h) (crit_at a.0 h)

    arc_same : (a b : Stop) → a.0 < n → b.0 < n → (b.1 ≡ true → live p a.0 b.0 ≡ true)
        → arc_in (live_in (edges_of p)) S (word a) (word b) ≡ arc p a.0 b.0
    unfolding arc_in tight_in join_in arc
    arc_same a b h k f =
        let g : live_in (edges_of p) a.0 b.0 ≡ live p a.0 b.0 = λ i. graph i a.0 b.0 in
        let s : at st b.0 ≡ starts p b.0 = λ i. start_is i b.0 in
        rw (
          half a.0 a.1,
          half b.0 b.1,
          lt-ltb a.0 n h,
          lt-ltb b.0 n k,
          crit_at a.0 h,
          crit_at b.0 k,
          finish_fits a.0 h,
          odd b.0 b.1,
          g,
          s,
        )
        (joined _ b.1 (live p a.0 b.0) f)

    -- ── routes ──

    abbrev Held : List Stop → Type 0
    Held r = (u v : ℕ) → 0 < times (u, v) (links r) → live p u v ≡ true

    abbrev scan_in : ℕ → ℕ → ℕ → ℕ → List ℕ → List Block
    scan_in = scan (crit_in c n) (arc_in (live_in (edges_of p)) S)

    abbrev scan_of : ℕ → ℕ → ℕ → ℕ → List ℕ → List Block
    scan_of = scan (critical p) (arc p)

    -- the scan of a route's words is the scan of its jobs
    scan_same : (o size from here : ℕ) (r : List Stop) → LowStops n r → Held r
        → scan_in o size from here (words r) ≡ scan_of o size from here (map (λ (s : Stop). s.0) r)
    scan_same o size from here [] w h = refl
    scan_same o size from here (a ∷ []) w h = rw (crit_same a w.0)
    scan_same o size from here (a ∷ b ∷ r) w h =
        rw (
          arc_same a b w.0 w.1.0 (λ q. h a.0 b.0 (first q)),
          crit_same a w.0,
          scan_same o size from (suc here) (b ∷ r) w.1 later,
          scan_same o size (suc here) (suc here) (b ∷ r) w.1 later,
        )
      where
        first : b.1 ≡ true → 0 < times (a.0, b.0) (links (a ∷ b ∷ r))
        first q = rw (q, eq-eqb a.0 a.0 refl, eq-eqb b.0 b.0 refl) (omega arith)

        later : Held (b ∷ r)
        later u v k = h u v (go b.1 (same_pair (u, v) (a.0, b.0)))
          where
            go : (j s : Bool) → 0 < times (u, v) (cond j ((a.0, b.0) ∷ links (b ∷ r)) (links (b ∷ r)))
            go false s = k
            go true s = more (same_pair (u, v) (a.0, b.0))
              where
                more : (y : Bool) → 0 < tick y (times (u, v) (links (b ∷ r)))
                more true = omega arith
                more false = k

    -- an edge of an owner's route is live
    linked : (o : ℕ) → o < p.base.owners → Held (route_of p o).stops
    unfolding holders
    linked o h u v k =
        live_held p C.desk.sound u v
        ∙ some (holders p.base p.desk.routes (u, v))
        (omega (arith, k, sum_at (λ (r : Route). times (u, v) (links_of r)) empty_route p.desk.routes o (omega (arith, C.desk.sound.rows))))
      where
        some : (x : ℕ) → 0 < x → not (is_zero x) ≡ true
        some zero z = absurd (omega arith)
        some (suc x) z = refl

    route_is : (o : ℕ) → o < p.base.owners → route_at (routes_of p) o ≡ route_of p o
    unfolding routes_of
    route_is o h = table_at most_owners (route_of p) empty_route o (omega (arith, C.desk.sound.loaded.owners))

    -- the rules' blocks
    over_is : (os : List ℕ) → over (live_in (edges_of p)) S (routes_of p) all 0 os ≡ blocks_over p os
    unfolding scan_from row_of blocks_of
    over_is [] = refl
    over_is (o ∷ os) = go (test (ltb o all)) (over_is os)
      where
        go : Test (ltb o all) → over (live_in (edges_of p)) S (routes_of p) all 0 os ≡ blocks_over p os
            → over (live_in (edges_of p)) S (routes_of p) all 0 (o ∷ os) ≡ blocks_over p (o ∷ os)
        go (fail z) ih = let y : ltb o p.base.owners ≡ false = ap (ltb o) (sym C.owners) ∙ z in rw (z, y, ih)
        go (pass z) ih =
            let y : ltb o p.base.owners ≡ true = ap (ltb o) (sym C.owners) ∙ z in
            let h = ltb-true o p.base.owners y in
            let r = (route_of p o).stops in
            rw (
              z,
              y,
              ih,
              route_is o h,
              length-map r word,
              length-map r (λ (s : Stop). s.0),
              scan_same o (length r) 0 0 r (rw C.jobs (C.desk.sound.reads o).low) (linked o h),
            )

    pub words_ahead : (os : List ℕ) → ahead (live_in (edges_of p)) S (routes_of p) all os begun ≡ blocks p os
    unfolding ahead
    words_ahead os = over_is os ∙ sym (blocks_calm p os C.calm)

    pub ahead_is : (os : List ℕ) → ahead_of p c os begun ≡ blocks p os
    unfolding ahead_of
    ahead_is os =
        (λ i. ahead (live_in (edges_of p)) (sight (sym C.spans i) (sym C.starts i) c (sym C.jobs i)) (routes_of p) (sym C.owners i) os begun)
        ∙ words_ahead os
