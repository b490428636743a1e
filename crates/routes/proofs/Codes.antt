-- The numbers that `links_of` writes are the rules' links of a route, one for one. Assumes nothing.
use Rattle.std.proofs.Common.{◌≡◌, ℕ, ◌+◌, ◌*◌, ◌/◌, ◌%◌, ◌<◌, ◌≤◌, Bool, true, false, eqb, List, [], ◌∷◌, map, length, sym, refl, ◌∙◌, arith, lt-ltb, eq-eqb, ne_eqb, eqb-true}
use borrow.Author.Tests.{eqb-false}
use Rattle.rules.specs.Lists.{times, same_pair}
use Rattle.rules.specs.Sizes.{most_jobs}
use Rattle.rules.specs.Scores.{times_in}
use Rattle.rules.specs.Routes.{Stop, links}
use Rattle.rules.specs.Sound.{LowStops, Apart}
use Rattle.rules.proofs.Ranges.{clash, pass, fail, test, and_true}
use Rattle.routes.specs.Stops.{bit, words}
use Rattle.routes.specs.Differs.{codes}
use Rattle.routes.specs.Turning.{tail, head, is_edge}
use Rattle.routes.proofs.Fitting.{pair_of}
use Rattle.routes.proofs.OneByOne.{AllEdges}

-- ── a stop's word ──

pub half : (v : ℕ) (b : Bool) → (v * 2 + bit b) / 2 ≡ v
half v true = omega arith
half v false = omega arith

pub odd : (v : ℕ) (b : Bool) → eqb ((v * 2 + bit b) % 2) 1 ≡ b
odd v true = eq-eqb ((v * 2 + 1) % 2) 1 (omega arith)
odd v false = ne_eqb ((v * 2 + 0) % 2) 1 (λ q. omega arith)

-- ── an edge's number ──

pub pair_of_lem : (u v : ℕ) → v < most_jobs → pair_of (u * most_jobs + v) ≡ (u, v)
pair_of_lem u v h =
    let a : (u * most_jobs + v) / most_jobs ≡ u = omega arith in
    let b : (u * most_jobs + v) % most_jobs ≡ v = omega arith in
    rw (a, b)

pub edge_of : (u v : ℕ) → u < most_jobs → v < most_jobs → is_edge (u * most_jobs + v) ≡ true
edge_of u v hu hv = lt-ltb ((u * most_jobs + v) / most_jobs) most_jobs (omega arith)

same_edge : (x y : ℕ) → eqb x y ≡ same_pair (pair_of x) (pair_of y)
same_edge x y = elim (test (eqb x y)) [
  | pass a ↦ rw (eqb-true x y a, eq-eqb y y refl, eq-eqb (tail y) (tail y) refl, eq-eqb (head y) (head y) refl)
  | fail a ↦ elim (test (same_pair (pair_of x) (pair_of y))) [
    | fail b ↦ a ∙ sym b
    | pass b ↦
        let z = and_true {a = eqb (tail x) (tail y)} b in
        let p = eqb-true (tail x) (tail y) z.0 in
        let q = eqb-true (head x) (head y) z.1 in
        absurd (eqb-false x y a (omega arith))
  ]
]

-- how often an edge stands in a list, by its number and by its pair
pub times_pairs : (x : ℕ) (l : List ℕ) → times_in x l ≡ times (pair_of x) (map pair_of l)
times_pairs x [] = refl
times_pairs x (y ∷ l) =
    let ih = times_pairs x l in
    rw (← same_edge x y) (elim (test (eqb x y)) [ pass a ↦ rw a (omega arith) | fail a ↦ rw a (omega arith) ])

-- ── a route's edges ──

pub codes_few : (u : ℕ) (l : List ℕ) → length (codes u l) ≤ length l
unfolding codes
codes_few u [] = omega arith
codes_few u (w ∷ l) =
    let a = codes_few (w / 2) l in
    elim (test (eqb (w % 2) 1)) [ pass z ↦ rw z (omega arith) | fail z ↦ rw z (omega arith) ]

codes_behind : (l : List Stop) (a : Stop) → LowStops most_jobs l → map pair_of (codes a.0 (words l)) ≡ links (a ∷ l)
unfolding codes
codes_behind [] a h = refl
codes_behind ((v, true) ∷ l) a (q, h) = rw (odd v true, half v true, pair_of_lem a.0 v q, codes_behind l (v, true) h)
codes_behind ((v, false) ∷ l) a (q, h) = rw (odd v false, half v false) (codes_behind l (v, false) h)

-- the numbers of a route's edges are its links
pub codes_links : (l : List Stop) → LowStops most_jobs l → Apart l → map pair_of (codes 0 (words l)) ≡ links l
unfolding codes
codes_links [] h a = refl
codes_links ((v, true) ∷ l) h a = clash refl a
codes_links ((v, false) ∷ l) (q, h) a = rw (odd v false, half v false) (codes_behind l (v, false) h)

-- and edges they are
pub codes_edges : (l : List Stop) (u : ℕ) → u < most_jobs → LowStops most_jobs l → AllEdges (codes u (words l))
unfolding codes
codes_edges [] u hu h x m = clash m refl
codes_edges (s ∷ l) u hu (q, h) x m₀ =
    let m = rw (odd s.0 s.1, half s.0 s.1) at m₀ in
    elim (test s.1) [
      | fail z ↦ codes_edges l s.0 q h x (rw z at m)
      | pass z ↦ elim (test (eqb x (u * most_jobs + s.0))) [
        | pass w ↦ rw (eqb-true x (u * most_jobs + s.0) w) (edge_of u s.0 hu q)
        | fail w ↦ codes_edges l s.0 q h x (rw (z, w) at m)
      ]
    ]

pub low_stops : (n : ℕ) → n ≤ most_jobs → (l : List Stop) → LowStops n l → LowStops most_jobs l
low_stops n h [] L = tt
low_stops n h (s ∷ l) (a, L) = (omega arith, low_stops n h l L)
