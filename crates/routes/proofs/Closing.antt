-- The difference of two routes' edges is taken out and put in: counts, the stored lists both ways round, and the heads of what vanished and
-- appeared are the rules'. Assumes nothing.
use Rattle.std.proofs.Common.{◌≡◌, ℕ, zero, suc, ◌+◌, ◌-◌, ◌<◌, ◌≤◌, Bool, true, false, ◌&&◌, eqb, List, [], map, sym, refl, ap, ◌∙◌, arith}
use mathlib.Core.List.{map-map}
use lib.Dec.{eqb-suc-zero}
use Rattle.rules.specs.Lists.{Pair, memb, keep, is_zero}
use Rattle.rules.specs.Scores.{times_in}
use Rattle.rules.specs.Reports.{push}
use Rattle.rules.specs.Routes.{Heads, relist, drops, adds, outs, turned}
use Rattle.rules.proofs.Ranges.{clash, pass, fail, test, and_true}
use Rattle.edges.specs.Edges.{Model}
use Rattle.routes.specs.Differs.{struck, Differs}
use Rattle.routes.specs.Turning.{head, is_edge, turn_all, heads_all}
use Rattle.routes.proofs.Lists.{same_test, zero_true, zero_false, not_zero, in_times, not_in, keep_in, keep_same, keep_keep}
use Rattle.routes.proofs.Lasts.{lasts, lasts_seats}
use Rattle.routes.proofs.Fitting.{Fit, pair_of, heads_of, count_at, count_by, always}
use Rattle.routes.proofs.OneByOne.{AllEdges, Taken, all_fit, taken_heads, taken_count, put_heads, put_count}
use Rattle.routes.proofs.Relisting.{Shown, shown_heads, shown_tails, taken_lists, put_lists, vanish_push, appear_keep, drops_are}

-- the edges `gone` of m go, and then `left` come: a difference of `old` and `new`
pub record Given (m : Model) (old new gone left : List ℕ) : Type 0 where
  pub old_edges : AllEdges old
  pub new_edges : AllEdges new
  pub gone_edges : AllEdges gone
  pub held : (x : ℕ) → is_edge x ≡ true → times_in x old ≤ count_at m x
  pub differs : Differs old new gone left

-- the heads of some edges, each edge once, by its first place
abbrev pub heads_once : List ℕ → List ℕ
heads_once l = map head (push [] l)

pub not_struck : (x : ℕ) → is_edge x ≡ true → x ≡ struck → ⊥
not_struck x e q = clash (sym (ap is_edge q) ∙ e) refl

edge_test : (a b : Bool) → a ≡ true → a && b ≡ b
edge_test a b e = rw e

module _ {m : Model} {old new gone left : List ℕ} (f : Fit m) (g : Given m old new gone left) where
  abbrev less : Model
  less = turn_all false m gone

  abbrev pub next : Model
  next = turn_all true (turn_all false m gone) left

  -- how often an edge is there after it all; whether it is not, and whether it was not
  abbrev after : ℕ → ℕ
  after x = count_at m x - times_in x old + times_in x new

  abbrev ends : ℕ → Bool
  ends x = is_edge x && is_zero (after x)

  abbrev begins : ℕ → Bool
  begins x = is_edge x && is_zero (count_at m x)

  -- ── how often ──

  less_fit : Fit less
  less_fit = all_fit false gone m f

  less_count : (x : ℕ) → is_edge x ≡ true → count_at less x ≡ count_at m x - (times_in x old - times_in x new)
  less_count x e = taken_count gone m f x e ∙ rw (g.differs.goes x (not_struck x e))

  pub counted : (x : ℕ) → is_edge x ≡ true → count_at next x ≡ after x
  counted x e = put_count left less less_fit x e ∙ omega (arith, less_count x e, g.differs.comes x (not_struck x e), g.held x e)

  -- ── the heads ──

  taken : Taken m gone ends
  taken = record {
    edges = g.gone_edges;
    enough = λ x h. let e = g.gone_edges x h in omega (arith, g.differs.goes x (not_struck x e), g.held x e);
    last = λ x h.
        let e = g.gone_edges x h in
        let a = g.differs.goes x (not_struck x e) in
        let b = g.held x e in
        edge_test (is_edge x) (is_zero (after x)) e ∙ zero_test (after x)
        ∙ same_test (after x) 0 (count_at m x) (times_in x gone) (λ q. omega arith) (λ q. omega (arith, in_times x gone h));
  }
    where
      zero_test : (k : ℕ) → is_zero k ≡ eqb k 0
      zero_test zero = refl
      zero_test (suc k) = sym (eqb-suc-zero k)

  firsts : lasts (keep ends gone) ≡ push [] (keep ends old)
  unfolding lasts
  firsts = ap lasts (g.differs.first_gone ends refl
      (λ x h. let z = and_true {a = is_edge x} h in not_in x new (omega (arith, zero_true (after x) z.1))))
      ∙ lasts_seats [] (keep ends old)

  ends_are : keep ends old ≡ keep (λ x. is_zero (count_at next x)) old
  ends_are = keep_same ends (λ x. is_zero (count_at next x)) old
      (λ x h. let e = g.old_edges x h in edge_test (is_edge x) (is_zero (after x)) e ∙ rw (counted x e))

  -- of edges that vanish, each by its first place in the old route
  pub went : heads_all false m gone ≡ heads_once (keep (λ x. is_zero (count_at next x)) old)
  went = taken_heads gone m ends f taken ∙ rw (firsts, ends_are)

  same_begin : (x : ℕ) → memb x left ≡ true → is_edge x && is_zero (count_at less x) ≡ begins x
  same_begin x h = elim (test (is_edge x)) [
    | fail e ↦ rw e
    | pass e ↦ let c = g.differs.comes x (not_struck x e) in
        let k : count_at less x ≡ count_at m x = less_count x e ∙ omega (arith, in_times x left h) in rw k
  ]

  begins_left : keep begins left ≡ keep begins new
  begins_left = g.differs.first_left begins refl
      (λ x h. let z = and_true {a = is_edge x} h in not_in x old (omega (arith, g.held x z.0, zero_true (count_at m x) z.1)))

  -- of edges that appear, each by its first place in the new route
  pub came : heads_all true less left ≡ heads_once (keep (λ x. is_zero (count_at m x)) new)
  came =
      sym (put_heads left less (λ x. is_edge x && is_zero (count_at less x)) [] less_fit (record {
        edges = λ x h. (and_true {a = is_edge x} h).0;
        fresh = λ x e. rw e (sym (and_same (is_zero (count_at less x))));
      }))
      ∙ ap heads_once (keep_same (λ x. is_edge x && is_zero (count_at less x)) begins left same_begin ∙ begins_left
      ∙ keep_same begins (λ x. is_zero (count_at m x)) new (λ x h. edge_test (is_edge x) (is_zero (count_at m x)) (g.new_edges x h)))
    where
      and_same : (b : Bool) → b && true ≡ b
      and_same true = refl
      and_same false = refl

  -- ── the lists: one law for those of heads and those of tails ──

  module _ {look : Model → Heads} {key : ℕ → Pair} (shown : Shown look key) where
    vanished : look less ≡ drops always (look m) (map key (keep ends old))
    vanished =
        taken_lists shown gone m ends f taken ∙ rw firsts
        (vanish_push key shown.low (keep ends old) [] (look m) (shown.tidy m f) (λ x h. clash h refl)
        (λ x h. g.old_edges x (keep_in ends x old h).1))

    -- an edge of the new route that was there is there still
    stays : (x : ℕ) → is_edge x ≡ true → 0 < times_in x new → begins x ≡ false → memb (key x).1 (outs (look less) (key x).0) ≡ true
    stays x e n s =
        let was = zero_false (count_at m x) (sym (edge_test (is_edge x) (is_zero (count_at m x)) e) ∙ s) in
        shown.there less less_fit x e ∙ rw (not_zero (count_at less x) (omega (arith, less_count x e, g.held x e)))

    appeared : look next ≡ adds (look less) (map key new)
    appeared =
        let edge : (x : ℕ) → memb x (keep is_edge left) ≡ true → is_edge x ≡ true = λ x h. (keep_in is_edge x left h).0 in
        put_lists shown left less less_fit
        ∙ appear_keep key shown.low begins (keep is_edge left) (look less) (shown.tidy less less_fit) edge
        (λ x h s. stays x (edge x h)
        (omega (arith, in_times x left (keep_in is_edge x left h).1, g.differs.comes x (not_struck x (edge x h)))) s)
        ∙ ap (λ (l : List ℕ). adds (look less) (map key l))
        (keep_keep begins is_edge left (λ x h. (and_true {a = is_edge x} h).0) ∙ begins_left)
        ∙ sym (appear_keep key shown.low begins new (look less) (shown.tidy less less_fit) g.new_edges
        (λ x h s. stays x (g.new_edges x h) (in_times x new h) s))

    relisted : (c : Pair → ℕ) → ((x : ℕ) → c (key x) ≡ count_at next x)
        → look next ≡ relist (look m) (λ e. is_zero (c e)) (map key old) (map key new)
    relisted c tells = appeared ∙ ap (λ t. adds t (map key new)) (vanished
        ∙ ap (λ (l : List ℕ). drops always (look m) (map key l))
        (ends_are ∙ keep_same (λ x. is_zero (count_at next x)) (λ x. is_zero (c (key x))) old (λ x h. rw (tells x)))
        ∙ sym (drops_are key shown.low (λ e. is_zero (c e)) old (look m)))

  pub heads_are : heads_of next ≡ relist (heads_of m) (λ e. is_zero (count_by next e)) (map pair_of old) (map pair_of new)
  heads_are = relisted shown_heads (count_by next) (λ x. refl)

  pub tails_are : next.pred
      ≡ relist m.pred (λ e. is_zero (count_by next (turned e))) (map turned (map pair_of old)) (map turned (map pair_of new))
  tails_are = rw (map-map, map-map) (relisted shown_tails (λ e. count_by next (turned e)) (λ x. refl))
