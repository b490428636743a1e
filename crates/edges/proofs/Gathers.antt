-- Pair after pair: what is left to add to the model at hand gives the model of the whole list. Assumes nothing.
use Prim.Native.Nat.{ℕ, zero, suc, ◌+◌, ◌≤◌, ◌<◌}
use mathlib.Core.Path.{◌≡◌, refl, sym, ap, subst, ◌∙◌}
use mathlib.Core.Bool.{Bool, true, false, cond}
use mathlib.Core.List.{List, [], ◌∷◌, map}
use native.Mathlib.Omega.{arith}
use native.Mathlib.Numerals.{add-one}
use lib.Dec.{leb, ltb}
use lib.ListN.{length, get_or, drop, replicate, drop_of_length-le}
use lib.Seq.{drop-cons}
use borrow.Author.Tests.{leb-false, lt-ltb, le-ltb, ltb-false, ltb-true}
use Rattle.rules.specs.Lists.{Pair, any_of, same_pair, tick}
use Rattle.rules.specs.Sizes.{edges_length, falls, most_jobs}
use Rattle.rules.specs.Sound.{Inside}
use Rattle.rules.proofs.Members.{or_false}
use Rattle.edges.specs.Rows.{flat, zeros}
use Rattle.edges.specs.Layout.{most_edges, starts_length}
use Rattle.edges.specs.Edges.{Edge, Holds, Model, Wf, add_edge, count_of, more_in, to_of}
use Rattle.edges.specs.Fixed.{Fixing, fixed_model, valid}
use Rattle.edges.specs.Drafting.{Blank, Drafted, Drafts, Gathered, Joined, Last, Listing, Ready, Turned, grown, tails_to}
use Rattle.edges.specs.declared.fixed.Draft.{Draft}
use Rattle.edges.proofs.Empty.{none_at, none_flat, none_pad, nothing, nothing_count, nothing_flat, nothing_row, nothing_wf, zeros_tabs}
use Rattle.edges.proofs.More.{set_cases}
use Rattle.edges.proofs.Adding.{adding, count_add, fixed_is, one_more, table_of}
use Rattle.edges.proofs.Drafts as drafts

-- the first i pairs are in the tables; the last of them came from `at`
pub record Going (f g : List ℕ) (n i : ℕ) (e : List ℕ) (d : Draft) : Type 0 where
  pub model : Model
  pub list : List Pair
  pub at : ℕ
  pub passed : i ≤ length f
  pub draft : Drafts model list e d
  pub last : Last at model
  pub left : adding model (valid n (drop i f) (drop i g)) ≡ fixed_model n (valid n f g)
  pub below : any_of (leb n) (drop i f) ≡ false
  pub rising : falls at (drop i f) ≡ false
  pub few : length (flat model.succ) ≤ i
  pub counts : (a b : ℕ) → count_of model a b ≤ i

-- ── the beginning ──

map_none : (A : Type 0) (n : ℕ) → zeros n ≡ map length (replicate {A = List A} n [])
unfolding zeros
map_none A zero = refl
map_none A (suc n) = ap {B = List ℕ} (λ l. 0 ∷ l) (map_none A n)

module _ {e : List ℕ} {d : Draft} (B : Blank e d) where
  blank_draft : (k : ℕ) → k ≡ most_jobs → Wf (nothing k) → Drafts (nothing k) [] e d
  unfolding nothing
  blank_draft k q w = record {
    order = record {
      wf = w;
      heads = sym (ap (map to_of) (none_flat {A = Edge} k));
      preds = table_of [] most_jobs (replicate k []) (tails_to []) w.pred_rows (λ v h. none_at {A = ℕ} k v);
      low = λ i. omega arith;
    };
    words =
        B.words ∙ zeros_tabs starts_length most_edges most_edges starts_length most_edges
        ∙ sym (rw (none_flat {A = Edge} k, none_pad most_edges));
    from = B.no_tails ∙ sym (none_pad most_edges);
    degrees = B.no_out ∙ ap zeros (sym q) ∙ map_none Edge k;
    in_degrees = B.no_ins ∙ ap zeros (sym q) ∙ map_none ℕ k;
    total = B.none;
  }

inside : (n : ℕ) (f g : List ℕ) → any_of (leb n) f ≡ false → Inside n (valid n f g)
inside n [] g h = tt
inside n (a ∷ f) [] h = tt
inside n (a ∷ f) (b ∷ g) h = let (x, y) = or_false {a = leb n a} h in go (ltb b n) refl (leb-false n a x) (inside n f g y)
  where
    go : (k : Bool) → ltb b n ≡ k → a < n → Inside n (valid n f g) → Inside n (cond k ((a, b) ∷ valid n f g) (valid n f g))
    go true q x ih = (x, ltb-true b n q, ih)
    go false q x ih = ih

few_valid : (n : ℕ) (f g : List ℕ) → length (valid n f g) ≤ length f
few_valid n [] g = omega arith
few_valid n (a ∷ f) [] = omega arith
few_valid n (a ∷ f) (b ∷ g) = go (ltb b n) (few_valid n f g)
  where
    go : (k : Bool) → length (valid n f g) ≤ length f → length (cond k ((a, b) ∷ valid n f g) (valid n f g)) ≤ suc (length f)
    go true ih = omega arith
    go false ih = omega arith

last_add : (m : Model) → Wf m → (u v : ℕ) → u < most_jobs → Last u m → Last u (add_edge m u v)
unfolding add_edge
last_add m w u v hu last a h =
    set_cases (λ r. r ≡ []) m.succ u a (more_in v (get_or m.succ u [])) (omega (arith, w.succ_rows)) (λ q. absurd (omega arith))
    (λ q. last a h)

module _ {f g : List ℕ} {n : ℕ} (L : Listing f g n) where
  fits : length (valid n f g) ≤ most_edges
  fits = omega (arith, few_valid n f g, L.few)

  target : adding (nothing most_jobs) (valid n f g) ≡ fixed_model n (valid n f g)
  target = fixed_is n (valid n f g) L.jobs (inside n f g L.below) fits

  pub begins : {e : List ℕ} {d : Draft} → Blank e d → Going f g n 0 e d
  begins B = record {
    model = nothing most_jobs;
    list = [];
    at = 0;
    passed = omega arith;
    draft = blank_draft B most_jobs refl nothing_wf;
    last = λ a h. nothing_row most_jobs a;
    left = target;
    below = L.below;
    rising = L.rising;
    few = rw (nothing_flat most_jobs) (omega arith);
    counts = λ a b. rw (nothing_count most_jobs a b) (omega arith);
  }

  -- ── a turn ──

  module _ {i : ℕ} {e : List ℕ} {d : Draft} (G : Going f g n i e d) (more : i < length f) {u v : ℕ} (eu : u ≡ get_or f i 0)
      (ev : v ≡ get_or g i 0) where
    here : drop i f ≡ u ∷ drop (suc i) f
    here = rw eu (drop-cons f i 0 more)

    here' : drop i g ≡ v ∷ drop (suc i) g
    here' = rw ev (drop-cons g i 0 (omega (arith, L.to_long)))

    bounds : (u < n) × (any_of (leb n) (drop (suc i) f) ≡ false)
    bounds = let (x, y) = or_false {a = leb n u} (rw here at G.below) in (leb-false n u x, y)

    order : (G.at ≤ u) × (falls u (drop (suc i) f) ≡ false)
    order = let (x, y) = or_false {a = ltb u G.at} (rw here at G.rising) in (ltb-false u G.at x, y)

    from_low : u < most_jobs
    from_low = omega (arith, bounds.0, L.jobs)

    behind : Last u G.model
    behind a h = G.last a (omega (arith, order.0))

    pub ready : v < n → Ready e d u v
    ready h = record {
      model = G.model;
      list = G.list;
      draft = G.draft;
      last = behind;
      times = omega (arith, G.counts u v, L.few);
      space = drafts.spacious G.draft behind (omega (arith, drafts.total G.draft, G.few, L.few)) from_low (omega (arith, L.jobs));
    }

    -- the pair gives an edge
    pub joined : v < n → {e' : List ℕ} {d' : Draft} → Joined e d u v e' d' → {j : ℕ} → j ≡ i + 1 → Going f g n j e' d'
    joined h D q = rw q (record {
      model = add_edge G.model u v;
      list = grown G.model G.list u v;
      at = u;
      passed = omega arith;
      draft = D.is G.model G.list G.draft behind;
      last = alone;
      left = rw add-one (sym (rw (here, here', lt-ltb v n h)) ∙ G.left);
      below = rw add-one bounds.1;
      rising = rw add-one order.1;
      few = omega (arith, one_more G.model G.draft.order.wf u v from_low to_low, G.few);
      counts = λ a b. rw (count_add G.model G.draft.order.wf u v from_low to_low a b, add-one)
          (step (same_pair (a, b) (u, v)) (G.counts a b));
    })
      where
        to_low : v < most_jobs
        to_low = omega (arith, L.jobs)

        step : (k : Bool) {x : ℕ} → x ≤ i → tick k x ≤ suc i
        step true q = omega arith
        step false q = omega arith

        alone : Last u (add_edge G.model u v)
        alone = last_add G.model G.draft.order.wf u v from_low behind

    -- it gives none
    pub passed_by : n ≤ v → {j : ℕ} → j ≡ i + 1 → Going f g n j e d
    passed_by h q = rw q (record {
      model = G.model;
      list = G.list;
      at = u;
      passed = omega arith;
      draft = G.draft;
      last = behind;
      left = rw add-one (sym (rw (here, here', le-ltb v n h)) ∙ G.left);
      below = rw add-one bounds.1;
      rising = rw add-one order.1;
      few = omega (arith, G.few);
      counts = λ a b. omega (arith, G.counts a b);
    })

  -- ── the end ──

  pub ends : {i : ℕ} {e : List ℕ} {d : Draft} → Going f g n i e d → length f ≤ i → Gathered f g n e d
  ends {i} {e} {d} G h =
      let z : G.model ≡ fixed_model n (valid n f g)
      = sym (ap (λ (x : List ℕ). adding G.model (valid n x (drop i g))) (drop_of_length-le f h)) ∙ G.left in
      record { list = G.list; draft = subst (λ (m : Model). Drafts m G.list e d) z G.draft }

-- ── for the whole ──

module _ {f g : List ℕ} {n : ℕ} {e : List ℕ} {d : Draft} (G : Gathered f g n e d) where
  pub drafted : Drafted e d
  drafted = record {
    model = fixed_model n (valid n f g);
    list = G.list;
    draft = G.draft;
    e_long = drafts.e_long G.draft;
    out_long = drafts.out_long G.draft;
    ins_long = drafts.ins_long G.draft;
    few = omega (arith, drafts.total G.draft, G.draft.order.wf.room);
  }

  pub whole : {e' : List ℕ} → Turned e d e' → Holds e' (fixed_model n (valid n f g))
  whole T = record { words = T.is (fixed_model n (valid n f g)) G.list G.draft; wf = G.draft.order.wf }

pub blank : (e : List ℕ) {x : List ℕ} → x ≡ replicate (length e) 0 → length e ≡ edges_length
    → Blank x (record { tails = replicate most_edges 0; out = replicate most_jobs 0; ins = replicate most_jobs 0; edges = 0 })
unfolding zeros
blank e h q =
    record { words = h ∙ ap (λ (k : ℕ). replicate k 0) q; no_tails = refl; no_out = refl; no_ins = refl; none = refl }

pub listing : {e f g : List ℕ} {n : ℕ} → Fixing e f g n → Listing f g n
listing F = record { to_long = F.to_long; few = F.few; jobs = F.jobs; below = F.below; rising = F.rising }
