-- The predecessors: each edge goes to the next place of its head's row, and then the words hold the model. Assumes nothing.
use Prim.Native.Nat.{ℕ, zero, suc, ◌+◌, ◌-◌, ◌≤◌, ◌<◌}
use mathlib.Core.Path.{◌≡◌, refl, sym, ap, ◌∙◌}
use mathlib.Core.Bool.{Bool, true, false, cond}
use mathlib.Core.List.{List, [], ◌∷◌, ◌++◌, map, append_assoc, append-nil, map-id}
use native.Mathlib.Omega.{arith}
use native.Mathlib.Numerals.{add-one}
use native.Mathlib.Nat.{add-zero}
use lib.Dec.{eqb}
use lib.ListN.{length, get_or, set, take, drop, replicate, length-append, length-map, length-replicate, take-append-drop, get_or-map, drop_of_length-le, replicate-append-replicate}
use lib.Seq.{drop-cons, take-suc, take_all, get_or-take, length-take-le}
use borrow.Author.Tests.{eq-eqb, ne_eqb}
use mir.Syntax.{w16}
use mir.Val.{Fits}
use Rattle.rules.specs.Lists.{Pair, table}
use Rattle.rules.specs.Reports.{head_of}
use Rattle.rules.specs.Sizes.{edges_length, most_jobs}
use Rattle.rules.proofs.Tabled.{map_table, table_at, table_length, table_same}
use Rattle.edges.specs.Layout.{heads_at, most_edges, tails_at}
use Rattle.edges.specs.Rows.{flat, offs, pad, zeros}
use Rattle.edges.specs.Edges.{Model, Wf, encode, head_starts, head_words, count_words, tail_starts, tabs, to_of}
use Rattle.edges.specs.Drafting.{Scattered, Turnable, Turning, running, sum, tail_of, tails_to}
use Rattle.edges.proofs.Rows as rows
use Rattle.edges.proofs.Tabs.{Five, at_pf, at_st, five_long}
use Rattle.edges.proofs.Store.{po_long, sc_long, so_long, st_long}
use Rattle.edges.proofs.Words.{tabs_eq}
use Rattle.edges.proofs.Adding.{table_of}
use Rattle.edges.proofs.Sums.{running_offs, sum_flat}
use Rattle.edges.proofs.Drafts.{table_put, tails_more}

-- ── rows of which a part is written ──

tails_append : (d r : List Pair) (v : ℕ) → tails_to (d ++ r) v ≡ tails_to d v ++ tails_to r v
tails_append [] r v = refl
tails_append (e ∷ d) r v = go (eqb e.1 v) (tails_append d r v)
  where
    go : (b : Bool) → tails_to (d ++ r) v ≡ tails_to d v ++ tails_to r v
        → cond b (e.0 ∷ tails_to (d ++ r) v) (tails_to (d ++ r) v) ≡ cond b (e.0 ∷ tails_to d v) (tails_to d v) ++ tails_to r v
    go true ih = ap {B = List ℕ} (λ z. e.0 ∷ z) ih
    go false ih = ih

-- row v: the tails that came, and zeros for those to come
abbrev pub part : List Pair → List Pair → ℕ → List ℕ
part d r v = tails_to d v ++ replicate (length (tails_to r v)) 0

abbrev pub half : ℕ → List Pair → List Pair → List (List ℕ)
half n d r = table n (part d r)

half_lengths : (n : ℕ) (d r : List Pair) → map length (half n d r) ≡ map length (table n (tails_to (d ++ r)))
half_lengths n d r =
    map_table length n (part d r)
    ∙ table_same n (λ v. length (part d r v)) (λ v. length (tails_to (d ++ r) v)) (λ v h. same v)
    ∙ sym (map_table length n (tails_to (d ++ r)))
  where
    same : (v : ℕ) → length (part d r v) ≡ length (tails_to (d ++ r) v)
    same v = length-append (tails_to d v) (replicate (length (tails_to r v)) 0) ∙ rw (length-replicate, tails_append d r v)
        (sym (length-append (tails_to d v) (tails_to r v)))

-- one more edge
module _ (n : ℕ) (d r : List Pair) (u v : ℕ) (h : v < n) where
  abbrev left : List ℕ
  left = replicate (length (tails_to r v)) 0

  abbrev before : List (List ℕ)
  before = half n d ((u, v) ∷ r)

  at_v : get_or before v [] ≡ tails_to d v ++ 0 ∷ left
  at_v = table_at n (part d ((u, v) ∷ r)) [] v h ∙ rw (eq-eqb v v refl)

  is_row : v < length before
  is_row = omega (arith, table_length n (part d ((u, v) ∷ r)))

  place_low : get_or (offs 0 before) v 0 + length (tails_to d v) < length (flat before)
  place_low = rows.row_in (λ (x : ℕ). x) most_edges before v is_row (length (tails_to d v)) (rw at_v (rw length-append (omega arith)))

  half_turn : (p : ℕ) → p ≡ get_or (offs 0 before) v 0 + length (tails_to d v)
      → set (pad most_edges (flat before)) p u ≡ pad most_edges (flat (half n (d ++ (u, v) ∷ []) r))
  half_turn p q =
      let after : tails_to d v ++ u ∷ left ≡ part (d ++ (u, v) ∷ []) r v
      = sym (rw (tails_more d u v v, eq-eqb v v refl) (append_assoc (tails_to d v) (u ∷ []) left)) in
      (simp map-id at (rows.row_put (λ (x : ℕ). x) most_edges before v is_row (tails_to d v) left 0 at_v p q u))
      ∙ ap (λ (z : List ℕ). pad most_edges (flat (set before v z))) after
      ∙ ap (λ (z : List (List ℕ)). pad most_edges (flat z))
      (table_put n (part d ((u, v) ∷ r)) (part (d ++ (u, v) ∷ []) r) v h (λ w q. rw (tails_more d u v w, ne_eqb v w (λ z. q (sym z)))))

-- where the next edge to v goes, if the rows start at o
abbrev pub cursor : List ℕ → List Pair → ℕ → ℕ
cursor o d v = get_or o v 0 + length (tails_to d v)

cursor_turn : (n : ℕ) (o : List ℕ) (d : List Pair) (u v : ℕ) → v < n
    → set (table n (cursor o d)) v (cursor o d v + 1) ≡ table n (cursor o (d ++ (u, v) ∷ []))
cursor_turn n o d u v h =
    let a : cursor o d v + 1 ≡ cursor o (d ++ (u, v) ∷ []) v
    = rw (tails_more d u v v, eq-eqb v v refl) (rw length-append (omega arith)) in
    ap (set (table n (cursor o d)) v) a
    ∙ table_put n (cursor o d) (cursor o (d ++ (u, v) ∷ [])) v h (λ w q. rw (tails_more d u v w, ne_eqb v w (λ z. q (sym z))))

-- none is written yet
abbrev blanks : ℕ → (ℕ → ℕ) → List (List ℕ)
blanks n k = table n (λ v. replicate (k v) 0)

zero_rows : (n : ℕ) (k : ℕ → ℕ) → flat (blanks n k) ≡ replicate (length (flat (blanks n k))) 0
unfolding flat
zero_rows zero k = refl
zero_rows (suc n) k =
    let z : List ℕ = flat (blanks n (λ v. k (suc v))) in
    let q : k 0 + length z ≡ length (replicate (k 0) 0 ++ z)
    = omega (arith, length-append (replicate (k 0) 0) z, length-replicate {A = ℕ} (k 0) 0) in
    ap (λ (x : List ℕ). replicate (k 0) 0 ++ x) (zero_rows n (λ v. k (suc v)))
    ∙ replicate-append-replicate (k 0) (length z) 0
    ∙ ap (λ (x : ℕ). replicate x 0) q

half_none : (n : ℕ) (l : List Pair) → length (flat (half n [] l)) ≤ most_edges → zeros most_edges ≡ pad most_edges (flat (half n [] l))
unfolding pad zeros
half_none n l h =
    let z : List ℕ = flat (half n [] l) in
    let q : length z + (most_edges - length z) ≡ most_edges = omega arith in
    sym (ap (λ (x : List ℕ). x ++ replicate (most_edges - length z) 0) (zero_rows n (λ v. length (tails_to l v)))
    ∙ replicate-append-replicate (length z) (most_edges - length z) 0 ∙ ap (λ (x : ℕ). replicate x 0) q)

-- ── the words ──

abbrev pub rows_at : List Pair → ℕ → List (List ℕ)
rows_at l i = half most_jobs (take i l) (drop i l)

-- the first i edges of l are written
pub record Spread (m : Model) (l : List Pair) (i : ℕ) (e next : List ℕ) : Type 0 where
  pub words : e ≡ tabs (head_starts m) (head_words m) (count_words m) (tail_starts m) (pad most_edges (flat (rows_at l i)))
  pub places : next ≡ table most_jobs (cursor (tail_starts m) (take i l))

module _ {m : Model} {l : List Pair} {e₀ tails next₀ : List ℕ} (T : Turning m l e₀ tails next₀) where
  wf : Wf m
  wf = T.order.wf

  lengths_are : (i : ℕ) → map length (rows_at l i) ≡ map length m.pred
  lengths_are i =
      half_lengths most_jobs (take i l) (drop i l)
      ∙ ap (λ (x : List Pair). map length (table most_jobs (tails_to x))) (take-append-drop i l) ∙ ap (map length) (sym T.order.preds)

  offs_are : (i : ℕ) → offs 0 (rows_at l i) ≡ tail_starts m
  offs_are i = sym (running_offs 0 (rows_at l i)) ∙ ap (running 0) (lengths_are i) ∙ running_offs 0 m.pred

  rows_long : (i : ℕ) → length (flat (rows_at l i)) ≤ most_edges
  rows_long i = omega (arith, sym (sum_flat (rows_at l i)) ∙ ap sum (lengths_are i) ∙ sum_flat m.pred, wf.paired, wf.room)

  heads_long : length (map to_of (flat m.succ)) ≡ length l
  heads_long = sym (ap length T.order.heads) ∙ length-map l head_of

  tails_long : length tails ≡ length l
  tails_long = ap length T.from ∙ length-map l tail_of

  few : length tails ≤ most_edges
  few = omega (arith, tails_long, heads_long, length-map (flat m.succ) to_of, wf.room)

  spread_none : Spread m l 0 e₀ next₀
  spread_none = record {
    words = T.words ∙ tabs_eq refl refl refl refl (half_none most_jobs l (rows_long 0));
    places =
        T.starts
        ∙ table_of 0 most_jobs (take most_jobs (tail_starts m)) (cursor (tail_starts m) [])
        (length-take-le most_jobs (tail_starts m) (omega (arith, po_long m wf)))
        (λ u h. get_or-take most_jobs (tail_starts m) u 0 h ∙ sym (add-zero _));
  }

  module _ {i : ℕ} {e next : List ℕ} (S : Spread m l i e next) where
    five : Five e (head_starts m) (head_words m) (count_words m) (tail_starts m) (pad most_edges (flat (rows_at l i)))
    five = record {
      words = S.words;
      so_long = so_long m wf;
      st_long = st_long m wf;
      sc_long = sc_long m wf;
      po_long = po_long m wf;
      pf_long = rows.pad_length most_edges (flat (rows_at l i)) (rows_long i);
    }

    next_long : length next ≡ most_jobs
    next_long = ap length S.places ∙ table_length most_jobs (cursor (tail_starts m) (take i l))

    module _ (more : i < length tails) where
      abbrev edge : Pair
      edge = get_or l i (0, 0)

      in_list : i < length l
      in_list = omega (arith, tails_long)

      head_at : get_or (map head_of l) i 0 ≡ head_of edge
      head_at = get_or-map head_of l i (0, 0)

      low : head_of edge < most_jobs
      low = rw head_at at (T.order.low i)

      tail_is : get_or tails i 0 ≡ tail_of edge
      tail_is =
          ap (λ (x : List ℕ). get_or x i 0) T.from ∙ get_or-map tail_of l i (0, 0)

      abbrev to_come : List Pair
      to_come = drop (suc i) l

      front : take (i + 1) l ≡ take i l ++ edge ∷ []
      front = rw add-one (take-suc l i (0, 0) in_list)

      now_at : rows_at l i ≡ half most_jobs (take i l) (edge ∷ to_come)
      now_at = ap (half most_jobs (take i l)) (drop-cons l i (0, 0) in_list)

      module _ (v p : ℕ) (ev : v ≡ get_or e (heads_at + i) 0) (ep : p ≡ get_or next v 0) where
        v_is : v ≡ head_of edge
        v_is =
            ev ∙ (at_st five).get i (omega (arith, few))
            ∙ rows.pad_get most_edges i (map to_of (flat m.succ)) (omega (arith, heads_long, in_list))
            ∙ ap (λ (x : List ℕ). get_or x i 0) (sym T.order.heads) ∙ head_at

        p_is : p ≡ cursor (tail_starts m) (take i l) (head_of edge)
        p_is =
            ep ∙ ap (λ (j : ℕ). get_or next j 0) v_is ∙ ap (λ (x : List ℕ). get_or x (head_of edge) 0) S.places
            ∙ table_at most_jobs (cursor (tail_starts m) (take i l)) 0 (head_of edge) low

        place : p ≡ get_or (offs 0 (half most_jobs (take i l) (edge ∷ to_come))) (head_of edge) 0 + length (tails_to (take i l) (head_of edge))
        place = p_is ∙ ap (λ (o : List ℕ). cursor o (take i l) (head_of edge)) (sym (offs_are i) ∙ ap (offs 0) now_at)

        place_within : p < most_edges
        place_within =
            omega (
              arith,
              place,
              place_low most_jobs (take i l) to_come (tail_of edge) (head_of edge) low,
              ap (λ (x : List (List ℕ)). length (flat x)) now_at,
              rows_long i,
            )

        spread_turn : Spread m l (i + 1) (set e (tails_at + p) (get_or tails i 0)) (set next v (p + 1))
        spread_turn = record {
          words =
              (at_pf five).store p (get_or tails i 0) place_within
              ∙ tabs_eq refl refl refl refl
              (ap (λ (x : ℕ). set (pad most_edges (flat (rows_at l i))) p x) tail_is
              ∙ ap (λ (x : List (List ℕ)). set (pad most_edges (flat x)) p (tail_of edge)) now_at
              ∙ half_turn most_jobs (take i l) to_come (tail_of edge) (head_of edge) low p place
              ∙ rw (front, add-one));
          places =
              ap (λ (x : ℕ). set next x (p + 1)) v_is
              ∙ ap (λ (x : ℕ). set next (head_of edge) (x + 1)) p_is
              ∙ ap (λ (x : List ℕ). set x (head_of edge) (cursor (tail_starts m) (take i l) (head_of edge) + 1)) S.places
              ∙ cursor_turn most_jobs (tail_starts m) (take i l) (tail_of edge) (head_of edge) low
              ∙ ap (λ (x : List Pair). table most_jobs (cursor (tail_starts m) x)) (sym front);
        }

    spread_all : length tails ≤ i → e ≡ encode m
    unfolding encode
    spread_all h =
        let all : rows_at l i ≡ table most_jobs (tails_to l)
        = rw (take_all i l (omega (arith, tails_long)), drop_of_length-le l {i = i} (omega (arith, tails_long)))
        (table_same most_jobs (part l []) (tails_to l) (λ v h. append-nil (tails_to l v))) in
        S.words ∙ tabs_eq refl refl refl refl (ap (λ (x : List (List ℕ)). pad most_edges (flat x)) (all ∙ sym T.order.preds))

-- ── for the loop: whatever model the words at entry hold ──

pub record Spreading (e₀ tails next₀ e next : List ℕ) (i : ℕ) : Type 0 where
  pub known : Turnable e₀ tails next₀
  pub spread : (m : Model) (l : List Pair) → Turning m l e₀ tails next₀ → Spread m l i e next
  pub e_long : length e ≡ edges_length
  pub next_long : length next ≡ most_jobs

pub spreading : {e tails next : List ℕ} → Turnable e tails next → Spreading e tails next e next 0
spreading K =
    let T = K.turning in
    record {
      known = K;
      spread = λ m l T. spread_none T;
      e_long = five_long (five T (spread_none T));
      next_long = next_long T (spread_none T);
    }

module _ {e₀ tails next₀ e next : List ℕ} {i : ℕ} (S : Spreading e₀ tails next₀ e next i) where
  abbrev now : Turning S.known.model S.known.list e₀ tails next₀
  now = S.known.turning

  abbrev so_far : Spread S.known.model S.known.list i e next
  so_far = S.spread S.known.model S.known.list now

  pub scattered : length tails ≤ i → Scattered e₀ tails next₀ e
  scattered h = record { is = λ m l T. spread_all T (S.spread m l T) h }

  module _ (more : i < length tails) where
    pub head_in : heads_at + i < length e
    head_in = omega (arith, few now, S.e_long)

    module _ {v : ℕ} (ev : v ≡ get_or e (heads_at + i) 0) where
      pub place_in : v < length next
      place_in = rw S.next_long (rw (v_is now so_far more v _ ev refl) (low now so_far more))

      pub next_fits : Fits w16 (get_or next v 0 + 1)
      next_fits = record { fits = omega (arith, place_within now so_far more v _ ev refl) }

      module _ {p : ℕ} (ep : p ≡ get_or next v 0) where
        pub tail_in : tails_at + p < length e
        tail_in = omega (arith, place_within now so_far more v p ev ep, S.e_long)

        pub spread_more : {e' next' : List ℕ} → e' ≡ set e (tails_at + p) (get_or tails i 0) → next' ≡ set next v (get_or next v 0 + 1)
            → Spreading e₀ tails next₀ e' next' (i + 1)
        spread_more {e'} {next'} ee en =
            let turned : (m : Model) (l : List Pair) → Turning m l e₀ tails next₀ → Spread m l (i + 1) e' next'
            = λ m l T. rw (ee, en, ← ep) (spread_turn T (S.spread m l T) more v p ev ep) in
            record {
              known = S.known;
              spread = turned;
              e_long = five_long (five now (turned S.known.model S.known.list now));
              next_long = next_long now (turned S.known.model S.known.list now);
            }
