-- One more edge out of the last job that has one: the words, the tails and the degrees hold the model with that edge. Assumes nothing.
use Prim.Native.Nat.{ℕ, zero, suc, ◌+◌, ◌-◌, ◌≤◌, ◌<◌}
use mathlib.Core.Path.{◌≡◌, refl, sym, ap, subst, ◌∙◌}
use mathlib.Core.Bool.{Bool, true, false, cond}
use mathlib.Core.Logic.{◌⊎◌, inl, inr}
use mathlib.Core.List.{List, [], ◌∷◌, ◌++◌, map, append_assoc, append-nil, map-append}
use native.Mathlib.Omega.{arith}
use native.Mathlib.Numerals.{add-one}
use lib.Dec.{eqb}
use lib.ListN.{length, get_or, set, take, drop, replicate, length-append, length-map, length-set, length-replicate, get_or-map}
use lib.Seq.{slice, get_or-drop, set-append_seam, map-set_same}
use borrow.Author.Tests.{eq-eqb, ne_eqb}
use mir.Syntax.{w16}
use mir.Val.{Fits}
use Rattle.rules.specs.Lists.{Pair, table}
use Rattle.rules.specs.Reports.{head_of}
use Rattle.rules.specs.Sizes.{edges_length, most_jobs}
use Rattle.rules.proofs.Tabled.{table_at, table_same, table_set}
use Rattle.rules.proofs.Ranges.{same}
use Rattle.words.specs.Words.{find_from}
use Rattle.std.specs.Prelude.{Option, Some, None}
use Rattle.edges.specs.Layout.{counts_at, heads_at, most_edges, starts_length}
use Rattle.edges.specs.Rows.{flat, offs, pad, zeros}
use Rattle.edges.specs.Edges.{Edge, Model, Wf, add_edge, count_of, has_edge, head_starts, head_words, count_words, times_of, to_of}
use Rattle.edges.specs.Drafting.{Appended, Drafts, Joined, Last, Ready, Spacious, grown, tail_of, tails_to}
use Rattle.edges.specs.declared.fixed.Draft.{Draft}
use Rattle.edges.proofs.Rows as rows
use Rattle.edges.proofs.Row.{Split, none, one, split}
use Rattle.edges.proofs.Tabs.{Five, at_sc, at_st, five_long, new_st}
use Rattle.edges.proofs.Store.{sc_long, st_long}
use Rattle.edges.proofs.Hits as hits
use Rattle.edges.proofs.Words.{tabs_eq}
use Rattle.edges.proofs.More.{wf_add, with_both}

-- ── tables of n entries ──

-- one entry replaced
pub table_put : {A : Type 0} (n : ℕ) (f g : ℕ → A) (v : ℕ) → v < n → ((w : ℕ) → (w ≡ v → ⊥) → f w ≡ g w)
    → set (table n f) v (g v) ≡ table n g
table_put {A} n f g v h k = table_set n f v (g v) h ∙ table_same n (λ w. cond (eqb w v) (g v) (f w)) g (λ w z. go w (same w v))
  where
    go : (w : ℕ) → (w ≡ v) ⊎ (w ≡ v → ⊥) → cond (eqb w v) (g v) (f w) ≡ g w
    go w (inl q) = rw (eq-eqb w v q) (ap g (sym q))
    go w (inr q) = rw (ne_eqb w v q) (k w q)

map_set : {A B : Type 0} (f : A → B) (l : List A) (i : ℕ) (y : A) → map f (set l i y) ≡ set (map f l) i (f y)
map_set f [] i y = refl
map_set f (x ∷ l) zero y = refl
map_set {B} f (x ∷ l) (suc i) y = ap {B = List B} (λ z. f x ∷ z) (map_set f l i y)

-- ── a row behind which there is nothing ──

module _ {A : Type 0} where
  flat_none : (r : List (List A)) → ((a : ℕ) → get_or r a [] ≡ []) → flat r ≡ []
  unfolding flat
  flat_none [] h = refl
  flat_none (x ∷ r) h = rw (h 0) (flat_none r (λ a. h (suc a)))

  module _ (r : List (List A)) (u : ℕ) (h : u < length r) (k : (a : ℕ) → u < a → get_or r a [] ≡ []) where
    rest_none : flat (drop (suc u) r) ≡ []
    rest_none = flat_none (drop (suc u) r) (λ a. get_or-drop (suc u) r a [] ∙ k (suc u + a) (omega arith))

    split_last : flat r ≡ flat (take u r) ++ get_or r u []
    split_last = rows.flat_split r u h ∙ rw (rest_none, append-nil)

    flat_last : (x : A) → flat (set r u (get_or r u [] ++ x ∷ [])) ≡ flat r ++ x ∷ []
    flat_last x =
        rows.flat_set r u (get_or r u [] ++ x ∷ []) h
        ∙ rw (rest_none, append-nil, split_last) (sym (append_assoc (flat (take u r)) (get_or r u []) (x ∷ [])))

    end_last : get_or (offs 0 r) (suc u) 0 ≡ length (flat r)
    end_last =
        rows.offs_next 0 r u h
        ∙ omega (arith, rows.offs_at 0 r u (omega arith), ap length split_last, length-append (flat (take u r)) (get_or r u []))

pad_more : (n t : ℕ) (l : List ℕ) (x : ℕ) → length l ≡ t → t < n → set (pad n l) t x ≡ pad n (l ++ x ∷ [])
unfolding pad
pad_more n t l x q h =
    let z : ℕ = n - suc (length l) in
    let a : n - length l ≡ suc z = omega arith in
    let b : n - length (l ++ x ∷ []) ≡ z = omega (arith, length-append l (x ∷ [])) in
    rw (← q, a, b, set-append_seam l 0 (replicate z 0) x) (sym (append_assoc l (x ∷ []) (replicate z 0)))

pub zeros_long : (n : ℕ) → length (zeros n) ≡ n
unfolding zeros
zeros_long n = length-replicate n 0

-- ── the tails ──

pub tails_more : (l : List Pair) (u v w : ℕ) → tails_to (l ++ (u, v) ∷ []) w ≡ cond (eqb v w) (tails_to l w ++ u ∷ []) (tails_to l w)
tails_more [] u v w = refl
tails_more (e ∷ l) u v w = go (eqb e.1 w) (eqb v w) (tails_more l u v w)
  where
    go : (a b : Bool) → tails_to (l ++ (u, v) ∷ []) w ≡ cond b (tails_to l w ++ u ∷ []) (tails_to l w)
        → cond a (e.0 ∷ tails_to (l ++ (u, v) ∷ []) w) (tails_to (l ++ (u, v) ∷ []) w)
        ≡ cond b (cond a (e.0 ∷ tails_to l w) (tails_to l w) ++ u ∷ []) (cond a (e.0 ∷ tails_to l w) (tails_to l w))
    go true true ih = ap {B = List ℕ} (λ z. e.0 ∷ z) ih
    go true false ih = ap {B = List ℕ} (λ z. e.0 ∷ z) ih
    go false true ih = ih
    go false false ih = ih

tails_set : (n : ℕ) (l : List Pair) (u v : ℕ) → v < n
    → set (table n (tails_to l)) v (get_or (table n (tails_to l)) v [] ++ u ∷ []) ≡ table n (tails_to (l ++ (u, v) ∷ []))
tails_set n l u v h =
    let a : get_or (table n (tails_to l)) v [] ++ u ∷ [] ≡ tails_to (l ++ (u, v) ∷ []) v
    = rw (table_at n (tails_to l) [] v h, tails_more l u v v, eq-eqb v v refl) in
    ap (set (table n (tails_to l)) v) a
    ∙ table_put n (tails_to l) (tails_to (l ++ (u, v) ∷ [])) v h (λ w q. sym (tails_more l u v w ∙ rw (ne_eqb v w (λ z. q (sym z)))))

low_more : (l : List ℕ) (v : ℕ) → ((i : ℕ) → get_or l i 0 < most_jobs) → v < most_jobs → (i : ℕ) → get_or (l ++ v ∷ []) i 0 < most_jobs
low_more [] v h k zero = k
low_more [] v h k (suc i) = omega arith
low_more (x ∷ l) v h k zero = h 0
low_more (x ∷ l) v h k (suc i) = low_more l v (λ j. h (suc j)) k i

-- ── a draft ──

module _ {m : Model} {l : List Pair} {e : List ℕ} {d : Draft} (D : Drafts m l e d) where
  wf : Wf m
  wf = D.order.wf

  pub total : length (flat m.succ) ≡ d.edges
  total = sym (length-map (flat m.succ) to_of) ∙ sym (ap length D.order.heads) ∙ length-map l head_of ∙ sym D.total

  pub five : Five e (zeros starts_length) (head_words m) (count_words m) (zeros starts_length) (zeros most_edges)
  five = record {
    words = D.words;
    so_long = zeros_long starts_length;
    st_long = st_long m wf;
    sc_long = sc_long m wf;
    po_long = zeros_long starts_length;
    pf_long = zeros_long most_edges;
  }

  pub e_long : length e ≡ edges_length
  e_long = five_long five

  pub tails_long : length d.tails ≡ most_edges
  tails_long = ap length D.from ∙ rows.pad_length most_edges (map tail_of l) (omega (arith, length-map l tail_of, total, wf.room, D.total))

  pub out_long : length d.out ≡ most_jobs
  out_long = ap length D.degrees ∙ length-map m.succ length ∙ wf.succ_rows

  pub ins_long : length d.ins ≡ most_jobs
  ins_long = ap length D.in_degrees ∙ length-map m.pred length ∙ wf.pred_rows

  degree : (u : ℕ) → get_or d.out u 0 ≡ length (get_or m.succ u [])
  degree u = ap (λ (o : List ℕ). get_or o u 0) D.degrees ∙ get_or-map length m.succ u []

  in_degree : (v : ℕ) → get_or d.ins v 0 ≡ length (get_or m.pred v [])
  in_degree v = ap (λ (o : List ℕ). get_or o v 0) D.in_degrees ∙ get_or-map length m.pred v []

  module _ (u v : ℕ) (hu : u < most_jobs) (hv : v < most_jobs) (last : Last u m) (room : d.edges < most_edges) where
    abbrev row : List Edge
    row = get_or m.succ u []

    is_row : u < length m.succ
    is_row = omega (arith, wf.succ_rows)

    row_ends : d.edges ≡ get_or (head_starts m) (suc u) 0
    row_ends = sym (end_last m.succ u is_row last ∙ total)

    within : get_or d.out u 0 ≤ d.edges
    within = omega (arith, degree u, row_ends, rows.offs_next 0 m.succ u is_row)

    -- a search from f to t is one in the row
    module _ (f : ℕ) (start : f ≡ d.edges - get_or d.out u 0) (g : Option ℕ) (q : g ≡ find_from v f (slice f d.edges (take most_edges (drop heads_at e)))) where
      row_starts : f ≡ get_or (head_starts m) u 0
      row_starts = omega (arith, degree u, row_ends, rows.offs_next 0 m.succ u is_row)

      found : find_from v f (map to_of row) ≡ g
      found =
          sym (q ∙ ap (λ (x : List ℕ). find_from v f (slice f d.edges x)) (at_st five).read
          ∙ ap (find_from v f) (rows.row_slice to_of most_edges m.succ u is_row f d.edges row_starts row_ends))

      module _ (p : ℕ) (z : g ≡ Some p) where
        k : Split to_of v (get_or (head_starts m) u 0) row p
        k = rw row_starts at (split to_of v f p row (found ∙ z))

        hit_low : p < most_edges
        hit_low = hits.there wf hu hv k

        hit_times : get_or e (counts_at + p) 0 ≡ count_of m u v
        hit_times = (at_sc five).get p hit_low ∙ hits.count_there wf hu hv k

        hit : Drafts (add_edge m u v) (grown m l u v) (set e (counts_at + p) (get_or e (counts_at + p) 0 + 1)) d
        hit =
            let x : ℕ = get_or e (counts_at + p) 0 + 1 in
            let is = hits.more_is wf hu hv k x (ap (λ (n : ℕ). n + 1) hit_times) in
            rw (hits.has wf hu hv k, is) (record {
              order = record {
                wf = subst Wf is (wf_add m wf u v hu hv (omega (arith, total)));
                heads = D.order.heads ∙ sym (hits.heads_kept wf hu hv k x);
                preds = D.order.preds;
                low = D.order.low;
              };
              words =
                  (at_sc five).store p x hit_low
                  ∙ tabs_eq refl (ap (pad most_edges) (sym (hits.heads_kept wf hu hv k x))) (hits.count_put wf hu hv k x) refl refl;
              from = D.from;
              degrees = D.degrees ∙ sym (map-set_same length m.succ u _ [] (hits.row_long wf hu hv k x));
              in_degrees = D.in_degrees;
              total = D.total;
            })

      module _ (z : g ≡ None) where
        new : has_edge m u v ≡ false
        unfolding has_edge
        new = none to_of v f row (found ∙ z)

        abbrev more : Model
        more = with_both m u (row ++ one v ∷ []) v (get_or m.pred v [] ++ u ∷ [])

        flat_more : (h : Edge → ℕ) → map h (flat more.succ) ≡ map h (flat m.succ) ++ h (one v) ∷ []
        flat_more h = ap (map h) (flat_last m.succ u is_row last (one v)) ∙ map-append h (flat m.succ) (one v ∷ [])

        push : (h : Edge → ℕ) → set (pad most_edges (map h (flat m.succ))) d.edges (h (one v)) ≡ pad most_edges (map h (flat more.succ))
        push h = pad_more most_edges d.edges (map h (flat m.succ)) (h (one v)) (length-map (flat m.succ) h ∙ total) room
            ∙ ap (pad most_edges) (sym (flat_more h))

        raised : {A : Type 0} {o : List ℕ} (r : List (List A)) (x : A) (i : ℕ) → o ≡ map length r
            → set o i (get_or o i 0 + 1) ≡ map length (set r i (get_or r i [] ++ x ∷ []))
        raised {A} {o} r x i q =
            let k : get_or o i 0 ≡ length (get_or r i []) = ap (λ (y : List ℕ). get_or y i 0) q ∙ get_or-map length r i [] in
            let j : get_or o i 0 + 1 ≡ length (get_or r i [] ++ x ∷ []) = omega (arith, length-append (get_or r i []) (x ∷ [])) in
            rw (j, q) (sym (map_set length r i (get_or r i [] ++ x ∷ [])))

        miss : {e' : List ℕ} {d' : Draft} → Appended e d u v e' d' → Drafts (add_edge m u v) (grown m l u v) e' d'
        miss A =
            let is = hits.new_is wf hu hv new in
            let first = new_st five ((at_st five).store d.edges v room) (length-set (head_words m) d.edges v ∙ st_long m wf) in
            rw (new, is) (record {
              order = record {
                wf = subst Wf is (wf_add m wf u v hu hv (omega (arith, total)));
                heads = map-append head_of l ((u, v) ∷ []) ∙ ap (λ (x : List ℕ). x ++ v ∷ []) D.order.heads ∙ sym (flat_more to_of);
                preds = rw D.order.preds (tails_set most_jobs l u v hv);
                low = λ i. rw (map-append head_of l ((u, v) ∷ [])) (low_more (map head_of l) v D.order.low hv i);
              };
              words = A.words ∙ (at_sc first).store d.edges 1 room ∙ tabs_eq refl (push to_of) (push times_of) refl refl;
              from =
                  A.from ∙ ap (λ (x : List ℕ). set x d.edges u) D.from
                  ∙ pad_more most_edges d.edges (map tail_of l) u (length-map l tail_of ∙ sym D.total) room
                  ∙ ap (pad most_edges) (sym (map-append tail_of l ((u, v) ∷ [])));
              degrees = A.degrees ∙ raised m.succ (one v) u D.degrees;
              in_degrees = A.in_degrees ∙ raised m.pred u v D.in_degrees;
              total = A.total ∙ add-one d.edges ∙ ap suc D.total ∙ sym (length-append l ((u, v) ∷ []) ∙ add-one (length l));
            })

-- ── for the code ──

row_short : {A : Type 0} (r : List (List A)) (i : ℕ) → i < length r → length (get_or r i []) ≤ length (flat r)
row_short r i h = omega (arith, rows.offs_next 0 r i h, rows.offs_in 0 r (suc i) h)

pub spacious : {m : Model} {l : List Pair} {e : List ℕ} {d : Draft} {u v : ℕ} → Drafts m l e d → Last u m → d.edges < most_edges
    → u < most_jobs → v < most_jobs → Spacious e d u v
spacious {m} {l} {e} {d} {u} {v} D last room hu hv =
    let a = row_short m.pred v (omega (arith, D.order.wf.pred_rows)) in
    record {
      e_long = e_long D;
      tails_long = tails_long D;
      out_long = out_long D;
      ins_long = ins_long D;
      room = room;
      from = hu;
      to = hv;
      reach = within D u v hu hv last room;
      fits_ins = omega (arith, in_degree D v, D.order.wf.paired, total D);
    }

-- what a search from the row's start on found, where k lead out of u
module _ {e : List ℕ} {d : Draft} {u v : ℕ} (R : Ready e d u v) {k : ℕ} (ed : k ≡ get_or d.out u 0) {g : Option ℕ}
    (q : g ≡ find_from v (d.edges - k) (slice (d.edges - k) d.edges (take most_edges (drop heads_at e)))) where
  abbrev S : Spacious e d u v
  S = R.space

  begins : d.edges - k ≡ d.edges - get_or d.out u 0
  begins = ap (λ (x : ℕ). d.edges - x) ed

  module _ {p : ℕ} (z : g ≡ Some p) where
    pub seen_low : p < most_edges
    seen_low = hit_low R.draft u v S.from S.to R.last S.room (d.edges - k) begins g q p z

    module _ {n : ℕ} (en : n ≡ get_or e (counts_at + p) 0) where
      pub seen_fits : Fits w16 (n + 1)
      seen_fits =
          let a = hit_times R.draft u v S.from S.to R.last S.room (d.edges - k) begins g q p z in
          record { fits = omega (arith, R.times) }

      pub counts_more : {e' : List ℕ} → e' ≡ set e (counts_at + p) (n + 1) → Joined e d u v e' d
      counts_more w = record {
        is = λ m l D last. rw (w, en) (hit D u v S.from S.to last S.room (d.edges - k) begins g q p z);
      }

  pub comes : g ≡ None → {e' : List ℕ} {d' : Draft} → Appended e d u v e' d' → Joined e d u v e' d'
  comes z A = record { is = λ m l D last. miss D u v S.from S.to last S.room (d.edges - k) begins g q z A }
