-- Edges added one after the other to a model with none: its rows are the rules' stored lists, with how often each edge stands in the list.
-- And the model is well formed on the way. Assumes nothing.
use Prim.Native.Nat.{ℕ, suc, ◌+◌, ◌≤◌, ◌<◌}
use mathlib.Core.Path.{◌≡◌, refl, sym, ap, ◌∙◌}
use mathlib.Core.Bool.{Bool, true, false, not}
use mathlib.Core.List.{List, [], ◌∷◌, map}
use native.Mathlib.Omega.{arith}
use lib.Dec.{eqb}
use lib.ListN.{length, get_or, replicate, length-set, length-replicate}
use lib.Seq.{get_or-set_same, get_or-set_other}
use borrow.Author.Tests.{eq-eqb, eqb-false, ne_eqb}
use Rattle.rules.specs.Lists.{Once, Pair, memb, same_pair, table, tick, times}
use Rattle.rules.specs.Routes.{Heads, adds, alter, appear, outs, turned}
use Rattle.rules.specs.Sizes.{most_jobs}
use Rattle.rules.specs.Sound.{Inside}
use Rattle.rules.proofs.Members.{or_false}
use Rattle.rules.proofs.Tabled.{list_table, table_same}
use Rattle.edges.specs.Layout.{most_edges}
use Rattle.edges.specs.Rows.{flat}
use Rattle.edges.specs.Edges.{Edge, Model, Wf, add_edge, count_of, has_edge, more_in, times_in, to_of}
use Rattle.edges.specs.Fixed.{fixed_model}
use Rattle.edges.proofs.Empty.{none_at, nothing, nothing_count, nothing_flat, nothing_wf}
use Rattle.edges.proofs.More.{few_add, is_prow, is_row, set_cases, wf_add}
use Rattle.edges.proofs.Row.{more_heads, more_times}

-- ── one more edge in a model ──

module _ (m : Model) (w : Wf m) (u v : ℕ) (hu : u < most_jobs) (hv : v < most_jobs) where
  pub one_more : length (flat (add_edge m u v).succ) ≤ suc (length (flat m.succ))
  one_more = rw (few_add m w u v hu hv) (go (not (has_edge m u v)))
    where
      go : (b : Bool) → tick b (length (flat m.succ)) ≤ suc (length (flat m.succ))
      go true = omega arith
      go false = omega arith

  pub count_add : (a b : ℕ) → count_of (add_edge m u v) a b ≡ tick (same_pair (a, b) (u, v)) (count_of m a b)
  unfolding add_edge count_of
  count_add a b =
      set_cases (λ r. times_in b r ≡ tick (same_pair (a, b) (u, v)) (times_in b (get_or m.succ a []))) m.succ u a
      (more_in v (get_or m.succ u [])) (is_row m w u v hu hv)
      (λ q. rw (q, eq-eqb u u refl) (more_times b v (get_or m.succ u [])))
      (λ q. rw (ne_eqb a u q))

-- ── edges one after the other ──

abbrev pub adding : Model → List Pair → Model
adding m [] = m
adding m (e ∷ es) = adding (add_edge m e.0 e.1) es

-- the rows of m are the lists t and s
record Like (n : ℕ) (t s : Heads) (m : Model) : Type 0 where
  pub wf : Wf m
  pub size : length t ≡ n
  pub back_size : length s ≡ n
  pub heads : (u : ℕ) → map to_of (get_or m.succ u []) ≡ outs t u
  pub tails : (v : ℕ) → get_or m.pred v [] ≡ outs s v

module _ (n : ℕ) (t s : Heads) (m : Model) (L : Like n t s m) (small : n ≤ most_jobs) (u v : ℕ) (hu : u < n) (hv : v < n) where
  like_add : length (flat m.succ) < most_edges → Like n (alter appear t (u, v)) (alter appear s (v, u)) (add_edge m u v)
  unfolding add_edge
  like_add room = record {
    wf = wf_add m L.wf u v (omega arith) (omega arith) room;
    size = length-set t u (appear v (outs t u)) ∙ L.size;
    back_size = length-set s v (appear u (outs s v)) ∙ L.back_size;
    heads = λ w.
        set_cases (λ r. map to_of r ≡ outs (alter appear t (u, v)) w) m.succ u w (more_in v (get_or m.succ u []))
        (is_row m L.wf u v (omega arith) (omega arith))
        (λ q. more_heads v (get_or m.succ u [])
        ∙ rw (q, L.heads u) (sym (get_or-set_same t u (appear v (outs t u)) [] (omega (arith, L.size)))))
        (λ q. L.heads w ∙ sym (get_or-set_other t u w (appear v (outs t u)) [] q));
    tails = λ w.
        set_cases (λ r. r ≡ outs (alter appear s (v, u)) w) m.pred v w (appear u (get_or m.pred v []))
        (is_prow m L.wf u v (omega arith) (omega arith))
        (λ q. rw (q, L.tails v) (sym (get_or-set_same s v (appear u (outs s v)) [] (omega (arith, L.back_size)))))
        (λ q. L.tails w ∙ sym (get_or-set_other s v w (appear u (outs s v)) [] q));
  }

like_adding : (n : ℕ) (l : List Pair) (t s : Heads) (m : Model) → Like n t s m → n ≤ most_jobs → Inside n l
    → length (flat m.succ) + length l ≤ most_edges → Like n (adds t l) (adds s (map turned l)) (adding m l)
like_adding n [] t s m L small h room = L
like_adding n (e ∷ l) t s m L small (a, b, h) room =
    like_adding n l (alter appear t e) (alter appear s (turned e)) (add_edge m e.0 e.1)
    (like_add n t s m L small e.0 e.1 a b (omega arith)) small h
    (let z = one_more m L.wf e.0 e.1 (omega arith) (omega arith) in omega arith)

count_adding : (l : List Pair) (m : Model) → Wf m → Inside most_jobs l → length (flat m.succ) + length l ≤ most_edges → (a b : ℕ)
    → count_of (adding m l) a b ≡ count_of m a b + times (a, b) l
count_adding [] m w h room a b = omega arith
count_adding (e ∷ l) m w (hu, hv, h) room a b =
    count_adding l (add_edge m e.0 e.1) (wf_add m w e.0 e.1 hu hv (omega arith)) h
    (let z = one_more m w e.0 e.1 hu hv in omega arith) a b
    ∙ rw (count_add m w e.0 e.1 hu hv a b) (step (same_pair (a, b) e) (count_of m a b) (times (a, b) l))
  where
    step : (k : Bool) (x y : ℕ) → tick k x + y ≡ x + tick k y
    step true x y = omega arith
    step false x y = refl

-- ── a row is its targets with their counts ──

abbrev pub counted : (ℕ → ℕ) → List ℕ → List Edge
counted c l = map (λ v. record { to = v; times = c v }) l

past : (d : Edge) (r : List Edge) (l : List ℕ) → memb d.to l ≡ false → counted (λ v. times_in v r) l ≡ counted (λ v. times_in v (d ∷ r)) l
unfolding times_in
past d r [] h = refl
past d r (y ∷ l) h =
    let (a, b) = or_false {a = eqb d.to y} h in
    let c : eqb y d.to ≡ false = ne_eqb y d.to (λ q. eqb-false d.to y a (sym q)) in
    rw c (ap {B = List Edge} (λ z. record { to = y; times = times_in y r } ∷ z) (past d r l b))

pub row_of : (r : List Edge) → Once (map to_of r) → r ≡ counted (λ v. times_in v r) (map to_of r)
unfolding times_in
row_of [] o = refl
row_of (d ∷ r) (a, o) = rw (eq-eqb d.to d.to refl) (ap {B = List Edge} (λ z. d ∷ z) (row_of r o ∙ past d r (map to_of r) a))

-- ── the model of a list ──

pub table_of : {A : Type 0} (d : A) (n : ℕ) (l : List A) (f : ℕ → A) → length l ≡ n → ((u : ℕ) → u < n → get_or l u d ≡ f u) → l ≡ table n f
table_of {A} d n l f e h = list_table d l ∙ ap (λ (k : ℕ). table k (λ v. get_or l v d)) e ∙ table_same n (λ v. get_or l v d) f h

like_nothing : (n k : ℕ) → Wf (nothing k) → Like n (replicate n []) (replicate n []) (nothing k)
unfolding nothing
like_nothing n k w = record {
  wf = w;
  size = length-replicate n [];
  back_size = length-replicate n [];
  heads = λ u. rw (none_at {A = Edge} k u, none_at {A = ℕ} n u);
  tails = λ v. rw (none_at {A = ℕ} k v, none_at {A = ℕ} n v);
}

module _ (n : ℕ) (l : List Pair) (small : n ≤ most_jobs) (h : Inside n l) (few : length l ≤ most_edges) where
  inside_all : (l : List Pair) → Inside n l → Inside most_jobs l
  inside_all [] h = tt
  inside_all (e ∷ l) (a, b, h) = (omega arith, omega arith, inside_all l h)

  room₀ : length (flat (nothing most_jobs).succ) + length l ≤ most_edges
  room₀ = rw (nothing_flat most_jobs) (omega arith)

  like : Like n (adds (replicate n []) l) (adds (replicate n []) (map turned l)) (adding (nothing most_jobs) l)
  like = like_adding n l (replicate n []) (replicate n []) (nothing most_jobs) (like_nothing n most_jobs nothing_wf) small h room₀

  count_is : (a b : ℕ) → count_of (adding (nothing most_jobs) l) a b ≡ times (a, b) l
  count_is a b = count_adding l (nothing most_jobs) nothing_wf (inside_all l h) room₀ a b ∙ rw (nothing_count most_jobs a b) (omega arith)

  row_is : (u : ℕ) → get_or (adding (nothing most_jobs) l).succ u [] ≡ counted (λ v. times (u, v) l) (outs (adds (replicate n []) l) u)
  unfolding count_of
  row_is u =
      row_of (get_or (adding (nothing most_jobs) l).succ u []) (like.wf.once u)
      ∙ (λ i. counted (λ v. count_is u v i) (like.heads u i))

  pub fixed_is : adding (nothing most_jobs) l ≡ fixed_model n l
  unfolding fixed_model
  fixed_is = λ i. record {
    succ = table_of [] most_jobs (adding (nothing most_jobs) l).succ _ like.wf.succ_rows (λ u h. row_is u) i;
    pred = table_of [] most_jobs (adding (nothing most_jobs) l).pred _ like.wf.pred_rows (λ v h. like.tails v) i;
  }
