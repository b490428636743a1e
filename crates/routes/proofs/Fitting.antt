-- One edge more or less in a stored model: its count alters, and where it appears or vanishes one list of heads and one of tails.
-- Assumes nothing.
use Rattle.std.proofs.Common.{◌≡◌, ℕ, ◌+◌, ◌-◌, ◌<◌, Bool, true, false, cond, not, eqb, ltb, List, [], ◌∷◌, map, length, get_or, set, sym, refl, ap, ◌∙◌, arith, length-set, get_or-set_other, get_or-set_same, ltb-true, ne_eqb, eqb-true}
use lib.ListN.{length-map, get_or-map}
use lib.Seq.{set-get_or}
use borrow.Author.Tests.{eqb-false}
use Rattle.rules.specs.Lists.{Pair, Once, memb, is_zero}
use Rattle.rules.specs.Sizes.{most_jobs}
use Rattle.rules.specs.Routes.{Heads, alter, outs, vanish, appear, turned}
use Rattle.rules.specs.Sound.{Tidy}
use Rattle.rules.proofs.Ranges.{pass, fail, test}
use Rattle.rules.proofs.Stored.{adds_at, adds_tidy, drops_at, drops_tidy}
use Rattle.rules.proofs.Stages.{times_turned}
use Rattle.edges.specs.Edges.{Model, Edge, Wf, to_of, times_of, AllPos, times_in, more_in, count_of, has_edge, add_edge, remove_edge}
use Rattle.edges.proofs.More.{set_cases}
use Rattle.edges.proofs.Row.{more_heads, more_pos}
use Rattle.routes.specs.Stops.{bit}
use Rattle.routes.specs.Turning.{tail, head, is_edge, turn_one, turns}
use Rattle.routes.proofs.Lists.{map_set, same_test}
use Rattle.routes.proofs.OneRow.{less_row, times_less, heads_less, once_less, pos_less, times_more, once_more, has_times, goes_row}

-- an edge's number as a pair, and the other way round
abbrev pub pair_of : ℕ → Pair
pair_of x = (tail x, head x)

abbrev pub turned_of : ℕ → Pair
turned_of x = turned (pair_of x)

-- the rules' lists of a model, and the same the other way round
abbrev pub heads_in : List Edge → List ℕ
heads_in = map to_of

abbrev pub heads_of : Model → Heads
heads_of m = map heads_in m.succ

abbrev pub count_at : Model → ℕ → ℕ
count_at m x = count_of m (tail x) (head x)

abbrev pub count_by : Model → Pair → ℕ
count_by m e = count_of m e.0 e.1

-- ── the lists of heads and of tails tell the same edges ──

abbrev Linked : Heads → Heads → Type 0
Linked t s = (i j : ℕ) → i < most_jobs → j < most_jobs → memb j (outs t i) ≡ memb i (outs s j)

abbrev pub always : Pair → Bool
always e = true

module _ (t s : Heads) (e : Pair) (a : e.0 < most_jobs) (b : e.1 < most_jobs) (T : Tidy most_jobs t) (S : Tidy most_jobs s) where
  linked_appear : Linked t s → Linked (alter appear t e) (alter appear s (turned e))
  linked_appear h i j hi hj =
      adds_at most_jobs (e ∷ []) t i j (a, tt) T ∙ rw (h i j hi hj, ← times_turned (j, i) (e ∷ []))
      (sym (adds_at most_jobs (turned e ∷ []) s j i (b, tt) S))

  linked_vanish : Linked t s → Linked (alter vanish t e) (alter vanish s (turned e))
  linked_vanish h i j hi hj =
      drops_at most_jobs always (e ∷ []) t i j (a, tt) T ∙ rw (h i j hi hj, ← times_turned (j, i) (e ∷ []))
      (sym (drops_at most_jobs always (turned e ∷ []) s j i (b, tt) S))

-- what a stored model is, its room apart
pub record Fit (m : Model) : Type 0 where
  pub rows : length m.succ ≡ most_jobs
  pub once : (i : ℕ) → Once (map to_of (get_or m.succ i []))
  pub positive : (i : ℕ) → AllPos (map times_of (get_or m.succ i []))
  pub tails : Tidy most_jobs m.pred
  pub linked : Linked (heads_of m) m.pred

pub outs_row : (m : Model) (i : ℕ) → outs (heads_of m) i ≡ map to_of (get_or m.succ i [])
outs_row m i = get_or-map heads_in m.succ i []

pub heads_tidy : (m : Model) → Fit m → Tidy most_jobs (heads_of m)
heads_tidy m f = record { size = length-map m.succ heads_in ∙ f.rows; once = λ u. rw (outs_row m u) (f.once u) }

-- a stored model is fit
pub fit : (m : Model) → Wf m → Fit m
unfolding has_edge
fit m w = record {
  rows = w.succ_rows;
  once = w.once;
  positive = w.positive;
  tails = record { size = w.pred_rows; once = w.pred_once };
  linked = λ i j hi hj. rw (outs_row m i) (w.linked i j hi hj);
}

-- ── an edge's number ──

pub tail_small : (x : ℕ) → is_edge x ≡ true → tail x < most_jobs
tail_small x e = ltb-true (tail x) most_jobs e

pub head_small : (x : ℕ) → head x < most_jobs
head_small x = omega arith

same_code : (y x : ℕ) → tail y ≡ tail x → eqb y x ≡ eqb (head y) (head x)
same_code y x e = same_test y x (head y) (head x) (λ q. ap head q) (λ q. omega arith)

-- ── what happens to the row of an edge ──

change : Bool → ℕ → List Edge → List Edge
change true = more_in
change false = less_row

abbrev row : Model → ℕ → List Edge
row m x = get_or m.succ (tail x) []

turn_succ : (b : Bool) (m : Model) (x : ℕ) → is_edge x ≡ true → (turn_one b m x).succ ≡ set m.succ (tail x) (change b (head x) (row m x))
unfolding change add_edge remove_edge less_row has_edge count_of
turn_succ true m x e = rw e
turn_succ false m x e = rw e (elim (test (memb (head x) (map to_of (get_or m.succ (tail x) [])))) [
  | fail z ↦ rw z (sym (set-get_or m.succ (tail x) []))
  | pass z ↦ elim (test (ltb 1 (times_in (head x) (get_or m.succ (tail x) [])))) [ pass w ↦ rw (z, w) | fail w ↦ rw (z, w) ]
])

remove_pred : (m : Model) (x : ℕ) → is_edge x ≡ true → (turn_one false m x).pred ≡ cond (turns false m x) (alter vanish m.pred (turned_of x)) m.pred
unfolding remove_edge
remove_pred m x e = rw e (elim (test (has_edge m (tail x) (head x))) [
  | fail z ↦ rw z
  | pass z ↦ elim (test (ltb 1 (count_of m (tail x) (head x)))) [
    | pass w ↦ rw (z, w)
    | fail w ↦ rw (z, w)
  ]
])

module _ (m : Model) (f : Fit m) (x : ℕ) (e : is_edge x ≡ true) where
  inside : tail x < length m.succ
  inside = let a = tail_small x e in let b = f.rows in omega arith

  -- ── how often ──

  count_turn : (b : Bool) (g : ℕ → Bool → ℕ) → ((n : ℕ) → g n false ≡ n)
      → ((y : ℕ) → times_in y (change b (head x) (row m x)) ≡ g (times_in y (row m x)) (eqb y (head x)))
      → (y : ℕ) → count_at (turn_one b m x) y ≡ g (count_at m y) (eqb y x)
  unfolding count_of
  count_turn b g none h y = rw (turn_succ b m x e) (elim (test (eqb (tail y) (tail x))) [
    | pass z ↦ let q = eqb-true (tail y) (tail x) z in
        rw (q, same_code y x q, get_or-set_same m.succ (tail x) (change b (head x) (row m x)) [] inside) (h (head y))
    | fail z ↦ let q = eqb-false (tail y) (tail x) z in
        rw (ne_eqb y x (λ k. q (ap tail k)), none, get_or-set_other m.succ (tail x) (tail y) (change b (head x) (row m x)) [] q)
  ])

  pub fewer : (y : ℕ) → count_at (turn_one false m x) y ≡ count_at m y - bit (eqb y x)
  unfolding change
  fewer = count_turn false (λ n b. n - bit b) (λ n. omega arith) (times_less (head x) (row m x) (f.once (tail x)) (f.positive (tail x)))

  pub more : (y : ℕ) → count_at (turn_one true m x) y ≡ count_at m y + bit (eqb y x)
  unfolding change
  more = count_turn true (λ n b. n + bit b) (λ n. omega arith) (λ y. times_more y (head x) (row m x))

  pub goes : turns false m x ≡ eqb (count_at m x) 1
  unfolding has_edge count_of
  goes = rw e (goes_row (head x) (row m x) (f.once (tail x)) (f.positive (tail x)))

  pub comes : turns true m x ≡ is_zero (count_at m x)
  unfolding has_edge count_of
  comes = rw (e, has_times (head x) (row m x) (f.positive (tail x))) (double (is_zero (times_in (head x) (row m x))))
    where
      double : (b : Bool) → not (not b) ≡ b
      double true = refl
      double false = refl

  -- ── the lists ──

  heads_turn : (b : Bool) → heads_of (turn_one b m x) ≡ set (heads_of m) (tail x) (map to_of (change b (head x) (row m x)))
  heads_turn b = rw (turn_succ b m x e) (map_set heads_in m.succ (tail x) (change b (head x) (row m x)))

  pub heads_out : heads_of (turn_one false m x) ≡ cond (eqb (count_at m x) 1) (alter vanish (heads_of m) (pair_of x)) (heads_of m)
  unfolding change count_of
  heads_out = heads_turn false ∙ rw (heads_less (head x) (row m x) (f.once (tail x)) (f.positive (tail x)), ← outs_row m (tail x))
      (elim (test (eqb (times_in (head x) (get_or m.succ (tail x) [])) 1)) [ pass z ↦ rw z | fail z ↦ rw z (set-get_or (heads_of m) (tail x) []) ])

  pub heads_into : heads_of (turn_one true m x) ≡ alter appear (heads_of m) (pair_of x)
  unfolding change
  heads_into = heads_turn true ∙ rw (more_heads (head x) (row m x), ← outs_row m (tail x))

  pub heads_there : memb (head x) (outs (heads_of m) (tail x)) ≡ not (is_zero (count_at m x))
  unfolding count_of
  heads_there = rw (outs_row m (tail x)) (has_times (head x) (row m x) (f.positive (tail x)))

  pub tails_there : memb (tail x) (outs m.pred (head x)) ≡ not (is_zero (count_at m x))
  tails_there = sym (f.linked (tail x) (head x) (tail_small x e) (head_small x)) ∙ heads_there

  pub tails_out : (turn_one false m x).pred ≡ cond (eqb (count_at m x) 1) (alter vanish m.pred (turned_of x)) m.pred
  tails_out = remove_pred m x e ∙ rw goes

  pub tails_into : (turn_one true m x).pred ≡ alter appear m.pred (turned_of x)
  unfolding add_edge
  tails_into = rw e

  -- ── what is kept ──

  all_rows : (P : List Edge → Type 0) (b : Bool) → P (change b (head x) (row m x)) → ((i : ℕ) → P (get_or m.succ i []))
      → (i : ℕ) → P (get_or (turn_one b m x).succ i [])
  all_rows P b h k i = rw (turn_succ b m x e) (set_cases P m.succ (tail x) i (change b (head x) (row m x)) inside (λ q. h) (λ q. k i))

  rows_stay : (b : Bool) → length (turn_one b m x).succ ≡ most_jobs
  rows_stay b = rw (turn_succ b m x e, length-set) f.rows

  pub keeps : (b : Bool) → Fit (turn_one b m x)
  unfolding change
  keeps true = record {
    rows = rows_stay true;
    once = all_rows (λ r. Once (map to_of r)) true (once_more (head x) (row m x) (f.once (tail x)) (f.positive (tail x))) f.once;
    positive = all_rows (λ r. AllPos (map times_of r)) true (more_pos (head x) (row m x) (f.positive (tail x))) f.positive;
    tails = rw tails_into (adds_tidy most_jobs (turned_of x ∷ []) m.pred (head_small x, tt) f.tails);
    linked = rw (heads_into, tails_into)
        (linked_appear (heads_of m) m.pred (pair_of x) (tail_small x e) (head_small x) (heads_tidy m f) f.tails f.linked);
  }
  keeps false = record {
    rows = rows_stay false;
    once = all_rows (λ r. Once (map to_of r)) false (once_less (head x) (row m x) (f.once (tail x)) (f.positive (tail x))) f.once;
    positive = all_rows (λ r. AllPos (map times_of r)) false (pos_less (head x) (row m x) (f.once (tail x)) (f.positive (tail x))) f.positive;
    tails = rw tails_out (elim (test (eqb (count_at m x) 1)) [
      | pass z ↦ rw z (drops_tidy most_jobs always (turned_of x ∷ []) m.pred (head_small x, tt) f.tails)
      | fail z ↦ rw z f.tails
    ]);
    linked = rw (heads_out, tails_out) (elim (test (eqb (count_at m x) 1)) [
      | pass z ↦ rw z (linked_vanish (heads_of m) m.pred (pair_of x) (tail_small x e) (head_small x) (heads_tidy m f) f.tails f.linked)
      | fail z ↦ rw z f.linked
    ]);
  }
