-- Edges taken out and put in one by one: how often each is there, and the heads of those that vanish and appear. Assumes nothing.
use Rattle.std.proofs.Common.{◌≡◌, ℕ, zero, suc, ◌+◌, ◌-◌, ◌≤◌, Bool, true, false, cond, not, ◌&&◌, ◌||◌, eqb, List, [], ◌∷◌, ◌++◌, map, sym, refl, ap, ◌∙◌, append-nil, arith, eq-eqb, ne_eqb, eqb-true}
use Rattle.rules.specs.Lists.{memb, keep, is_zero}
use Rattle.rules.specs.Scores.{times_in}
use Rattle.rules.specs.Reports.{push}
use Rattle.rules.proofs.Ranges.{clash, pass, fail, test}
use Rattle.rules.proofs.Members.{memb_append}
use Rattle.edges.specs.Edges.{Model}
use Rattle.routes.specs.Stops.{bit}
use Rattle.routes.specs.Turning.{head, is_edge, turn_one, turns, turn_all, heads_all}
use Rattle.routes.proofs.Lists.{same_test, bit_one, in_first, in_rest, in_times, times_none, keep_passes}
use Rattle.routes.proofs.Lasts.{lasts}
use Rattle.routes.proofs.Fitting.{Fit, count_at, fewer, more, goes, comes, keeps}

abbrev pub AllEdges : List ℕ → Type 0
AllEdges l = (x : ℕ) → memb x l ≡ true → is_edge x ≡ true

-- a number that is no edge is passed over
pub passed : (b : Bool) (m : Model) (x : ℕ) → is_edge x ≡ false → turn_one b m x ≡ m
passed true m x e = rw e
passed false m x e = rw e

pub turn_fit : (b : Bool) (m : Model) (x : ℕ) → Fit m → Fit (turn_one b m x)
turn_fit b m x f = elim (test (is_edge x)) [ pass e ↦ keeps m f x e b | fail e ↦ rw (passed b m x e) f ]

pub all_fit : (b : Bool) (l : List ℕ) (m : Model) → Fit m → Fit (turn_all b m l)
unfolding turn_all
all_fit b [] m f = f
all_fit b (x ∷ l) m f = all_fit b l (turn_one b m x) (turn_fit b m x f)

-- ── edges taken out ──

pub taken_count : (l : List ℕ) (m : Model) → Fit m → (y : ℕ) → is_edge y ≡ true → count_at (turn_all false m l) y ≡ count_at m y - times_in y l
unfolding turn_all
taken_count [] m f y ey = omega arith
taken_count (x ∷ l) m f y ey = taken_count l (turn_one false m x) (turn_fit false m x f) y ey ∙ elim (test (is_edge x)) [
  | pass e ↦ omega (arith, fewer m f x e y)
  | fail e ↦ let n : eqb y x ≡ false = ne_eqb y x (λ k. clash ey (rw k e)) in rw (passed false m x e, n) (omega arith)
]

-- the edges of l can all be taken out, and c says which of them vanish
pub record Taken (m : Model) (l : List ℕ) (c : ℕ → Bool) : Type 0 where
  pub edges : AllEdges l
  pub enough : (x : ℕ) → memb x l ≡ true → times_in x l ≤ count_at m x
  pub last : (x : ℕ) → memb x l ≡ true → c x ≡ eqb (count_at m x) (times_in x l)

module _ {m : Model} {x : ℕ} {l : List ℕ} {c : ℕ → Bool} (f : Fit m) (t : Taken m (x ∷ l) c) where
  pub first_edge : is_edge x ≡ true
  first_edge = t.edges x (in_first x l)

  pub rest_taken : Taken (turn_one false m x) l c
  rest_taken = record {
    edges = λ y h. t.edges y (in_rest x y l h);
    enough = λ y h. let a = t.enough y (in_rest x y l h) in let b = fewer m f x first_edge y in omega arith;
    last = λ y h. let a = t.enough y (in_rest x y l h) in let b = fewer m f x first_edge y in
        t.last y (in_rest x y l h)
        ∙ same_test (count_at m y) (times_in y (x ∷ l)) (count_at (turn_one false m x) y) (times_in y l) (λ q. omega arith) (λ q. omega arith);
  }

  -- it vanishes now exactly if it stands nowhere behind, and c says so
  pub first_taken : eqb (count_at m x) 1 ≡ cond (memb x l) false (c x)
  first_taken = elim (test (memb x l)) [
    | pass h ↦ rw h (ne_eqb (count_at m x) 1
        (λ q. let a = t.enough x (in_first x l) in omega (arith, in_times x l h, bit_one (eq-eqb x x refl))))
    | fail h ↦ let one : times_in x (x ∷ l) ≡ 1 = rw (eq-eqb x x refl, times_none x l h) in
        rw h (sym (t.last x (in_first x l) ∙ ap (eqb (count_at m x)) one))
  ]

pub taken_heads : (l : List ℕ) (m : Model) (c : ℕ → Bool) → Fit m → Taken m l c → heads_all false m l ≡ map head (lasts (keep c l))
unfolding heads_all lasts
taken_heads [] m c f t = refl
taken_heads (x ∷ l) m c f t =
    let ih = taken_heads l (turn_one false m x) c (turn_fit false m x f) (rest_taken f t) in
    let now : turns false m x ≡ cond (memb x l) false (c x) = goes m f x (first_edge f t) ∙ first_taken f t in
    elim (test (memb x l)) [
      | pass z ↦ elim (test (c x)) [ pass w ↦ rw (now, z, w, keep_passes c x l w, z) ih | fail w ↦ rw (now, z, w) ih ]
      | fail z ↦ elim (test (c x)) [ pass w ↦ rw (now, z, w, keep_passes c x l w, z, ih) | fail w ↦ rw (now, z, w) ih ]
    ]

-- ── edges put in; q: those that are new since z was told ──

pub put_count : (l : List ℕ) (m : Model) → Fit m → (y : ℕ) → is_edge y ≡ true → count_at (turn_all true m l) y ≡ count_at m y + times_in y l
unfolding turn_all
put_count [] m f y ey = omega arith
put_count (x ∷ l) m f y ey = put_count l (turn_one true m x) (turn_fit true m x f) y ey ∙ elim (test (is_edge x)) [
  | pass e ↦ omega (arith, more m f x e y)
  | fail e ↦ let n : eqb y x ≡ false = ne_eqb y x (λ k. clash ey (rw k e)) in rw (passed true m x e, n) (omega arith)
]

pub record Since (m : Model) (z : ℕ → Bool) (q : List ℕ) : Type 0 where
  pub edges : (x : ℕ) → z x ≡ true → is_edge x ≡ true
  pub fresh : (x : ℕ) → is_edge x ≡ true → is_zero (count_at m x) ≡ z x && not (memb x q)

module _ {m : Model} {z : ℕ → Bool} {q : List ℕ} (f : Fit m) (s : Since m z q) (x : ℕ) (e : is_edge x ≡ true) where
  now_zero : (y : ℕ) → is_zero (count_at (turn_one true m x) y) ≡ is_zero (count_at m y) && not (eqb y x)
  now_zero y = ap is_zero (more m f x e y) ∙ zero_more (count_at m y) (eqb y x)
    where
      zero_more : (k : ℕ) (b : Bool) → is_zero (k + bit b) ≡ is_zero k && not b
      zero_more zero true = refl
      zero_more zero false = refl
      zero_more (suc k) b = let e : suc k + bit b ≡ suc (k + bit b) = omega arith in rw e

  -- another one that was there before stays there; a new one joins q
  since_old : z x && not (memb x q) ≡ false → Since (turn_one true m x) z q
  since_old sits = record {
    edges = s.edges;
    fresh = λ y ey. now_zero y ∙ rw (s.fresh y ey) (elim (test (eqb y x)) [
      | pass w ↦ rw (w, eqb-true y x w, sits)
      | fail w ↦ rw w (and_true (z y && not (memb y q)))
    ]);
  }
    where
      and_true : (a : Bool) → a && true ≡ a
      and_true true = refl
      and_true false = refl

  since_new : Since (turn_one true m x) z (q ++ x ∷ [])
  since_new = record {
    edges = s.edges;
    fresh = λ y ey. now_zero y ∙ rw (s.fresh y ey, memb_append y q (x ∷ [])) (go (z y) (memb y q) (eqb y x));
  }
    where
      go : (a b c : Bool) → (a && not b) && not c ≡ a && not (b || (c || false))
      go true true c = refl
      go true false true = refl
      go true false false = refl
      go false b c = refl

map_end : (q : List ℕ) (x : ℕ) (r : List ℕ) → map head (q ++ x ∷ []) ++ r ≡ map head q ++ head x ∷ r
map_end [] x r = refl
map_end (y ∷ q) x r = rw (map_end q x r)

pub put_heads : (l : List ℕ) (m : Model) (z : ℕ → Bool) (q : List ℕ) → Fit m → Since m z q
    → map head (push q (keep z l)) ≡ map head q ++ heads_all true m l
unfolding heads_all
put_heads [] m z q f s = sym (append-nil (map head q))
put_heads (x ∷ l) m z q f s = elim (test (is_edge x)) [
  | fail e ↦ elim (test (z x)) [
    | pass w ↦ clash (s.edges x w) e
    | fail w ↦ let n : turns true m x ≡ false = rw e in rw (w, n, passed true m x e) (put_heads l m z q f s)
  ]
  | pass e ↦
      let f' = turn_fit true m x f in
      let now : turns true m x ≡ z x && not (memb x q) = comes m f x e ∙ s.fresh x e in
      elim (test (z x)) [
        | fail w ↦ rw (now, w) (put_heads l (turn_one true m x) z q f' (since_old f s x e (rw w)))
        | pass w ↦ rw (now, w) (elim (test (memb x q)) [
          | pass k ↦ joins true k ∙ put_heads l (turn_one true m x) z q f' (since_old f s x e (rw (w, k))) ∙ rw k
          | fail k ↦ joins false k ∙ put_heads l (turn_one true m x) z (q ++ x ∷ []) f' (since_new f s x e)
              ∙ map_end q x (heads_all true (turn_one true m x) l) ∙ rw k
        ])
      ]
]
  where
    joins : (b : Bool) → memb x q ≡ b
        → map head (push (cond (memb x q) q (q ++ x ∷ [])) (keep z l)) ≡ map head (push (cond b q (q ++ x ∷ [])) (keep z l))
    joins b k = ap (λ (c : Bool). map head (push (cond c q (q ++ x ∷ [])) (keep z l))) k
