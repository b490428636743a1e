-- One row of the edges: what one less does to counts and heads. Assumes nothing.
use Rattle.std.proofs.Common.{◌≡◌, ℕ, zero, suc, ◌+◌, ◌-◌, ◌<◌, true, false, cond, not, ◌&&◌, ◌||◌, eqb, ltb, List, [], ◌∷◌, map, sym, refl, ap, ◌∙◌, arith, ltb-false, ltb-true, lt-ltb, eq-eqb, ne_eqb, eqb-true}
use borrow.Author.Tests.{eqb-false}
use Rattle.rules.specs.Lists.{memb, is_zero, Once}
use Rattle.rules.specs.Routes.{vanish}
use Rattle.rules.proofs.Ranges.{clash, pass, fail, test}
use Rattle.rules.proofs.Members.{or_false}
use Rattle.rules.proofs.Stored.{vanish_self, vanish_once, appear_once}
use Rattle.edges.specs.Edges.{Edge, to_of, times_of, AllPos, times_in, more_in, fewer_in, without, rot, second}
use Rattle.edges.proofs.Row.{times_none, more_heads, more_times, fewer_heads, fewer_pos, without_heads, without_pos}
use Rattle.routes.specs.Stops.{bit}
use Rattle.routes.proofs.Lists.{swap_eqb, zero_true, zero_false}

pub has_times : (x : ℕ) (row : List Edge) → AllPos (map times_of row) → memb x (map to_of row) ≡ not (is_zero (times_in x row))
unfolding times_in AllPos
has_times x [] h = refl
has_times x (d ∷ l) (a, h) = elim (test (eqb x d.to)) [ pass z ↦ rw z (pos d.times a) | fail z ↦ rw z (has_times x l h) ]
  where
    pos : (k : ℕ) → 0 < k → true ≡ not (is_zero k)
    pos zero q = absurd (omega arith)
    pos (suc k) q = refl

pub times_more : (y x : ℕ) (row : List Edge) → times_in y (more_in x row) ≡ times_in y row + bit (eqb y x)
times_more y x row = more_times y x row ∙ elim (test (eqb y x)) [ pass z ↦ rw z (omega arith) | fail z ↦ rw z (omega arith) ]

-- ── one less, of several ──

times_fewer : (y x : ℕ) (row : List Edge) → times_in y (fewer_in x row) ≡ times_in y row - bit (eqb y x)
unfolding times_in fewer_in
times_fewer y x [] = omega arith
times_fewer y x (d ∷ l) = elim (test (eqb x d.to)) [
  | pass z ↦ rw (z, eqb-true x d.to z) (elim (test (eqb y d.to)) [ pass w ↦ rw w | fail w ↦ rw w (omega arith) ])
  | fail z ↦ elim (test (eqb y d.to)) [
    | pass w ↦ rw (z, w, eqb-true y d.to w, swap_eqb d.to x, z) (omega arith)
    | fail w ↦ rw (z, w) (times_fewer y x l)
  ]
]

-- ── the last one ──

times_second : (y : ℕ) (d : Edge) (l : List Edge) → memb d.to (map to_of l) ≡ false → times_in y (second d l) ≡ times_in y (d ∷ l)
unfolding times_in second
times_second y d [] h = refl
times_second y d (z ∷ l) h = elim (test (eqb y z.to)) [
  | pass a ↦ elim (test (eqb y d.to)) [
    | pass b ↦ clash (eq-eqb d.to z.to (sym (eqb-true y d.to b) ∙ eqb-true y z.to a)) (or_false {a = eqb d.to z.to} h).0
    | fail b ↦ rw (a, b)
  ]
  | fail a ↦ rw a
]

times_rot : (y : ℕ) (l : List Edge) → Once (map to_of l) → times_in y (rot l) ≡ times_in y l
unfolding rot second times_in
times_rot y [] o = refl
times_rot y (d ∷ l) (a, o) = times_second y d (rot l) (rot_in d.to l ∙ a) ∙ ap (cond (eqb y d.to) d.times) (times_rot y l o)
  where
    second_in : (x : ℕ) (d : Edge) (l : List Edge) → memb x (map to_of (second d l)) ≡ memb x (map to_of (d ∷ l))
    second_in x d [] = refl
    second_in x d (z ∷ l) = elim (test (eqb x z.to)) [
      | pass a ↦ elim (test (eqb x d.to)) [ pass b ↦ rw (a, b) | fail b ↦ rw (a, b) ]
      | fail a ↦ rw a
    ]

    rot_in : (x : ℕ) (l : List Edge) → memb x (map to_of (rot l)) ≡ memb x (map to_of l)
    rot_in x [] = refl
    rot_in x (d ∷ l) = second_in x d (rot l) ∙ ap (◌||◌ (eqb x d.to)) (rot_in x l)

times_without : (y x : ℕ) (row : List Edge) → Once (map to_of row) → (y ≡ x → ⊥) → times_in y (without x row) ≡ times_in y row
unfolding without times_in
times_without y x [] o q = refl
times_without y x (d ∷ l) (a, o) q = elim (test (eqb x d.to)) [
  | pass z ↦ rw (z, ne_eqb y d.to (λ k. q (k ∙ sym (eqb-true x d.to z)))) (times_rot y l o)
  | fail z ↦ rw (z, times_without y x l o q)
]

-- ── one less ──

unfoldable pub less_row : ℕ → List Edge → List Edge
less_row x row = cond (memb x (map to_of row)) (cond (ltb 1 (times_in x row)) (fewer_in x row) (without x row)) row

data Kind (x : ℕ) (row : List Edge) : Type 0 where
  absent : times_in x row ≡ 0 → less_row x row ≡ row → Kind x row
  single : times_in x row ≡ 1 → less_row x row ≡ without x row → Kind x row
  several : 1 < times_in x row → less_row x row ≡ fewer_in x row → Kind x row

kind : (x : ℕ) (row : List Edge) → AllPos (map times_of row) → Kind x row
unfolding less_row
kind x row h = elim (test (is_zero (times_in x row))) [
  | pass z ↦ absent (zero_true _ z) (rw (has_times x row h, z))
  | fail z ↦ elim (test (ltb 1 (times_in x row))) [
    | pass w ↦ several (ltb-true 1 (times_in x row) w) (rw (has_times x row h, z, w))
    | fail w ↦ single (omega (arith, ltb-false 1 (times_in x row) w, zero_false (times_in x row) z)) (rw (has_times x row h, z, w))
  ]
]

module _ (x : ℕ) (row : List Edge) (once : Once (map to_of row)) (pos : AllPos (map times_of row)) where
  pub times_less : (y : ℕ) → times_in y (less_row x row) ≡ times_in y row - bit (eqb y x)
  times_less y = elim (kind x row pos) [
    | absent t e ↦ elim (test (eqb y x)) [ pass z ↦ rw (e, z, eqb-true y x z, t) | fail z ↦ rw (e, z) (omega arith) ]
    | several t e ↦ rw e (times_fewer y x row)
    | single t e ↦ elim (test (eqb y x)) [
      | pass z ↦ rw (e, z, eqb-true y x z, t) (times_none x (without x row) (rw (without_heads x row) (vanish_self x (map to_of row) once)))
      | fail z ↦ rw (e, z) (times_without y x row once (eqb-false y x z) ∙ omega arith)
    ]
  ]

  pub heads_less : map to_of (less_row x row) ≡ cond (eqb (times_in x row) 1) (vanish x (map to_of row)) (map to_of row)
  heads_less = elim (kind x row pos) [
    | absent t e ↦ rw (e, t)
    | single t e ↦ rw (e, t) (without_heads x row)
    | several t e ↦ rw (e, ne_eqb (times_in x row) 1 (λ q. omega arith)) (fewer_heads x row)
  ]

  pub once_less : Once (map to_of (less_row x row))
  once_less = rw heads_less (elim (test (eqb (times_in x row) 1)) [ pass z ↦ rw z (vanish_once x (map to_of row) once) | fail z ↦ rw z once ])

  pub pos_less : AllPos (map times_of (less_row x row))
  pos_less = elim (kind x row pos) [
    | absent t e ↦ rw e pos
    | single t e ↦ rw e (without_pos x row pos)
    | several t e ↦ rw e (fewer_pos x row t pos)
  ]

  pub once_more : Once (map to_of (more_in x row))
  once_more = rw (more_heads x row) (appear_once x (map to_of row) once)

  -- it vanishes exactly if it is there once
  pub goes_row : (memb x (map to_of row) && not (ltb 1 (times_in x row))) ≡ eqb (times_in x row) 1
  goes_row = rw (has_times x row pos) (go (times_in x row))
    where
      go : (k : ℕ) → not (is_zero k) && not (ltb 1 k) ≡ eqb k 1
      go zero = refl
      go (suc zero) = refl
      go (suc (suc k)) = rw (lt-ltb 1 (suc (suc k)) (omega arith), ne_eqb (suc (suc k)) 1 (λ q. omega arith))
