-- The common front and back of two routes: `same_front` and `same_back`, and the middle that differs as the whole does. Assumes nothing.
use Rattle.std.proofs.Common.{◌≡◌, ℕ, ◌+◌, ◌-◌, ◌≤◌, Bool, true, false, eqb, ◌==◌, List, [], ◌∷◌, ◌++◌, length, take, drop, reverse, sym, refl, ap, ◌∙◌, append-nil, arith, length-drop, take-append-drop, take_at, drop-drop, eqb-true}
use Rattle.std.specs.List.{zip}
use Rattle.std.proofs.lemmas.List.Sums.{take_while-cons}
use Rattle.std.proofs.lemmas.List.{length-reverse, reverse-append, reverse-reverse, take_rest}
use Rattle.rules.specs.Lists.{memb, keep}
use Rattle.rules.proofs.Ranges.{pass, fail, test}
use Rattle.rules.proofs.Members.{memb_append, or_false}
use Rattle.routes.specs.Differs.{SameFront, SameBack, alike, seat_all, Differs}
use Rattle.routes.proofs.Lists.{times_append, keep_append, keep_none}

-- ── how many at the front are the same, or at the back ──

abbrev equal : ℕ × ℕ → Bool
equal p = p.0 == p.1

front_none : (old new : List ℕ) → SameFront old new 0
front_none old new = record { in_old = omega arith; in_new = omega arith; same = refl }

front_is : (old new : List ℕ) → SameFront old new (alike old new)
front_is [] new = front_none [] new
front_is (x ∷ old) [] = front_none (x ∷ old) []
front_is (x ∷ old) (y ∷ new) = elim (test (eqb x y)) [
  | pass h ↦ let s = front_is old new in rw (take_while-cons equal (x, y) (zip old new), h) (record {
    in_old = let a = s.in_old in omega arith;
    in_new = let a = s.in_new in omega arith;
    same = rw (eqb-true x y h) (ap (λ (l : List ℕ). y ∷ l) s.same);
  })
  | fail h ↦ rw (take_while-cons equal (x, y) (zip old new), h) (front_none (x ∷ old) (y ∷ new))
]

pub front_of : (old new : List ℕ) (f : ℕ) → f ≡ alike old new → SameFront old new f
front_of old new f q = rw q (front_is old new)

-- the last r, from the back
last_few : (r : ℕ) (l : List ℕ) → r ≤ length l → reverse (take r (reverse l)) ≡ drop (length l - r) l
last_few r l h =
    let n : ℕ = length l - r in
    let k : length (reverse (drop n l)) ≡ r = length-reverse (drop n l) ∙ length-drop n l ∙ omega arith in
    ap (λ (x : List ℕ). reverse (take r (reverse x))) (sym (take-append-drop n l))
    ∙ rw (reverse-append (take n l) (drop n l), take_at (reverse (drop n l)) (reverse (take n l)) r k, reverse-reverse (drop n l))

back_is : (old new : List ℕ) (f : ℕ) → f ≤ length old → f ≤ length new
    → SameBack old new f (alike (reverse (drop f old)) (reverse (drop f new)))
back_is old new f h k =
    let s = front_is (reverse (drop f old)) (reverse (drop f new)) in
    let r : ℕ = alike (reverse (drop f old)) (reverse (drop f new)) in
    let a : r ≤ length old - f = (let z = s.in_old in omega (arith, length-reverse (drop f old), length-drop f old)) in
    let b : r ≤ length new - f = (let z = s.in_new in omega (arith, length-reverse (drop f new), length-drop f new)) in
    record { in_old = a; in_new = b; same = sym (end old h a) ∙ ap reverse s.same ∙ end new k b }
  where
    end : {r : ℕ} (l : List ℕ) → f ≤ length l → r ≤ length l - f → reverse (take r (reverse (drop f l))) ≡ drop (length l - r) l
    end {r} l h a =
        let e : f + (length (drop f l) - r) ≡ length l - r = omega (arith, length-drop f l) in
        last_few r (drop f l) (omega (arith, length-drop f l)) ∙ drop-drop (length (drop f l) - r) f l ∙ ap (λ (n : ℕ). drop n l) e

pub back_of : (old new : List ℕ) (f b : ℕ) → f ≤ length old → f ≤ length new
    → b ≡ alike (reverse (take (length old - f) (drop f old))) (reverse (take (length new - f) (drop f new))) → SameBack old new f b
back_of old new f b h k q = rw (q, take_rest old f, take_rest new f) (back_is old new f h k)

-- ── the middle ──

module _ (f s old new gone left : List ℕ) (d : Differs old new gone left) where
  -- who is in none of it
  parts : (l : List ℕ) (e : ℕ) → memb e (f ++ (l ++ s)) ≡ false → (memb e f ≡ false) × (memb e l ≡ false) × (memb e s ≡ false)
  parts l e h =
      let a = or_false {a = memb e f} (sym (memb_append e f (l ++ s)) ∙ h) in
      let b = or_false {a = memb e l} (sym (memb_append e l s) ∙ a.1) in
      (a.0, b.0, b.1)

  keep_inner : (p : ℕ → Bool) (l k : List ℕ) → ((e : ℕ) → p e ≡ true → memb e (f ++ (k ++ s)) ≡ false)
      → keep p (f ++ (l ++ s)) ≡ keep p l
  keep_inner p l k g =
      rw (keep_append p f (l ++ s), keep_none p f (λ e h. (parts k e (g e h)).0), keep_append p l s, keep_none p s (λ e h. (parts k e (g e h)).2))
      (append-nil (keep p l))

  -- a common front and back make no difference
  trimmed : Differs (f ++ (old ++ s)) (f ++ (new ++ s)) gone left
  trimmed = record {
    goes = λ e q. d.goes e q ∙ simp times_append (omega arith);
    comes = λ e q. d.comes e q ∙ simp times_append (omega arith);
    first_gone = λ p q g. d.first_gone p q (λ e h. (parts new e (g e h)).1) ∙ ap (seat_all []) (sym (keep_inner p old new g));
    first_left = λ p q g. d.first_left p q (λ e h. (parts old e (g e h)).1) ∙ sym (keep_inner p new old g);
  }

-- what is left of l without the first f and the last b
abbrev pub between : ℕ → ℕ → List ℕ → List ℕ
between f b l = take (length l - b - f) (drop f l)

pub parts_of_lem : (f b : ℕ) (l : List ℕ) → f ≤ length l → b ≤ length l - f → take f l ++ (between f b l ++ drop (length l - b) l) ≡ l
parts_of_lem f b l k h =
    let e : f + (length l - b - f) ≡ length l - b = omega arith in
    rw (← e, ← drop-drop (length l - b - f) f l, e, take-append-drop (length l - b - f) (drop f l)) (take-append-drop f l)

pub middle : {old new : List ℕ} {f b : ℕ} → SameFront old new f → SameBack old new f b → {gone left : List ℕ}
    → Differs (between f b old) (between f b new) gone left → Differs old new gone left
middle {old} {new} {f} {b} s t {gone} {left} d =
    rw (parts_of_lem f b old s.in_old t.in_old, s.same, t.same, parts_of_lem f b new s.in_new t.in_new) at
    (trimmed (take f old) (drop (length old - b) old) (between f b old) (between f b new) gone left d)
