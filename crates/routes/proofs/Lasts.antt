-- Each number of a list once, by its last place: with equals seated together that is by the first. Assumes nothing.
use Rattle.std.proofs.Common.{◌≡◌, ℕ, Bool, true, false, cond, ◌||◌, eqb, List, [], ◌∷◌, ◌++◌, refl, ◌∙◌, eqb-true}
use Rattle.rules.specs.Lists.{memb}
use Rattle.rules.specs.Reports.{push}
use Rattle.rules.proofs.Ranges.{pass, fail, test}
use Rattle.routes.specs.Differs.{seat, seat_all}
use Rattle.routes.proofs.Lists.{swap_eqb}

unfoldable pub lasts : List ℕ → List ℕ
lasts [] = []
lasts (x ∷ l) = cond (memb x l) (lasts l) (x ∷ lasts l)

pub memb_seat : (y x : ℕ) (l : List ℕ) → memb y (seat x l) ≡ (eqb y x || memb y l)
unfolding seat
memb_seat y x [] = refl
memb_seat y x (w ∷ l) = elim (test (eqb w x)) [ pass z ↦ rw z | fail z ↦ rw (z, memb_seat y x l) (swap (eqb y w) (eqb y x) (memb y l)) ]
  where
    swap : (a b c : Bool) → a || (b || c) ≡ b || (a || c)
    swap true true c = refl
    swap true false c = refl
    swap false b c = refl

memb_lasts : (y : ℕ) (l : List ℕ) → memb y (lasts l) ≡ memb y l
unfolding lasts
memb_lasts y [] = refl
memb_lasts y (x ∷ l) = elim (test (memb x l)) [
  | pass z ↦ elim (test (eqb y x)) [ pass w ↦ rw (z, w, memb_lasts y l) (rw (eqb-true y x w) z) | fail w ↦ rw (z, w) (memb_lasts y l) ]
  | fail z ↦ rw (z, memb_lasts y l)
]

lasts_seat : (x : ℕ) (l : List ℕ) → lasts (seat x l) ≡ cond (memb x l) (lasts l) (lasts l ++ x ∷ [])
unfolding lasts seat
lasts_seat x [] = refl
lasts_seat x (y ∷ l) = elim (test (eqb y x)) [
  | pass z ↦ rw (z, swap_eqb x y, z)
  | fail z ↦ rw (z, swap_eqb x y, z, memb_seat y x l, z, lasts_seat x l) (two (memb y l) (memb x l))
]
  where
    two : (a b : Bool) → cond a (cond b (lasts l) (lasts l ++ x ∷ [])) (y ∷ cond b (lasts l) (lasts l ++ x ∷ []))
        ≡ cond b (cond a (lasts l) (y ∷ lasts l)) (cond a (lasts l) (y ∷ lasts l) ++ x ∷ [])
    two true true = refl
    two true false = refl
    two false true = refl
    two false false = refl

pub lasts_seats : (g k : List ℕ) → lasts (seat_all g k) ≡ push (lasts g) k
unfolding seat_all
lasts_seats g [] = refl
lasts_seats g (x ∷ k) = lasts_seats (seat x g) k ∙ rw (lasts_seat x g, memb_lasts x g)
