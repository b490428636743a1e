-- `exchange_part` and `exchange_links` from their parts: the difference that is found is taken out and put in. Assumes nothing.
use Rattle.std.proofs.Common.{◌≡◌, ℕ, ◌+◌, ◌-◌, ◌≤◌, Bool, true, false, cond, ◌||◌, eqb, ◌⊎◌, List, [], ◌∷◌, length, take, drop, sym, refl, ap, ◌∙◌, inl, inr, ⊎_elim, zero-add, arith, length-take, rules, Result, Ok, Err}
use Rattle.std.specs.Result.{IsErr}
use Rattle.rules.specs.Lists.{memb}
use Rattle.rules.proofs.Ranges.{clash, Test, pass, fail, test}
use Rattle.rules.proofs.Members.{memb_append, or-true}
use Rattle.edges.specs.Edges.{Model}
use Rattle.rules.specs.declared.Senseless.{Senseless}
use Rattle.routes.specs.Differs.{gone_of, strike, seat, Differed, Differs, SameFront, SameBack}
use Rattle.routes.specs.Turning.{turn_one, ReadyAll, Turns, From, Parts}
use Rattle.routes.proofs.Differing.{differs}
use Rattle.routes.proofs.Lasts.{memb_seat}
use Rattle.routes.proofs.Common.{between, parts_of_lem, middle}
use Rattle.routes.proofs.Sweeping.{err_never, ok_same, never_ok}

-- what goes was in the old route
gone_from : (x : ℕ) (old new gone : List ℕ) → memb x (gone_of old new gone) ≡ true → (memb x old ≡ true) ⊎ (memb x gone ≡ true)
unfolding gone_of
gone_from x [] new gone h = inr h
gone_from x (y ∷ old) new gone h = go (test (memb y new)) (gone_from x old (strike y new) gone) (gone_from x old new (seat y gone)) h
  where
    later : (a b : Bool) → b ≡ true → a || b ≡ true
    later true b e = refl
    later false b e = e

    seated : memb x (seat y gone) ≡ true → (eqb x y || memb x old ≡ true) ⊎ (memb x gone ≡ true)
    seated q = ⊎_elim (λ w. inl (rw w)) (λ w. inr w) (or-true {a = eqb x y} (sym (memb_seat x y gone) ∙ q))

    go : Test (memb y new)
        → (memb x (gone_of old (strike y new) gone) ≡ true → (memb x old ≡ true) ⊎ (memb x gone ≡ true))
        → (memb x (gone_of old new (seat y gone)) ≡ true → (memb x old ≡ true) ⊎ (memb x (seat y gone) ≡ true))
        → memb x (cond (memb y new) (gone_of old (strike y new) gone) (gone_of old new (seat y gone))) ≡ true
        → (eqb x y || memb x old ≡ true) ⊎ (memb x gone ≡ true)
    go (pass z) ih ih₂ h = ⊎_elim (λ q. inl (later (eqb x y) (memb x old) q)) (λ q. inr q) (ih (rw z at h))
    go (fail z) ih ih₂ h = ⊎_elim (λ q. inl (later (eqb x y) (memb x old) q)) seated (ih₂ (rw z at h))

ready_out : (l : List ℕ) (m : Model) → ReadyAll false m l
unfolding ReadyAll
ready_out [] m = tt
ready_out (x ∷ l) m = (tt, ready_out l (turn_one false m x))

pub done_both : {a b c d : ℕ} → ◌≡◌ {A = Result (ℕ × ℕ) Senseless} (Ok (a, b)) (Ok (c, d)) → (a ≡ c) × (b ≡ d)
done_both q = (ap (λ (x : ℕ × ℕ). x.0) (ok_same q), ap (λ (x : ℕ × ℕ). x.1) (ok_same q))

-- ── the difference that was found ──

module _ {old new old' new' : List ℕ} {g : ℕ} (d : Differed old new old' new' g) {e e₁ went₁ : List ℕ} {r₁ : Result ℕ Senseless}
    (T : Turns false (take g old') e e₁ went₁ r₁) where
  pub part_unswept : {came : List ℕ} {z : Senseless} (r : Result (ℕ × ℕ) Senseless) → r₁ ≡ Err z → IsErr r
      → Parts old new e e₁ went₁ came r
  part_unswept r q k = record {
    short = λ h c z. err_never k z;
    is = λ m H R. never_ok (sym q ∙ (T.is m H (ready_out _ m)).upto);
  }

  differs_here : Differs old new (take g old') new'
  differs_here = rw (d.gone, d.left) (differs old new)

  from_old : From (take g old') old
  from_old x k = ⊎_elim (λ z. z) (λ z. clash z refl) (gone_from x old new [] (rw d.gone at k))

  module _ {e₂ came₁ : List ℕ} {r₂ : Result ℕ Senseless} (U : Turns true new' e₁ e₂ came₁ r₂) where
    pub part_unput : {z : Senseless} (r : Result (ℕ × ℕ) Senseless) → r₂ ≡ Err z → IsErr r
        → Parts old new e e₂ went₁ came₁ r
    part_unput r q k = record {
      short = λ h c z. err_never k z;
      is = λ m H R. never_ok (sym q ∙ (U.is _ (T.is m H (ready_out _ m)).holds (R (take g old') new' differs_here from_old)).upto);
    }

    pub part_done : {h c : ℕ} → r₁ ≡ Ok h → r₂ ≡ Ok c → Parts old new e e₂ went₁ came₁ (Ok (h, c))
    part_done {h} {c} q₁ q₂ = record {
      short = λ i j z.
          let (a, b) = done_both z in
          let f = d.few in
          let s = d.size in
          let t = T.short h q₁ in
          let u = U.short c q₂ in
          (omega (arith, length-take g old'), omega arith);
      is = λ m H R.
          let t = T.is m H (ready_out _ m) in
          let u = U.is _ t.holds (R (take g old') new' differs_here from_old) in
          let a = ok_same (sym q₁ ∙ t.upto) in
          let b = ok_same (sym q₂ ∙ u.upto) in
          record {
            gone = take g old';
            left = new';
            differs = differs_here;
            from = from_old;
            holds = u.holds;
            answer = rw (a, b);
            went_listed = t.listed;
            came_listed = u.listed;
          };
    }

pub part_room : {old new old' new' : List ℕ} {g : ℕ} → Differed old new old' new' g → (n : ℕ) → length old ≤ n → length (take g old') ≤ n
part_room {old' = old'} {g = g} d n h = let f = d.few in omega (arith, length-take g old')

pub ruleset swapping = (rules, part_room, part_unswept, part_unput, part_done)

-- ── the front and the back that are shared ──

module _ {old new : List ℕ} {f b : ℕ} (front : SameFront old new f) (back : SameBack old new f b) where
  inside : (x : ℕ) → memb x (between f b old) ≡ true → memb x old ≡ true
  inside x h =
      ap (memb x) (sym (parts_of_lem f b old front.in_old back.in_old))
      ∙ rw (memb_append, memb_append, h) (or_last (memb x (take f old)))
    where
      or_last : (a : Bool) → a || true ≡ true
      or_last true = refl
      or_last false = refl

  pub links_done : {e e₂ went₁ came₁ : List ℕ} {r : Result (ℕ × ℕ) Senseless}
      → Parts (between f b old) (between f b new) e e₂ went₁ came₁ r → Parts old new e e₂ went₁ came₁ r
  links_done P = record {
    short = λ h c q.
        let (x, y) = P.short h c q in
        (omega (arith, length-take (length old - b - f) (drop f old)), omega (arith, length-take (length new - b - f) (drop f new)));
    is = λ m H R. let p = P.is m H (λ gone left d k. R gone left (middle front back d) (λ x z. inside x (k x z))) in record {
      gone = p.gone;
      left = p.left;
      differs = middle front back p.differs;
      from = λ x h. inside x (p.from x h);
      holds = p.holds;
      answer = p.answer;
      went_listed = p.went_listed;
      came_listed = p.came_listed;
    };
  }
