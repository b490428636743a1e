-- The loops of `differences`: what is left of the old edges, against what is left of the new ones, decides the rest. Assumes nothing.
use Rattle.std.proofs.Common.{◌≡◌, ℕ, ◌+◌, ◌-◌, ◌<◌, ◌≤◌, true, false, eqb, List, [], ◌++◌, length, get_or, take, drop, set, sym, refl, ◌∙◌, append_assoc, add-one, arith, length-take-le, take-suc, drop-drop, take_at, rules, eq-eqb, ne_eqb}
use lib.Seq.{set_split, drop-append-add}
use Rattle.rules.specs.Lists.{memb}
use Rattle.routes.specs.Differs.{struck, strike, seat, gone_of, left_of, Differed}
use Rattle.words.proofs.Rows.{row_cons, row_none}
use Rattle.routes.proofs.Seating.{seat_length}

-- ── the search for x, which has passed j of the new edges ──

pub record Searching (new : List ℕ) (x j : ℕ) : Type 0 where
  pub rest : memb x new ≡ memb x (drop j new)
  pub front : take j new ++ strike x (drop j new) ≡ strike x new

pub searching_none : (new : List ℕ) (x : ℕ) → Searching new x 0
searching_none new x = record { rest = refl; front = refl }

module _ {new : List ℕ} {x j : ℕ} (s : Searching new x j) where
  pub searching_on : {new₁ : List ℕ} → new₁ ≡ new → (get_or new₁ j 0 ≡ x → ⊥) → j < length new₁ → Searching new x (j + 1)
  unfolding strike
  searching_on {new₁} e q h₁ =
      let h : j < length new = rw e at h₁ in
      let n : eqb x (get_or new j 0) ≡ false = ne_eqb x (get_or new j 0) (λ p. q (rw e (sym p))) in
      record {
        rest = s.rest ∙ rw (row_cons new j h, n);
        front = rw (add-one j, take-suc new j 0 h, append_assoc, ← add-one j) (sym (rw (row_cons new j h, n)) ∙ s.front);
      }

  found : get_or new j 0 ≡ x → j < length new → memb x new ≡ true
  found q h = s.rest ∙ rw (row_cons new j h, eq-eqb x (get_or new j 0) (sym q))

  struck_out : get_or new j 0 ≡ x → j < length new → set new j struck ≡ strike x new
  unfolding strike
  struck_out q h = set_split new j struck h ∙ rw (← add-one j) (sym (rw (row_cons new j h, eq-eqb x (get_or new j 0) (sym q))) ∙ s.front)

  missing : length new ≤ j → memb x new ≡ false
  missing h = s.rest ∙ rw (row_none new j h)

-- ── i of the old edges are passed, and g of them have no equal one ──

pub record Matching (old₀ new₀ old new : List ℕ) (g i : ℕ) : Type 0 where
  pub few : g ≤ i
  pub out : gone_of (drop i old) new (take g old) ≡ gone_of old₀ new₀ []
  pub left : left_of (drop i old) new ≡ left_of old₀ new₀

pub matching_none : (old new : List ℕ) → Matching old new old new 0 0
matching_none old new = record { few = omega arith; out = refl; left = refl }

module _ {old₀ new₀ old new : List ℕ} {g i : ℕ} (k : Matching old₀ new₀ old new g i) {j : ℕ} (s : Searching new (get_or old i 0) j)
    {new₁ : List ℕ} (e : new₁ ≡ new) where
  pub matching_hit : get_or new₁ j 0 ≡ get_or old i 0 → i < length old → j < length new₁ → Matching old₀ new₀ old (set new₁ j struck) g (i + 1)
  unfolding gone_of left_of
  matching_hit q₁ h l₁ =
      let q : get_or new j 0 ≡ get_or old i 0 = rw e at q₁ in
      let l : j < length new = rw e at l₁ in
      let f = k.few in
      record {
        few = omega arith;
        out = rw (e, struck_out s q l) (sym (rw (row_cons old i h, found s q l)) ∙ k.out);
        left = rw (e, struck_out s q l) (sym (rw (row_cons old i h, found s q l)) ∙ k.left);
      }

  module _ {old₁ : List ℕ} (d : old₁ ≡ seat (get_or old i 0) (take g old) ++ drop (g + 1) old) (h : i < length old) (l₁ : length new₁ ≤ j) where
    size : length (seat (get_or old i 0) (take g old)) ≡ g + 1
    size = let f = k.few in let t = length-take-le g old (omega arith) in seat_length (get_or old i 0) (take g old) ∙ omega arith

    later : drop (i + 1) old₁ ≡ drop (i + 1) old
    later =
        let f = k.few in
        let z : i + 1 ≡ length (seat (get_or old i 0) (take g old)) + (i - g) = (let t = size in omega arith) in
        let y : i + 1 ≡ g + 1 + (i - g) = omega arith in
        rw (d, z, drop-append-add, drop-drop, ← y, ← z)

    pub matching_miss : Matching old₀ new₀ old₁ new₁ (g + 1) (i + 1)
    unfolding gone_of left_of
    matching_miss =
        let no = missing s (rw e at l₁) in
        let f = k.few in
        record {
          few = omega arith;
          out = rw (e, later, d, take_at (seat (get_or old i 0) (take g old)) (drop (g + 1) old) (g + 1) size)
              (sym (rw (row_cons old i h, no)) ∙ k.out);
          left = rw (e, later) (sym (rw (row_cons old i h, no)) ∙ k.left);
        }

pub matching_done : {old₀ new₀ old new : List ℕ} {g i : ℕ} → Matching old₀ new₀ old new g i → i ≤ length old₀ → length new ≡ length new₀
    → length old ≤ i → Differed old₀ new₀ old new g
unfolding gone_of left_of
matching_done {old = old} {i = i} k a s b = let f = k.few in record {
  gone = sym (rw (row_none old i b)) ∙ k.out;
  left = sym (rw (row_none old i b)) ∙ k.left;
  few = omega arith;
  size = s;
}

pub ruleset matching = (rules, searching_none, searching_on, matching_none, matching_hit, matching_miss, matching_done)
