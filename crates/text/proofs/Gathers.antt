-- Fields one by one: what is read and what is left make the text, and no other numbers do. Assumes nothing.
use Prim.Native.Nat.{ℕ, ◌+◌, ◌-◌, ◌*◌, ◌^◌, ◌≤◌, ◌<◌}
use native.Mathlib.Omega.{arith}
use native.Mathlib.Numerals.{add-one}
use mathlib.Core.Path.{◌≡◌, refl, sym, ap, ◌∙◌}
use mathlib.Core.List.{List, [], ◌∷◌, ◌++◌, append-nil, append_assoc}
use borrow.Author.Rules.{rules}
use lib.ListN.{length, get_or, set, take, drop, length-append, length-drop, length-set, take-append-drop, drop_of_length-le}
use lib.Seq.{drop-cons, drop-drop, drop-set-lt, length-take-le, take-suc-set}
use Rattle.std.specs.Prelude.{Some, None}
use Rattle.text.specs.Grammar.{digits_of, fields_of, AllBelow}
use Rattle.text.specs.Reads.{is_digit, Stops, Reading, Reads, Unreadable, Fieldless, Fronts, none, more, Leaves, Gathers}
use Rattle.text.proofs.Runs.{head_is, tail_is, none_some, cut_same}
use Rattle.text.proofs.Decimals.{digits_every, digits_same, digits_some}

-- ── fields ──

pub fields_stop : (ns : List ℕ) → Stops is_digit (fields_of ns)
fields_stop [] = tt
fields_stop (x ∷ ns) = refl

pub fields_snoc : (ns : List ℕ) (x : ℕ) → fields_of (ns ++ (x ∷ [])) ≡ fields_of ns ++ (32 ∷ digits_of x)
fields_snoc [] x = ap (λ (l : List ℕ). 32 ∷ l) (append-nil (digits_of x))
fields_snoc (y ∷ ns) x =
    ap (λ (l : List ℕ). 32 ∷ l)
    (ap (λ (l : List ℕ). digits_of y ++ l) (fields_snoc ns x) ∙ sym (append_assoc (digits_of y) (fields_of ns) (32 ∷ digits_of x)))

below_snoc : (ns : List ℕ) (x : ℕ) → AllBelow ns → x < 2 ^ 64 → AllBelow (ns ++ (x ∷ []))
below_snoc [] x b h = (h, tt)
below_snoc (y ∷ ns) x (k, b) h = (k, below_snoc ns x b h)

-- one field of two texts
pub field_same : (x y : ℕ) {r s : List ℕ} → Stops is_digit r → Stops is_digit s → digits_of x ++ r ≡ digits_of y ++ s → (x ≡ y) × (r ≡ s)
field_same x y j k e =
    let (f, g) = cut_same is_digit (digits_of x) (digits_of y) (digits_every x) (digits_every y) j k e in
    (digits_same x y f, g)

pub fields_same : (a b : List ℕ) → fields_of a ≡ fields_of b → a ≡ b
fields_same [] [] e = refl
fields_same [] (y ∷ b) e = none_some e
fields_same (x ∷ a) [] e = none_some (sym e)
fields_same (x ∷ a) (y ∷ b) e =
    let (f, g) = field_same x y (fields_stop a) (fields_stop b) (tail_is e) in
    let h = fields_same a b g in
    cc

-- ── where no field stands ──

module _ (line : List ℕ) (i : ℕ) where
  fieldless_end : length line ≤ i → Fieldless (drop i line)
  fieldless_end h v rest b s e = none_some (sym (drop_of_length-le line h) ∙ e)

  module _ (h : i < length line) where
    fieldless_other : (get_or line i 0 ≡ 32 → ⊥) → Fieldless (drop i line)
    fieldless_other n v rest b s e = n (head_is (sym (drop-cons line i 0 h) ∙ e))

    after_space : {l : List ℕ} → drop i line ≡ 32 ∷ l → drop (i + 1) line ≡ l
    after_space e = rw add-one (tail_is (sym (drop-cons line i 0 h) ∙ e))

    fieldless_unread : Unreadable (drop (i + 1) line) → Fieldless (drop i line)
    fieldless_unread u v rest b s e = u v rest b s (after_space e)

-- ── what is left ──

-- from place i on stand the fields of some numbers
abbrev Rest : List ℕ → ℕ → Type 0
Rest line i = (ns : List ℕ) × AllBelow ns × (drop i line ≡ fields_of ns)

module _ (line : List ℕ) (i : ℕ) (h : i < length line) where
  rest_none : Fieldless (drop i line) → Rest line i → ⊥
  rest_none f ([], b, e) = none_some (sym e ∙ drop-cons line i 0 h)
  rest_none f (x ∷ ns, (k, b), e) = f x (fields_of ns) k (fields_stop ns) e

  rest_next : {d v : ℕ} → Reading (drop (i + 1) line) line d v → Rest line i → Rest line d
  rest_next R ([], b, e) = none_some (sym e ∙ drop-cons line i 0 h)
  rest_next {d} {v} R (x ∷ ns, (k, b), e) =
      let (f, g) = field_same v x R.stops (fields_stop ns) (sym R.text ∙ after_space line i h e) in
      (ns, b, g)

-- ── the loop ──

pub record Gathering (line out out' : List ℕ) (from i k : ℕ) : Type 0 where
  pub same : length out' ≡ length out
  pub within : k ≤ length out
  pub pace : from + 2 * k ≤ i
  pub text : drop from line ≡ fields_of (take k out') ++ drop i line
  pub below : AllBelow (take k out')
  pub beyond : drop k out' ≡ drop k out
  pub rest : Rest line from → Rest line i
  pub leads : (ns : List ℕ) → Fronts (drop i line) ns → Fronts (drop from line) (take k out' ++ ns)

pub gather_start : (line out : List ℕ) (from : ℕ) → Gathering line out out from from 0
gather_start line out from = record {
  same = refl;
  within = omega arith;
  pace = omega arith;
  text = refl;
  below = tt;
  beyond = refl;
  rest = λ r. r;
  leads = λ ns l. l;
}

module _ {line out out' : List ℕ} {from i k : ℕ} (G : Gathering line out out' from i k) where
  gather_leaves : Fieldless (drop i line) → Leaves (drop from line) out out'
  gather_leaves f =
      let s = G.same in
      let w = G.within in
      let l : length (take k out') ≡ k = length-take-le k out' (omega arith) in
      record {
        front = take k out';
        leads = rw append-nil at (G.leads [] (none f));
        is = sym (take-append-drop k out') ∙ rw (l, G.beyond);
      }

  pub gather_done : length line ≤ i → Gathers (drop from line) out out' (Some k)
  gather_done h = record {
    counts = record {
      same = G.same;
      within = G.within;
      text = G.text ∙ rw (drop_of_length-le line h) (append-nil (fields_of (take k out')));
      below = G.below;
      beyond = G.beyond;
    };
    leaves = gather_leaves (fieldless_end line i h);
  }

module _ {line out out' : List ℕ} {from i k : ℕ} (G : Gathering line out out' from i k) (h : i < length line) where
  bad : Fieldless (drop i line) → Gathers (drop from line) out out' None
  bad f = record { counts = λ ns b e. rest_none line i h f (G.rest (ns, b, e)); leaves = gather_leaves G f }

  pub gather_other : (get_or line i 0 ≡ 32 → ⊥) → Gathers (drop from line) out out' None
  gather_other n = bad (fieldless_other line i h n)

module _ {line out out' : List ℕ} {from i k : ℕ} (G : Gathering line out out' from i k) (h : i < length line) where
  pub gather_unread : Reads (drop (i + 1) line) line (i + 1) None → Gathers (drop from line) out out' None
  gather_unread u = bad G h (fieldless_unread line i h u)

  module _ {v e : ℕ} (F : Reads (drop (i + 1) line) line (i + 1) (Some (v, e))) where
    R : Reading (drop (i + 1) line) line e v
    R = F.1

    ahead : i + 2 ≤ e
    ahead =
        let l = simp (length-append, length-drop) at (ap length R.text) in
        let s = digits_some v in
        let w = R.within in
        omega arith

    pub gather_less : length line - e < length line - i
    gather_less = let a = ahead in omega arith

    module _ (room : length line ≤ from + 2 * length out + 1) where
      -- there is a place for its number
      pub gather_room : k < length out'
      gather_room =
          let s = G.same in
          let p = G.pace in
          let w = R.within in
          let a = ahead in
          omega arith

      pub gather_turn : get_or line i 0 ≡ 32 → Gathering line out (set out' k v) from e (k + 1)
      gather_turn q =
          let s = G.same in
          let p = G.pace in
          let a = ahead in
          let m = gather_room in
          let t : take (k + 1) (set out' k v) ≡ take k out' ++ (v ∷ []) = rw add-one (take-suc-set out' k v m) in
          let f : drop i line ≡ 32 ∷ digits_of v ++ drop e line = rw (drop-cons line i 0 h, q, ← add-one i, R.text) in
          record {
            same = length-set out' k v ∙ s;
            within = omega arith;
            pace = omega arith;
            text = G.text ∙ rw (f, t, fields_snoc, append_assoc);
            below = rw t (below_snoc (take k out') v G.below R.below);
            beyond = drop-set-lt (k + 1) out' k v (omega arith)
                ∙ sym (drop-drop 1 k out') ∙ ap (drop 1) G.beyond ∙ drop-drop 1 k out;
            rest = λ l. rest_next line i h R (G.rest l);
            leads = λ ns l. rw (t, append_assoc) (G.leads (v ∷ ns) (more R.below R.stops f l));
          }

pub ruleset gathers = (rules, gather_start, gather_done, gather_other, gather_unread, gather_less, gather_turn)
