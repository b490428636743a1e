-- The search for a byte: what is passed holds none. Assumes nothing.
use Prim.Native.Nat.{ℕ, suc, ◌+◌, ◌-◌, ◌≤◌, ◌<◌}
use native.Mathlib.Omega.{arith}
use mathlib.Core.Path.{◌≡◌, refl, sym, ap, ◌∙◌}
use mathlib.Core.Bool.{false, not}
use mathlib.Core.List.{List, ◌++◌}
use borrow.Author.Rules.{rules}
use borrow.Author.Tests.{eq-eqb, ne_eqb}
use lib.ListN.{length, get_or, take, drop, length-take, length-drop, take-append-drop}
use lib.Seq.{drop-cons, drop-drop, take-suc, take_all, get_or-drop}
use Rattle.std.specs.Prelude.{Some, None}
use Rattle.text.specs.Reads.{other, Every, Ends}
use Rattle.text.proofs.Runs.{every_append}

pub other_self : (x : ℕ) → other x x ≡ false
other_self x = ap not (eq-eqb x x refl)

-- up to i the byte stands nowhere
pub record Searching (byte : ℕ) (input : List ℕ) (from i : ℕ) : Type 0 where
  pub ahead : from ≤ i
  pub passed : Every (other byte) (take (i - from) (drop from input))

pub search_start : (byte : ℕ) (input : List ℕ) (from : ℕ) → Searching byte input from from
search_start byte input from =
    let p : from - from ≡ 0 = omega arith in
    record { ahead = omega arith; passed = rw p tt }

module _ {byte : ℕ} {input : List ℕ} {from i : ℕ} (S : Searching byte input from i) where
  pub search_turn : i < length input → (get_or input i 0 ≡ byte → ⊥) → Searching byte input from (i + 1)
  search_turn k n =
      let h = S.ahead in
      let p : i + 1 - from ≡ suc (i - from) = omega arith in
      let q : from + (i - from) ≡ i = omega arith in
      let l : i - from < length (drop from input) = rw length-drop (omega arith) in
      record {
        ahead = omega arith;
        passed = rw (p, take-suc (drop from input) (i - from) 0 l, get_or-drop from input (i - from) 0, q)
            (every_append (other byte) (take (i - from) (drop from input)) _ S.passed (rw (ne_eqb (get_or input i 0) byte n) (refl, tt)));
      }

  -- where it stands
  pub search_found : i < length input → get_or input i 0 ≡ byte → Ends byte input from (Some i)
  search_found k n =
      let h = S.ahead in
      let q : from + (i - from) ≡ i = omega arith in
      record {
        ahead = h;
        within = k;
        line = S.passed;
        text = sym (take-append-drop (i - from) (drop from input))
            ∙ ap (λ (l : List ℕ). take (i - from) (drop from input) ++ l)
            (drop-drop (i - from) from input ∙ rw (q, drop-cons input i 0 k, n));
      }

  -- and where it doesn't
  pub search_none : length input ≤ i → Ends byte input from None
  search_none k =
      let h = S.ahead in
      let l : length (drop from input) ≤ i - from = rw length-drop (omega arith) in
      rw (take_all (i - from) (drop from input) l) at S.passed

-- a part of an input is no longer than it
pub part_short : (input : List ℕ) (from e n : ℕ) → length input ≤ n → length (take (e - from) (drop from input)) ≤ n
part_short input from e n h = rw (length-take, length-drop) (omega arith)

pub ruleset searches = (rules, search_start, search_turn, search_found, search_none)
