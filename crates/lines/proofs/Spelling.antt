-- A line and its LF: no text holds an LF, so an input is cut into lines in one way only. How many numbers a word takes. Assumes nothing.
use Prim.Native.Nat.{ℕ, ◌≤◌, suc, ◌+◌, ◌<◌}
use native.Mathlib.Omega.{arith}
use mathlib.Core.Path.{◌≡◌, refl, sym, ◌∙◌, ap}
use mathlib.Core.Bool.{true, Bool, false, not}
use mathlib.Core.List.{List, [], ◌∷◌, ◌++◌}
use borrow.Author.Tests.{eqb-true, leb-true, ne_eqb}
use lib.Dec.{eqb, leb}
use lib.ListN.{length, get_or, get_or-eq_default, length-append}
use Rattle.text.specs.declared.vocabulary.Word.{Word}
use Rattle.text.specs.declared.vocabulary.Word.TheVariants.{Fix}
use Rattle.text.specs.Grammar.{fits_of, name_of, digits_of, fields_of, text_of}
use Rattle.text.specs.Reads.{is_digit, not_end, Every}
use Rattle.text.proofs.Runs.{unlike, tail_is, every_append, every_at, cut_same}
use Rattle.text.proofs.Decimals.{digits_every, digits_some}
use Rattle.text.proofs.Tabled.{name_endless}
use Rattle.text.proofs.Namings.{text_same}
use Rattle.lines.specs.Lines.{Spelt, Leads}

-- a place that a list has not
pub beyond : (l : List ℕ) (i : ℕ) → length l ≤ i → 0 ≡ get_or l i 0
beyond l i h = sym (get_or-eq_default l 0 h)

-- the word v takes j numbers
pub count_is : {w v : Word} (k j : ℕ) → w ≡ v → fits_of v k ≡ eqb k j → fits_of w k ≡ true → k ≡ j
count_is k j e g f = eqb-true k j (sym g ∙ rw e at f)

pub none_is : (ns : List ℕ) → length ns ≡ 0 → ns ≡ []
none_is [] e = refl
none_is (x ∷ ns) e = absurd (omega arith)

pub two_are : (ns : List ℕ) → length ns ≡ 2 → ns ≡ get_or ns 0 0 ∷ get_or ns 1 0 ∷ []
two_are [] e = absurd (omega arith)
two_are (x ∷ []) e = absurd (omega arith)
two_are (x ∷ y ∷ []) e = refl
two_are (x ∷ y ∷ z ∷ ns) e = absurd (omega arith)

-- ── no LF ──

digit_end : (b : ℕ) → is_digit b ≡ true → not_end b ≡ true
digit_end b h = go (leb 48 b) refl
  where
    go : (c : Bool) → leb 48 b ≡ c → not_end b ≡ true
    go true e = let l = leb-true 48 b e in ap not (ne_eqb b 10 (λ q. omega arith))
    go false e = unlike h (rw e)

digits_end : (l : List ℕ) → Every is_digit l → Every not_end l
digits_end [] e = tt
digits_end (b ∷ l) (h, e) = (digit_end b h, digits_end l e)

fields_end : (ns : List ℕ) → Every not_end (fields_of ns)
fields_end [] = tt
fields_end (x ∷ ns) = (refl, every_append not_end (digits_of x) (fields_of ns) (digits_end (digits_of x) (digits_every x)) (fields_end ns))

text_end : (w : Word) (ns : List ℕ) → Every not_end (text_of w ns)
text_end w ns = every_append not_end (name_of w) (fields_of ns) (name_endless w) (fields_end ns)

-- ── one way only ──

pub spelt_same : {line : List ℕ} {w v : Word} {ns ms : List ℕ} → Spelt line w ns → Spelt line v ms → (w ≡ v) × (ns ≡ ms)
spelt_same {w = w} {v = v} {ns = ns} {ms = ms} S T = text_same w v ns ms (sym S.text ∙ T.text)

pub leads_same : {rest : List ℕ} {w v : Word} {ns ms r s : List ℕ} → Leads rest w ns r → Leads rest v ms s → (w ≡ v) × (ns ≡ ms) × (r ≡ s)
leads_same {w = w} {v = v} {ns = ns} {ms = ms} {r = r} {s = s} L M =
    let (e, f) = cut_same not_end (text_of w ns) (text_of v ms) {r = 10 ∷ r} {s = 10 ∷ s} (text_end w ns) (text_end v ms) refl refl
    (sym L.text ∙ M.text) in
    let (g, h) = text_same w v ns ms e in
    (g, h, tail_is f)

-- what begins with a line is not empty
pub leads_some : {rest : List ℕ} {w : Word} {ns r : List ℕ} → Leads rest w ns r → 0 < length rest
leads_some {rest} {w} {ns} {r} L =
    let l : length rest ≡ length (text_of w ns) + suc (length r) = ap length L.text ∙ length-append (text_of w ns) (10 ∷ r) in
    omega arith

pub empty_leads : {A : Type 0} {w : Word} {ns r : List ℕ} → Leads [] w ns r → A
empty_leads L = let h = leads_some L in absurd (omega arith)

-- without an LF no line leads
pub none_leads : {rest : List ℕ} {w : Word} {ns r : List ℕ} → Every not_end rest → Leads rest w ns r → ⊥
none_leads {w = w} {ns = ns} {r = r} e L = unlike (every_at not_end (text_of w ns) 10 r (rw L.text at e)) refl

-- what leads is the line up to the first LF
module _ {rest : List ℕ} (line after : List ℕ) (cut : rest ≡ line ++ (10 ∷ after)) {w : Word} {ns : List ℕ} where
  pub spelt_leads : Spelt line w ns → Leads rest w ns after
  spelt_leads S =
      record { text = cut ∙ ap (λ (l : List ℕ). l ++ (10 ∷ after)) S.text; below = S.below; fits = S.fits }

  pub leads_spelt : {r : List ℕ} → Every not_end line → Leads rest w ns r → Spelt line w ns
  leads_spelt {r} e L = record {
    text = (cut_same not_end line (text_of w ns) {r = 10 ∷ after} {s = 10 ∷ r} e (text_end w ns) refl refl (sym cut ∙ L.text)).0;
    below = L.below;
    fits = L.fits;
  }

-- ── how long ──

-- `fix` and its two numbers have seven bytes or more
pub fix_long : {line : List ℕ} {w : Word} {ns : List ℕ} → w ≡ Fix → Spelt line w ns → 7 ≤ length line
fix_long {line} {w} {ns} e S = by (rw (e, two_are ns (count_is (length ns) 2 e refl S.fits)) at S)
  where
    by : {a b : ℕ} → Spelt line Fix (a ∷ b ∷ []) → 7 ≤ length line
    by {a} {b} S =
        let l = simp length-append at (ap length S.text) in
        let p = digits_some a in
        let q = digits_some b in
        omega arith
