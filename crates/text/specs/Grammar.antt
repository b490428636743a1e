-- "Program lines": a line is a word and numbers; its text is one and only one. What is accepted is what `text_of` writes. Assumes nothing.
use Rattle.std.specs.Prelude.{ℕ, zero, suc, ◌+◌, ◌-◌, ◌/◌, ◌%◌, ◌^◌, ◌<◌, min, Bool, true, false, cond, List, [], ◌∷◌, ◌++◌, eqb, ltb, leb}
use Rattle.text.specs.declared.vocabulary.Word.{Word}
use Rattle.text.specs.declared.vocabulary.Word.TheVariants.{Plan, Dur, Fix, Go, Put, Cut, Show, Crit}

-- a word's bytes, how many numbers follow it, and whether more may
pub record Use : Type 0 where
  pub name : List ℕ
  pub numbers : ℕ
  pub more : Bool

abbrev pub usage : List ℕ → ℕ → Bool → Use
usage name numbers more = record { name = name; numbers = numbers; more = more }

-- "`plan N O`, `dur` and N numbers, `fix A B` repeated, `go`; then `put O` and entries, `cut O` (retract), `show`, `crit`"; of `dur` it is the
-- plan that says how many
abbrev pub use_of : Word → Use
use_of Plan = usage (112 ∷ 108 ∷ 97 ∷ 110 ∷ []) 2 false
use_of Dur = usage (100 ∷ 117 ∷ 114 ∷ []) 0 true
use_of Fix = usage (102 ∷ 105 ∷ 120 ∷ []) 2 false
use_of Go = usage (103 ∷ 111 ∷ []) 0 false
use_of Put = usage (112 ∷ 117 ∷ 116 ∷ []) 1 true
use_of Cut = usage (99 ∷ 117 ∷ 116 ∷ []) 1 false
use_of Show = usage (115 ∷ 104 ∷ 111 ∷ 119 ∷ []) 0 false
use_of Crit = usage (99 ∷ 114 ∷ 105 ∷ 116 ∷ []) 0 false

-- all words
abbrev pub all_words : List Word
all_words = Plan ∷ Dur ∷ Fix ∷ Go ∷ Put ∷ Cut ∷ Show ∷ Crit ∷ []

abbrev pub name_of : Word → List ℕ
name_of w = (use_of w).name

-- so many numbers may follow a word
abbrev pub fits_of : Word → ℕ → Bool
fits_of w k = cond (use_of w).more (leb (use_of w).numbers k) (eqb k (use_of w).numbers)

-- the digits of x, which is below k: its last digit behind those of x / 10, if there are any
unfoldable pub digits_below : ℕ → ℕ → List ℕ
digits_below zero x = []
digits_below (suc k) x = cond (ltb x 10) ((48 + x) ∷ []) (digits_below k (x / 10) ++ ((48 + x % 10) ∷ []))

-- "decimal without leading zeros"
unfoldable pub digits_of : ℕ → List ℕ
digits_of x = digits_below (suc x) x

-- "One space between fields"
abbrev pub fields_of : List ℕ → List ℕ
fields_of [] = []
fields_of (x ∷ ns) = 32 ∷ digits_of x ++ fields_of ns

-- "and below 2^64"
abbrev pub AllBelow : List ℕ → Type 0
AllBelow [] = Unit
AllBelow (x ∷ ns) = (x < 2 ^ 64) × AllBelow ns

-- "A number too wide for the library counts as its largest."
abbrev pub fitted : ℕ → ℕ
fitted x = min x (2 ^ 32 - 1)

-- the bytes of a line, without its LF
abbrev pub text_of : Word → List ℕ → List ℕ
text_of w ns = name_of w ++ fields_of ns
