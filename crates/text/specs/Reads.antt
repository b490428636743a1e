-- What the functions that read promise. Assumes nothing.
use Rattle.std.specs.Prelude.{ℕ, suc, ◌+◌, ◌-◌, ◌^◌, ◌≤◌, ◌<◌, ◌≡◌, Bool, true, false, not, ◌&&◌, ◌⊎◌, Option, Some, None, List, [], ◌∷◌, ◌++◌, eqb, leb, length, take, drop}
use Rattle.text.specs.declared.vocabulary.Word.{Word}
use Rattle.text.specs.Grammar.{name_of, fits_of, digits_of, fields_of, AllBelow, text_of}

-- ── kinds of bytes ──

abbrev pub is_digit : ℕ → Bool
is_digit b = leb 48 b && leb b 57

abbrev pub other : ℕ → ℕ → Bool
other x b = not (eqb b x)

abbrev pub not_space : ℕ → Bool
not_space = other 32

abbrev pub not_end : ℕ → Bool
not_end = other 10

-- all bytes are of one kind
abbrev pub Every : (ℕ → Bool) → List ℕ → Type 0
Every p [] = Unit
Every p (b ∷ l) = (p b ≡ true) × Every p l

-- the first byte, if there is one, is of another kind
abbrev pub Stops : (ℕ → Bool) → List ℕ → Type 0
Stops p [] = Unit
Stops p (b ∷ l) = p b ≡ false

-- ── where a byte stands first: LF at a line's end, a space at a name's ──

-- what is left of the input from a place on is a run without the byte, the byte and the rest
pub record Ended (byte : ℕ) (input : List ℕ) (from e : ℕ) : Type 0 where
  pub ahead : from ≤ e
  pub within : e < length input
  pub line : Every (other byte) (take (e - from) (drop from input))
  pub text : drop from input ≡ take (e - from) (drop from input) ++ byte ∷ drop (suc e) input

abbrev pub Ends : ℕ → List ℕ → ℕ → Option ℕ → Type 0
Ends byte input from (Some e) = Ended byte input from e
Ends byte input from None = Every (other byte) (drop from input)

-- ── a word ──

-- the line begins with the name, up to a space or its end
pub record Named (line name : List ℕ) : Type 0 where
  pub text : line ≡ name ++ drop (length name) line
  pub stops : Stops not_space (drop (length name) line)

-- a test for a name
abbrev pub Names : List ℕ → List ℕ → Bool → Type 0
Names line name true = Named line name
Names line name false = Named line name → ⊥

abbrev pub Wordless : List ℕ → Type 0
Wordless line = (w : Word) → Named line (name_of w) → ⊥

abbrev pub Words : List ℕ → Option Word → Type 0
Words line (Some w) = Named line (name_of w)
Words line None = Wordless line

-- ── a number ──

-- the byte is that of the digit d, or no digit's
abbrev pub Digit : ℕ → Option ℕ → Type 0
Digit b (Some d) = (d < 10) × (b ≡ 48 + d)
Digit b None = is_digit b ≡ false

-- the text t is the digits of v and then the line from place e on, where no digit stands
pub record Reading (t line : List ℕ) (e v : ℕ) : Type 0 where
  pub below : v < 2 ^ 64
  pub within : e ≤ length line
  pub text : t ≡ digits_of v ++ drop e line
  pub stops : Stops is_digit (drop e line)

-- no number below 2^64 stands in front of the text
abbrev pub Unreadable : List ℕ → Type 0
Unreadable t = (v : ℕ) (rest : List ℕ) → v < 2 ^ 64 → Stops is_digit rest → t ≡ digits_of v ++ rest → ⊥

-- the number, and the place after it
abbrev pub Reads : List ℕ → List ℕ → ℕ → Option (ℕ × ℕ) → Type 0
Reads t line from (Some n) = (from ≤ n.1) × Reading t line n.1 n.0
Reads t line from None = Unreadable t

-- ── numbers ──

-- the text is the fields of the first k numbers; beyond them nothing is touched
pub record Counted (t out out' : List ℕ) (k : ℕ) : Type 0 where
  pub same : length out' ≡ length out
  pub within : k ≤ length out
  pub text : t ≡ fields_of (take k out')
  pub below : AllBelow (take k out')
  pub beyond : drop k out' ≡ drop k out

-- the text is no fields
abbrev pub Uncountable : List ℕ → Type 0
Uncountable t = (ns : List ℕ) → AllBelow ns → t ≡ fields_of ns → ⊥

abbrev pub Counts : List ℕ → List ℕ → List ℕ → Option ℕ → Type 0
Counts t out out' (Some k) = Counted t out out' k
Counts t out out' None = Uncountable t

-- no field stands in front of the text
abbrev pub Fieldless : List ℕ → Type 0
Fieldless t = (v : ℕ) (rest : List ℕ) → v < 2 ^ 64 → Stops is_digit rest → t ≡ 32 ∷ digits_of v ++ rest → ⊥

-- the numbers of the fields in front of a text, up to where no field stands
pub data Fronts : List ℕ → List ℕ → Type 0 where
  none : {t : List ℕ} → Fieldless t → Fronts t []
  more : {t rest ns : List ℕ} {v : ℕ} → v < 2 ^ 64 → Stops is_digit rest → t ≡ 32 ∷ digits_of v ++ rest → Fronts rest ns → Fronts t (v ∷ ns)

-- these numbers are written in front, and nothing else is touched
pub record Leaves (t out out' : List ℕ) : Type 0 where
  pub front : List ℕ
  pub leads : Fronts t front
  pub is : out' ≡ front ++ drop (length front) out

pub record Gathers (t out out' : List ℕ) (r : Option ℕ) : Type 0 where
  pub counts : Counts t out out' r
  pub leaves : Leaves t out out'

-- ── a line ──

-- the line is the text of w and of the first k numbers; beyond them nothing is touched
pub record Parsed (line out out' : List ℕ) (w : Word) (k : ℕ) : Type 0 where
  pub same : length out' ≡ length out
  pub within : k ≤ length out
  pub text : line ≡ text_of w (take k out')
  pub below : AllBelow (take k out')
  pub fits : fits_of w k ≡ true
  pub beyond : drop k out' ≡ drop k out

-- the line is no text of the grammar
abbrev pub Unparsable : List ℕ → Type 0
Unparsable line = (w : Word) (ns : List ℕ) → AllBelow ns → fits_of w (length ns) ≡ true → line ≡ text_of w ns → ⊥

abbrev pub Means : List ℕ → List ℕ → List ℕ → Option (Word × ℕ) → Type 0
Means line out out' (Some m) = Parsed line out out' m.0 m.1
Means line out out' None = Unparsable line

-- what stands in front, whether the line fits or not: nothing new without a word, else the numbers of the fields behind it
abbrev pub Left : List ℕ → List ℕ → List ℕ → Type 0
Left line out out' =
    (Wordless line × (out' ≡ out)) ⊎ ((w : Word) × Named line (name_of w) × Leaves (drop (length (name_of w)) line) out out')

pub record Parses (line out out' : List ℕ) (r : Option (Word × ℕ)) : Type 0 where
  pub means : Means line out out' r
  pub left : Left line out out'
