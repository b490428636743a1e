-- "Program lines": an input, line by line. Assumes nothing.
use Rattle.std.specs.Prelude.{ℕ, ◌≡◌, true, List, ◌∷◌, ◌++◌, length}
use Rattle.text.specs.declared.vocabulary.Word.{Word}
use Rattle.text.specs.Grammar.{fits_of, AllBelow, text_of}

-- the bytes of a line, without its LF, are those of a word and numbers
pub record Spelt (line : List ℕ) (w : Word) (ns : List ℕ) : Type 0 where
  pub text : line ≡ text_of w ns
  pub below : AllBelow ns
  pub fits : fits_of w (length ns) ≡ true

-- what is left of an input begins with such a line and its LF, "LF at each end", and then goes on
pub record Leads (rest : List ℕ) (w : Word) (ns : List ℕ) (rest' : List ℕ) : Type 0 where
  pub text : rest ≡ text_of w ns ++ (10 ∷ rest')
  pub below : AllBelow ns
  pub fits : fits_of w (length ns) ≡ true
