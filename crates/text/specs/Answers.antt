-- "Program lines": the lines that are printed. Assumes nothing.
use Rattle.std.specs.Prelude.{ℕ, ◌+◌, ◌*◌, List, [], ◌∷◌, ◌++◌, length}
use Rattle.std.specs.List.{AllZip}
use Rattle.rules.specs.declared.Block.{Block}
use Rattle.rules.specs.declared.Refusal.{Refusal}
use Rattle.rules.specs.declared.Score.{Score}
use Rattle.rules.specs.Refusals.{number_of}
use Rattle.rules.specs.Calls.{Reply, refused, scored, changed, counted, lined_up, cycled, started, blocked, rerouted}
use Rattle.text.specs.Grammar.{fields_of}
use Rattle.text.specs.Writes.{signed_of, most_field, most_signed}

-- ── words, as bytes ──

abbrev pub bad_word : List ℕ
bad_word = 98 ∷ 97 ∷ 100 ∷ []

abbrev pub no_word : List ℕ
no_word = 110 ∷ 111 ∷ []

abbrev pub ok_word : List ℕ
ok_word = 111 ∷ 107 ∷ []

abbrev pub score_word : List ℕ
score_word = 115 ∷ 99 ∷ 111 ∷ 114 ∷ 101 ∷ []

abbrev pub starts_word : List ℕ
starts_word = 115 ∷ 116 ∷ 97 ∷ 114 ∷ 116 ∷ 115 ∷ []

abbrev pub order_word : List ℕ
order_word = 111 ∷ 114 ∷ 100 ∷ 101 ∷ 114 ∷ []

abbrev pub cycle_word : List ℕ
cycle_word = 99 ∷ 121 ∷ 99 ∷ 108 ∷ 101 ∷ []

abbrev pub blocks_word : List ℕ
blocks_word = 98 ∷ 108 ∷ 111 ∷ 99 ∷ 107 ∷ 115 ∷ []

abbrev pub block_word : List ℕ
block_word = 98 ∷ 108 ∷ 111 ∷ 99 ∷ 107 ∷ []

-- ── lines ──

-- something holds of the numbers that a list's elements convert to
abbrev pub Told : {A : Type 0} → (A → ℕ → Type 0) → List A → (List ℕ → Type 0) → Type 0
Told converts l Holds = (ns : List ℕ) × AllZip converts l ns × Holds ns

-- a word and numbers: "One space between fields, [..] LF at each end"
abbrev pub line_of : List ℕ → List ℕ → List ℕ
line_of word ns = word ++ (fields_of ns ++ (10 ∷ []))

-- a word and a score's parts
abbrev pub score_line : List ℕ → Score → List ℕ
score_line word s = word ++ (32 ∷ signed_of s.hard ++ (32 ∷ signed_of s.soft ++ (10 ∷ [])))

-- how long they are at most, by the word's length and how many numbers there are
abbrev pub line_length : ℕ → ℕ → ℕ
line_length w k = w + most_field * k + 1

abbrev pub score_length : ℕ → ℕ
score_length w = w + 2 * most_signed + 1

-- "prints `bad` and its number"
abbrev pub bad_line : ℕ → List ℕ
bad_line k = line_of bad_word (k ∷ [])

-- "Refusals print `no` and the number."
abbrev pub no_line : Refusal → List ℕ
no_line r = line_of no_word (number_of r ∷ [])

abbrev pub ok_line : Score → List ℕ
ok_line s = score_line ok_word s

abbrev pub block_line : Block → List ℕ
block_line b = line_of block_word (b.owner ∷ b.first ∷ b.last ∷ b.length ∷ [])

abbrev pub block_lines : List Block → List ℕ
block_lines [] = []
block_lines (b ∷ bs) = block_line b ++ block_lines bs

-- ── replies ──

-- what is printed of a reply; that to a move is never asked for
abbrev pub reply_text : Reply → List ℕ
reply_text (refused r) = no_line r
reply_text (scored s) = ok_line s
reply_text (changed s r) = ok_line s
reply_text (counted s k) = score_line score_word s
reply_text (lined_up l) = line_of order_word l
reply_text (cycled l) = line_of cycle_word l
reply_text (started l) = line_of starts_word l
reply_text (blocked l) = line_of blocks_word (length l ∷ []) ++ block_lines l
reply_text (rerouted l q f) = []
