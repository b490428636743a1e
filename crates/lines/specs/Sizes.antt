-- The sizes of an input and of its answers. Assumes nothing.
use Rattle.std.specs.Prelude.{ℕ, ◌*◌, ◌/◌}
use Rattle.rules.specs.Sizes.{most_jobs, most_entries}
use Rattle.text.specs.Answers.{line_length}

-- "reads standard input, at most 32,768 bytes"
abbrev pub input_limit : ℕ
input_limit = 32768

-- a field has two bytes or more, so no line has more numbers
abbrev pub most_numbers : ℕ
most_numbers = input_limit / 2

-- a `fix` line has eight bytes or more, so there are no more of them
abbrev pub most_fixes : ℕ
most_fixes = input_limit / 8

-- the longest answer is that of `crit`: a line, and one for each block, of `line_length 5 4` bytes at most
abbrev pub longest_answer : ℕ
longest_answer = 96 * most_entries

-- the longest line is that of the starts
abbrev pub long_line : ℕ
long_line = line_length 6 most_jobs
