-- Lines of document 01's run, as the grammar writes them. Assumes nothing.
use mathlib.Core.Path.{◌≡◌, refl}
use mathlib.Core.List.{[], ◌∷◌}
use lib.IntN.{negsuc}
use Rattle.text.specs.declared.vocabulary.Word.TheVariants.{Plan, Put, Go}
use Rattle.text.specs.Grammar.{digits_below, digits_of, text_of}
use Rattle.text.specs.Writes.{signed_of}

-- `plan 4 1`, `put 0 2 3 0 1`, `go`
plan_is : text_of Plan (4 ∷ 1 ∷ []) ≡ 112 ∷ 108 ∷ 97 ∷ 110 ∷ 32 ∷ 52 ∷ 32 ∷ 49 ∷ []
unfolding digits_below digits_of
plan_is = refl

put_is : text_of Put (0 ∷ 2 ∷ 3 ∷ 0 ∷ 1 ∷ []) ≡ 112 ∷ 117 ∷ 116 ∷ 32 ∷ 48 ∷ 32 ∷ 50 ∷ 32 ∷ 51 ∷ 32 ∷ 48 ∷ 32 ∷ 49 ∷ []
unfolding digits_below digits_of
put_is = refl

go_is : text_of Go [] ≡ 103 ∷ 111 ∷ []
go_is = refl

-- the numbers of `ok -2 12`
twelve_is : digits_of 12 ≡ 49 ∷ 50 ∷ []
unfolding digits_below digits_of
twelve_is = refl

minus_is : signed_of (negsuc 1) ≡ 45 ∷ 50 ∷ []
unfolding digits_below digits_of
minus_is = refl
