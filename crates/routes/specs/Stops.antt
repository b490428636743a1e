-- The words of a route's stops. Assumes nothing.
use Rattle.std.specs.Prelude.{ℕ, ◌+◌, ◌*◌, Bool, List, map}
use Rattle.rules.specs.Lists.{tick}
use Rattle.rules.specs.Routes.{Stop}

abbrev pub bit : Bool → ℕ
bit b = tick b 0

-- a stop is its job twice, and 1 more if it is joined to the one before
abbrev pub word : Stop → ℕ
word s = s.0 * 2 + bit s.1

abbrev pub words : List Stop → List ℕ
words = map word
