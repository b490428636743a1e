-- What a put is refused for before the routes are looked at, in the rules' order. Assumes nothing.
use Rattle.std.specs.Prelude.{ℕ, cond, nat_le, nat_lt, Result, Ok, Err}
use Rattle.rules.specs.Sizes.{most_entries}
use Rattle.rules.specs.declared.Refusal.{Refusal}
use Rattle.rules.specs.declared.Refusal.TheVariants.{NoSuchOwner, TooManyEntries}

-- 5: "the owner is not below the owner count"; 6: "put: more than 1,024 entries"
abbrev pub ask_of : (owners owner entries : ℕ) → Result Unit Refusal
ask_of n o k = cond (nat_le n o) (Err NoSuchOwner) (cond (nat_lt most_entries k) (Err TooManyEntries) (Ok tt))
