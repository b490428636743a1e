use mathlib.Core.Bool.{or-true}
use native.Mathlib.Nat.{lt_of_lt_of_le}
use lib.Dec.{lit≤}
use borrow.Author.Tests.{lt-ltb, le-ltb}
use Rattle.rules.proofs.Plan.short.Goals as goal

-- A slice below its constant makes the whole sum of tests true; at the end only the last test is left. Assumes nothing.

-- with room between the two numbers, so that a wrong constant is refused at the fact that it breaks
ruleset found = (lt-ltb, or-true, lt_of_lt_of_le, lit≤, tt)

pub returns-then-base-lt-BASE : goal.returns-then-base-lt-BASE
returns-then-base-lt-BASE c = search found

pub returns-then-spans-lt-SPANS : goal.returns-then-spans-lt-SPANS
returns-then-spans-lt-SPANS c = search found

pub returns-then-edges-lt-EDGES : goal.returns-then-edges-lt-EDGES
returns-then-edges-lt-EDGES c = search found

pub returns-then-routes-lt-ROUTES : goal.returns-then-routes-lt-ROUTES
returns-then-routes-lt-ROUTES c = search found

pub returns : goal.returns
returns c = search le-ltb
