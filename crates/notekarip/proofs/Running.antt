-- What the lines come to, and what went out of it. Assumes nothing.
use Rattle.std.proofs.Common.{ℕ, ◌-◌, ◌≤◌, ◌<◌, List, [], length, take, drop, None, Some, IfSome, Result, Ok, Err, OnOk, ap, arith, length-append, length-drop, length-take-le, take_all}
use Rattle.std.specs.declared.option.Option.{Option}
use Rattle.std.specs.Io.KnownBytes.{Appends, Consumes}
use Rattle.std.proofs.KnownBytes.{Appends-nil}
use Rattle.text.specs.Answers.{bad_line}
use Rattle.lines.specs.declared.steps.Typed.{Typed}
use Rattle.lines.specs.Sizes.{input_limit}
use Rattle.lines.specs.Opens.{OpensAll, opened, bad, nothing}
use Rattle.lines.specs.Steps.{typing_of}
use Rattle.lines.specs.Session.{RunPrints, long, unfit, ends}
use Rattle.notekarip.specs.Prints.{Prints, Opened}

-- what follows from what holds at an `Ok`
pub at_ok : {A E P Q : Type 0} (r : Result A E) → OnOk r P → (P → Q) → OnOk r Q
at_ok (Ok x) p f = f p
at_ok (Err e) p f = tt

module _ (input : List ℕ) (h : length input ≤ input_limit) where
  -- no `go`
  pub run_ends : (old : Option (List ℕ)) → OpensAll input nothing → Prints (RunPrints input) old old
  run_ends old O = ([], ends h O, Appends-nil old)

  -- a line that doesn't fit
  pub run_unfit : (k : ℕ) (old new : Option (List ℕ)) → OpensAll input (bad k) → Appends old new (bad_line k) → Prints (RunPrints input) old new
  run_unfit k old new O A = (bad_line k, unfit h O, A)

  -- a plan, and what stands behind it
  pub run_opened : (at k : ℕ) (p : Typed) (d f t : List ℕ) (old new : Option (List ℕ)) → OpensAll input (opened (typing_of p d f t) (drop at input) k)
      → Prints (Opened (take (length input - at) (drop at input)) k p d f t) old new → Prints (RunPrints input) old new
  run_opened at k p d f t old new O P =
      let (text, F, A) = P in
      let long : length (drop at input) ≤ length input - at = omega (arith, length-drop at input) in
      (text, F input h (rw (take_all (length input - at) (drop at input) long) O), A)

-- more bytes than the limit were read
pub over_limit : (a b : Option (List ℕ)) (read : List ℕ) (n : ℕ) (old new : Option (List ℕ)) → n ≤ length read → input_limit < n → Consumes a b (take n read)
    → Appends old new (bad_line 0) → IfSome a (λ input. Prints (RunPrints input) old new)
over_limit None b read n old new h k C A = tt
over_limit (Some x) None read n old new h k C A = absurd C
over_limit (Some x) (Some y) read n old new h k C A =
    let e = ap length C in
    (bad_line 0, long (omega (arith, length-append (take n read) y, length-take-le n read h)), A)
