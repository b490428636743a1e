-- `go`, and the lines behind it: what went out is what the rules say of any input that comes to them. Assumes nothing.
use Rattle.std.proofs.Common.{ℕ, ◌≡◌, List, ◌++◌, get_or}
use Rattle.std.specs.declared.option.Option.{Option}
use Rattle.std.specs.Io.KnownBytes.{Appends}
use Rattle.std.proofs.KnownBytes.{Appends-trans}
use Rattle.rules.specs.Calls.{to_load}
use Rattle.text.specs.Grammar.{fitted}
use Rattle.text.specs.Answers.{reply_text}
use Rattle.std.specs.Prelude.{Result}
use Rattle.rules.specs.declared.Score.{Score}
use Rattle.rules.specs.declared.Refusal.{Refusal}
use Rattle.stores.specs.Promise.{Slices, lent_of, AnyPromise}
use Rattle.stores.specs.Says.{says_scored}
use Rattle.lines.specs.declared.steps.Typed.{Typed}
use Rattle.lines.specs.Steps.{typing_of}
use Rattle.lines.specs.Serves.{loading_of}
use Rattle.lines.specs.Session.{whole}
use Rattle.lines.proofs.Sessions.{run_prints}
use Rattle.notekarip.specs.Prints.{Prints, Answers, Opened}

-- from a store that is not loaded
pub opened_prints : {rest : List ℕ} {line o : ℕ} (d f t : List ℕ) (plan : Typed) (old mid new : Option (List ℕ)) {s s' : Slices} (x : Result Score Refusal)
    → get_or s.base 0 0 ≡ 0 → lent_of s ≡ whole → AnyPromise (to_load (loading_of (typing_of plan d f t))) s s' (says_scored x)
    → Appends old mid (reply_text (says_scored x)) → o ≡ fitted plan.owners → Prints (Answers rest o line s') mid new
    → Prints (Opened rest line plan d f t) old new
opened_prints d f t plan old mid new x z k P A e B =
    let (text, R, C) = B in
    let (out, T) = R in
    (reply_text (says_scored x) ++ text, λ input h O. run_prints x h O z k P (rw e at T), Appends-trans old mid new _ _ A C)
