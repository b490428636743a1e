-- The lines behind `go`, one after the other: what went out so far, and that the rest, once told, gives the whole. Assumes nothing.
use Rattle.std.proofs.Common.{ℕ, ◌≡◌, ◌+◌, ◌≤◌, List, [], ◌++◌, length, take, append_assoc, append-nil, add-one}
use Rattle.std.specs.declared.option.Option.{Option}
use Rattle.std.specs.Io.KnownBytes.{Appends}
use Rattle.std.proofs.KnownBytes.{Appends-nil, Appends-trans}
use Rattle.stores.specs.Promise.{Slices}
use Rattle.lines.specs.declared.turns.Turn.{Turn}
use Rattle.lines.specs.Serves.{Turns}
use Rattle.lines.specs.Session.{Runs, done, turn}
use Rattle.notekarip.specs.Prints.{Prints, Answers}

pub record Serving (input : List ℕ) (o before : ℕ) (first : Slices) (old : Option (List ℕ)) (at n : ℕ) (s : Slices) (out : List ℕ) (new : Option (List ℕ))
    : Type 0 where
  pub printed : List ℕ
  pub gone : Appends old new printed
  pub rest : (text : List ℕ) → Runs input o at n s out text → Answers input o before first (printed ++ text)

pub serving_none : (input : List ℕ) (o before : ℕ) (s : Slices) (out : List ℕ) (old : Option (List ℕ)) → Serving input o before s old 0 before s out old
serving_none input o before s out old = record { printed = []; gone = Appends-nil old; rest = λ text R. (out, R) }

pub serving_next : {input : List ℕ} {o before : ℕ} {first : Slices} {old mid new : Option (List ℕ)} {at n : ℕ} {s s' : Slices} {out out' : List ℕ} {r : Turn} {k : ℕ}
    → Serving input o before first old at n s out mid → Turns input at (n + 1) o s s' out r out' → Appends mid new (take k out') → k ≡ r.bytes
    → Serving input o before first old r.next (n + 1) s' out' new
serving_next {input} {o} {old = old} {mid} {new} {at} {n} {s} {s'} {out} {out'} {r} S T B e = let A = rw e at B in record {
  printed = S.printed ++ take r.bytes out';
  gone = Appends-trans old mid new S.printed (take r.bytes out') S.gone A;
  rest = λ text R. rw append_assoc (S.rest (take r.bytes out' ++ text) (turn (rw add-one at T) (rw add-one at R)));
}

pub serving_all : {input : List ℕ} {o before : ℕ} {first : Slices} {old new : Option (List ℕ)} {at n : ℕ} {s : Slices} {out : List ℕ}
    → Serving input o before first old at n s out new → length input ≤ at → Prints (Answers input o before first) old new
serving_all S h = (S.printed, rw append-nil at (S.rest [] (done h)), S.gone)
