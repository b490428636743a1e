-- What is written reads back. Assumes nothing.
use Prim.Native.Nat.{ℕ, suc, ◌+◌, ◌^◌, ◌≤◌, ◌<◌}
use native.Mathlib.Nat.{suc_inj}
use native.Mathlib.Omega.{arith}
use mathlib.Core.Path.{◌≡◌, refl, sym, ap, ◌∙◌}
use mathlib.Core.List.{List, ◌∷◌, ◌++◌, append_assoc}
use lib.IntN.{ℤ, pos, negsuc}
use lib.ListN.{length, get_or, set, take, drop, length-append, length-set}
use lib.Seq.{sets, sets-eq, length-sets, length-take-le, drop_at, drop-cons}
use mir.Syntax.{w64}
use mir.Val.{SFits}
use Rattle.std.specs.Prelude.{Option, Some}
use Rattle.text.specs.Grammar.{digits_of}
use Rattle.text.specs.Reads.{is_digit, Every, Stops, Reads}
use Rattle.text.specs.Writes.{signed_of, Wrote}
use Rattle.text.proofs.Runs.{unlike, head_is, tail_is}
use Rattle.text.proofs.Decimals.{digits_every, digits_same}
use Rattle.text.proofs.Unique.{reads_same}

module _ (out : List ℕ) (at : ℕ) (bytes : List ℕ) (room : at + length bytes ≤ length out) where
  front : length (take at out) ≡ at
  front = length-take-le at out (omega arith)

  -- the bytes stand at their place, with what stood after them
  pub written_text : drop at (sets out at bytes) ≡ bytes ++ drop (at + length bytes) (sets out at bytes)
  written_text =
      let l : length (take at out ++ bytes) ≡ at + length bytes = length-append (take at out) bytes ∙ ap (λ (n : ℕ). n + length bytes) front in
      rw (sets-eq bytes out at room)
      (ap (drop at) (append_assoc (take at out) bytes (drop (at + length bytes) out))
      ∙ drop_at (take at out) (bytes ++ drop (at + length bytes) out) at front
      ∙ ap (λ (t : List ℕ). bytes ++ t) (sym (drop_at (take at out ++ bytes) (drop (at + length bytes) out) (at + length bytes) l)))

module _ (out : List ℕ) (at x : ℕ) {r : ℕ} {out' : List ℕ} (h : x < 2 ^ 64) (room : at + length (digits_of x) ≤ length out)
    (W : Wrote out at (digits_of x) r out') (s : Stops is_digit (drop r out')) where
  -- the digits of x, where no digit follows, are read as x
  pub number_back : (a : Option (ℕ × ℕ)) → Reads (drop at out') out' at a → a ≡ Some (x, r)
  number_back a R =
      let e = W.end in
      let l : length out' ≡ length out = ap length W.is ∙ length-sets out at (digits_of x) in
      let t : drop at out' ≡ digits_of x ++ drop r out' = rw (W.is, e) (written_text out at (digits_of x) room) in
      reads_same (drop at out') out' at a (Some (x, r)) R
      (omega arith, record { below = h; within = omega arith; text = t; stops = s })

-- of a number below 0, the sign, and behind it its size
abbrev pub ReadsBack : ℤ → List ℕ → ℕ → ℕ → Type 0
ReadsBack (pos n) out at r = (a : Option (ℕ × ℕ)) → Reads (drop at out) out at a → a ≡ Some (n, r)
ReadsBack (negsuc n) out at r = (get_or out at 0 ≡ 45) × ((a : Option (ℕ × ℕ)) → Reads (drop (suc at) out) out (suc at) a → a ≡ Some (suc n, r))

pub signed_back : (out : List ℕ) (at : ℕ) (x : ℤ) {r : ℕ} {out' : List ℕ} → SFits w64 x → at + length (signed_of x) ≤ length out
    → Wrote out at (signed_of x) r out' → Stops is_digit (drop r out') → ReadsBack x out' at r
signed_back out at (pos n) f room W s = let h = f.sfits in number_back out at n (omega arith) room W s
signed_back out at (negsuc n) {r} {out'} f room W s =
    let h = f.sfits in
    let e = W.end in
    let l = length-set out at 45 in
    let k : length out' ≡ length out = ap length W.is ∙ length-sets out at (45 ∷ digits_of (suc n)) in
    let t = rw (← W.is) at (written_text out at (45 ∷ digits_of (suc n)) room) in (
      head_is (sym (drop-cons out' at 0 (omega arith)) ∙ t),
      number_back (set out at 45) (suc at) (suc n) (omega arith) (omega arith) (record { end = omega arith; is = W.is }) s,
    )

-- a sign is no digit
no_sign : (n : ℕ) (l : List ℕ) {A : Type 0} → digits_of n ≡ 45 ∷ l → A
no_sign n l e = let q : Every is_digit (45 ∷ l) = rw e at (digits_every n) in unlike q.0 refl

-- so two numbers of either sign with the same bytes are one
pub signed_same : (x y : ℤ) → signed_of x ≡ signed_of y → x ≡ y
signed_same (pos n) (pos m) e = ap pos (digits_same n m e)
signed_same (pos n) (negsuc m) e = no_sign n (digits_of (suc m)) e
signed_same (negsuc n) (pos m) e = no_sign m (digits_of (suc n)) (sym e)
signed_same (negsuc n) (negsuc m) e = ap negsuc (suc_inj (digits_same (suc n) (suc m) (tail_is e)))
