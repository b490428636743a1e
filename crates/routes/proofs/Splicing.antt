-- `splice`: three copies put an owner's new stops in the place of the old. Assumes nothing.
use Rattle.std.proofs.Common.{◌≡◌, ℕ, zero, suc, ◌+◌, ◌-◌, ◌%◌, ◌≤◌, List, [], ◌++◌, length, take, drop, replicate, refl, ap, ◌∙◌, append_assoc, append-nil, zero-add, arith, length-append, length-take-le, length-drop, take_at, drop_at, rules}
use lib.Seq.{slice, length-slice, sets, sets-eq}
use Rattle.rules.specs.Sizes.{most_entries}
use Rattle.edges.specs.Rows.{pad}
use Rattle.routes.specs.Raw.{splice, shift_of}
use Rattle.edges.specs.Raw.{put}
use Rattle.edges.proofs.Listing.{between}
use Rattle.words.proofs.Rows.{row_none}

drop_replicate : (i n a : ℕ) → drop i (replicate n a) ≡ replicate (n - i) a
drop_replicate zero n a = let e : n ≡ n - 0 = omega arith in ap (λ (k : ℕ). replicate k a) e
drop_replicate (suc i) zero a = let e : 0 ≡ 0 - suc i = omega arith in ap (λ (k : ℕ). replicate k a) e
drop_replicate (suc i) (suc n) a = let e : n - i ≡ suc n - suc i = omega arith in drop_replicate i n a ∙ ap (λ (k : ℕ). replicate k a) e

-- written from the front on, s is all that stands there if it is as long
pub set_whole : (y s : List ℕ) → length s ≡ length y → sets y 0 s ≡ s
set_whole y s h = sets-eq s y 0 (omega arith) ∙ ap (λ (l : List ℕ). s ++ l) (row_none y (0 + length s) (omega arith)) ∙ append-nil s

-- three copies: what is moved, over the front of zeros; the new stops; and what was moved, behind them
pub spliced : (a s : List ℕ) (f t n : ℕ) {y₁ y₂ y₃ : List ℕ} → y₁ ≡ take (n - t) (drop t a) → y₂ ≡ s
    → y₃ ≡ take (most_entries - (f + length s)) (y₁ ++ drop (n - t) (replicate most_entries 0))
    → length a ≡ most_entries → f + length s ≤ most_entries → t ≤ n → n ≤ most_entries
    → put (f + length s) (length (put f (f + length s - f) a y₂) - (f + length s)) (put f (f + length s - f) a y₂) y₃ ≡ splice f t n s a
unfolding splice pad
spliced a s f t n e₁ e₂ e₃ l hk ht hn =
    let w : length (slice t n a) ≡ n - t = length-slice t n a (omega arith) in
    let r : List ℕ = drop (f + length s - f) (drop f a) in
    let x : length (take f a ++ s) ≡ f + length s = (let c = length-take-le f a (omega arith) in length-append (take f a) s ∙ omega arith) in
    let y : length r ≡ length a - (f + length s) = length-drop (f + length s - f) (drop f a) ∙ (let c = length-drop f a in omega arith) in
    let z : length (take f a ++ (s ++ r)) ≡ f + length s + length r = rw (← append_assoc) (length-append (take f a ++ s) r ∙ omega arith) in
    rw (
      e₃,
      e₁,
      e₂,
      between t n a ht,
      drop_replicate (n - t) most_entries 0,
      w,
      z,
      ← append_assoc (take f a) s r,
      take_at (take f a ++ s) r (f + length s) x,
      drop_at (take f a ++ s) r (f + length s) x,
      row_none r (f + length s + length r - (f + length s)) (omega arith),
      append-nil,
    )
    (append_assoc (take f a) s _)

pub shift_is : (out new : ℕ) → out ≤ 65536 → (new + (65536 - out)) % 65536 ≡ shift_of out new
unfolding shift_of
shift_is out new h = ap (λ (n : ℕ). n % 65536) (omega arith)

pub ruleset splicing = (rules, spliced, shift_is)
