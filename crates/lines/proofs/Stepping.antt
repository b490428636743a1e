-- A line's step: the tables hold what it typed, or it misses. Assumes nothing.
use Prim.Native.Nat.{ℕ, ◌+◌, ◌≤◌, ◌<◌}
use native.Mathlib.Omega.{arith}
use native.Mathlib.Numerals.{add-one}
use mathlib.Core.Path.{◌≡◌, refl, sym, ◌∙◌, ap}
use mathlib.Core.List.{List, [], ◌∷◌, ◌++◌}
use mathlib.Core.Bool.{true}
use borrow.Author.Rules.{rules}
use lib.ListN.{length, get_or, set, take, drop, replicate, length-set, length-replicate}
use lib.Seq.{sets, sets-eq, length-sets, length-take-le, take-append_seam, take-suc-set}
use Rattle.text.specs.declared.vocabulary.Word.{Word}
use Rattle.text.specs.declared.vocabulary.Word.TheVariants.{Plan, Dur, Fix, Go}
use Rattle.std.specs.Prelude.{Option, Some, None}
use Rattle.text.specs.Grammar.{fitted, fits_of}
use Rattle.text.specs.Reads.{Parsed, Parses}
use Rattle.lines.specs.declared.steps.Stage.{Stage}
use Rattle.lines.specs.declared.steps.Stage.TheVariants.{Plan as ForPlan, Durations, Fixed}
use Rattle.lines.specs.declared.steps.Typed.{Typed}
use Rattle.lines.specs.declared.steps.Outcome.{Outcome}
use Rattle.lines.specs.declared.steps.Outcome.TheVariants.{Next, Go as Goes}
use Rattle.lines.specs.Opens.{Typing, typing, Fits, plan, dur, fix}
use Rattle.lines.specs.Sizes.{most_numbers}
use Rattle.lines.specs.Lines.{Spelt}
use Rattle.lines.specs.Steps.{typing_of, Misses, Taken, Planned, Timed, Tied, LineTaken}
use Rattle.lines.proofs.Spelling.{count_is, none_is, two_are, spelt_same}

-- the lines that a stage takes
abbrev pub Fitting : Typing → Stage → Word → List ℕ → Type 0
Fitting t ForPlan w ns = w ≡ Plan
Fitting t Durations w ns = (w ≡ Dur) × (length ns ≡ t.jobs)
Fitting t Fixed w ns = w ≡ Fix

pub fits_tell : {t t' : Typing} {st st' : Stage} {w : Word} {ns : List ℕ} → Fits t st w ns st' t' → Fitting t st w ns
fits_tell plan = refl
fits_tell (dur e) = (refl, e)
fits_tell fix = refl

-- the stage in which `go` may come
abbrev pub Going : Stage → Word → Type 0
Going ForPlan w = ⊥
Going Durations w = ⊥
Going Fixed w = w ≡ Go

stage_behind : Stage → Stage
stage_behind ForPlan = Durations
stage_behind Durations = Fixed
stage_behind Fixed = Fixed

typing_behind : Typing → Stage → List ℕ → Typing
typing_behind t ForPlan ns = typing (get_or ns 0 0) (get_or ns 1 0) [] [] []
typing_behind t Durations ns = typing t.jobs t.owners ns t.from t.to
typing_behind t Fixed ns =
    typing t.jobs t.owners t.durations (t.from ++ (fitted (get_or ns 0 0) ∷ [])) (t.to ++ (fitted (get_or ns 1 0) ∷ []))

behind : {t t' : Typing} {st st' : Stage} {w : Word} {ns : List ℕ} → Fits t st w ns st' t'
    → (st' ≡ stage_behind st) × (t' ≡ typing_behind t st ns)
unfolding stage_behind typing_behind
behind plan = (refl, refl)
behind (dur e) = (refl, refl)
behind fix = (refl, refl)

pub fits_same : {t t₁ t₂ : Typing} {st a b : Stage} {w : Word} {ns : List ℕ}
    → Fits t st w ns a t₁ → Fits t st w ns b t₂ → (a ≡ b) × (t₁ ≡ t₂)
fits_same F G =
    let (p, q) = behind F in
    let (r, s) = behind G in
    (p ∙ sym r, q ∙ sym s)

-- ── by the stage ──

-- nothing that fits, and no `go`
misses : {w : Word} {ns : List ℕ} (st : Stage) {p : Typed} {d f t : List ℕ} → (Fitting (typing_of p d f t) st w ns → ⊥) → (Going st w → ⊥)
    → Misses w ns st p d f t
misses st other still = record { no_line_lem = λ st' t' F. other (fits_tell F); no_go = λ e g. still (rw e g) }

kept : (ns d : List ℕ) → length ns ≤ length d → take (length ns) (sets d 0 ns) ≡ ns
kept ns d h = ap (take (length ns)) (sets-eq ns d 0 (omega arith)) ∙ take-append_seam ns (drop (0 + length ns) d)

-- what is written in front at once
pub front_set : (ns d : List ℕ) {ys : List ℕ} → ys ≡ ns → length ns ≤ length d → ys ++ drop (length ns) d ≡ sets d 0 ns
front_set ns d e h =
    let z : 0 + length ns ≡ length ns = omega arith in
    ap (λ (l : List ℕ). l ++ drop (length ns) d) e ∙ sym (sets-eq ns d 0 (omega arith) ∙ ap (λ (n : ℕ). ns ++ drop n d) z)

module _ {w : Word} {ns : List ℕ} where
  pub plan_taken : {n o : ℕ} → w ≡ Plan → fits_of w (length ns) ≡ true → n ≡ get_or ns 0 0 → o ≡ get_or ns 1 0
      → Planned w ns (Some (Next Durations (record { jobs = n; owners = o; durations = 0; fixed = 0 })))
  plan_taken e k q r = record {
    is = λ p d f t.
        let two = two_are ns (count_is (length ns) 2 e refl k) in
        record {
          fits = rw (e, two, q, r) plan;
          within = λ W. record { durations = omega arith; from = omega arith; to = omega arith };
          few = λ k l. omega arith;
        };
  }

  pub plan_missed : (w ≡ Plan → ⊥) → Planned w ns None
  plan_missed n = record { is = λ p d f t. misses ForPlan n (λ g. g) }

  module _ {p : Typed} {d : List ℕ} where
    pub dur_taken : {d' : List ℕ} → d' ≡ sets d 0 ns → w ≡ Dur → length ns ≡ p.jobs → length ns ≤ length d
        → Timed w ns p d (Some (Next Fixed (record { jobs = p.jobs; owners = p.owners; durations = length ns; fixed = p.fixed }))) d'
    dur_taken s e g h = record {
      is = λ f t. record {
        fits = rw (e, s, kept ns d h) (dur g);
        within = λ W. record { durations = rw (s, length-sets) h; from = W.from; to = W.to };
        few = λ k l. omega arith;
      };
    }

    pub dur_other : (length ns ≡ p.jobs → ⊥) → Timed w ns p d None d
    dur_other n = record { is = λ f t. misses Durations (λ (e, g). n g) (λ g. g) }

    pub dur_missed : (w ≡ Dur → ⊥) → Timed w ns p d None d
    dur_missed n = record { is = λ f t. misses Durations (λ (e, g). n e) (λ g. g) }

  module _ {p : Typed} {f t : List ℕ} where
    pub fix_taken : {x y : ℕ} → x ≡ fitted (get_or ns 0 0) → y ≡ fitted (get_or ns 1 0) → w ≡ Fix → fits_of w (length ns) ≡ true
        → (p.fixed < length f) × (p.fixed < length t)
        → Tied w ns p f t (Some (Next Fixed (record { jobs = p.jobs; owners = p.owners; durations = p.durations; fixed = p.fixed + 1 })))
        (set f p.fixed x) (set t p.fixed y)
    fix_taken {x} {y} a b e k (h, i) = record {
      is = λ d.
          let two = two_are ns (count_is (length ns) 2 e refl k) in
          record {
            fits = rw (add-one p.fixed, take-suc-set f p.fixed x h, take-suc-set t p.fixed y i, a, b, e) (rw two fix);
            within = λ W. record { durations = W.durations; from = rw length-set (omega arith); to = rw length-set (omega arith) };
            few = λ k l. let m = l e in omega arith;
          };
    }

    pub fix_goes : w ≡ Go → fits_of w (length ns) ≡ true → Tied w ns p f t (Some Goes) f t
    fix_goes e k = record {
      is = λ d. record {
        word = e;
        alone = none_is ns (count_is (length ns) 0 e refl k);
        last = refl;
        same = record { durations = refl; from = refl; to = refl };
      };
    }

    pub fix_missed : (w ≡ Fix → ⊥) → (w ≡ Go → ⊥) → Tied w ns p f t None f t
    fix_missed n m = record { is = λ d. misses Fixed n m }

-- the stage is told
module _ {w : Word} {ns : List ℕ} {st : Stage} (p : Typed) (d f t : List ℕ) {r : Option Outcome} where
  pub as_plan : Planned w ns r → st ≡ ForPlan → Taken w ns st p d f t r d f t
  as_plan P e = rw e (P.is p d f t)

  pub as_timed : {d' : List ℕ} → Timed w ns p d r d' → st ≡ Durations → Taken w ns st p d f t r d' f t
  as_timed P e = rw e (P.is f t)

  pub as_tied : {f' t' : List ℕ} → Tied w ns p f t r f' t' → st ≡ Fixed → Taken w ns st p d f t r d f' t'
  as_tied P e = rw e (P.is d)

-- ── a line ──

-- one that is no text of the grammar
pub unparsed : {line out out' : List ℕ} → Parses line out out' None → (w : Word) (ns : List ℕ) → Spelt line w ns → ⊥
unparsed P w ns S = P.means w ns S.below S.fits S.text

-- the numbers of one that is
module _ {line out out' : List ℕ} {w : Word} {k : ℕ} (P : Parses line out out' (Some (w, k))) where
  told : Parsed line out out' w k
  told = P.means

  pub numbers_within : k ≤ length out'
  numbers_within = let s = told.same in let h = told.within in omega arith

  pub numbers_long : length (take k out') ≡ k
  numbers_long = length-take-le k out' numbers_within

  pub numbers_fit : fits_of w (length (take k out')) ≡ true
  numbers_fit = ap (fits_of w) numbers_long ∙ told.fits

  pub numbers_spelt : Spelt line w (take k out')
  numbers_spelt = record { text = told.text; below = told.below; fits = numbers_fit }

-- no more than there are places
module _ {line out' : List ℕ} {w : Word} (k : ℕ) (P : Parses line (replicate most_numbers 0) out' (Some (w, k))) where
  pub numbers_most : length (take k out') ≤ most_numbers
  numbers_most =
      let e = numbers_long P in
      let h = (told P).within in
      let l = length-replicate {A = ℕ} most_numbers 0 in
      omega arith

  pub numbers_few : (d : List ℕ) → most_numbers ≤ length d → length (take k out') ≤ length d
  numbers_few d h = let m = numbers_most in omega arith

pub line_missed : {line out out' : List ℕ} (st : Stage) (p : Typed) (d f t : List ℕ) → Parses line out out' None
    → LineTaken line st p d f t None d f t
line_missed st p d f t P w ns S = absurd (unparsed P w ns S)

pub line_taken : {line ns : List ℕ} {w : Word} → Spelt line w ns → (st : Stage) (p : Typed) (d f t : List ℕ) (r : Option Outcome) (d' f' t' : List ℕ)
    → Taken w ns st p d f t r d' f' t' → LineTaken line st p d f t r d' f' t'
line_taken {ns = ns} {w = w} S st p d f t (Some (Next st' p')) d' f' t' T = (w, ns, S, T)
line_taken {ns = ns} {w = w} S st p d f t (Some Goes) d' f' t' T = (w, ns, S, T)
line_taken S st p d f t None d' f' t' T = λ v ms U. let (e, g) = spelt_same S U in rw (← e, ← g) T

-- by what was parsed
pub line_by : {line out out' : List ℕ} {w : Word} {k : ℕ} (st : Stage) (p : Typed) (d f t : List ℕ) (r : Option Outcome) (d' f' t' : List ℕ)
    → Taken w (take k out') st p d f t r d' f' t' → Parses line out out' (Some (w, k)) → LineTaken line st p d f t r d' f' t'
line_by st p d f t r d' f' t' T P = line_taken (numbers_spelt P) st p d f t r d' f' t' T

pub ruleset stepping = (
  rules,
  plan_taken,
  dur_taken,
  dur_other,
  fix_taken,
  fix_goes,
  as_plan,
  as_timed,
  as_tied,
  numbers_within,
  numbers_long,
  numbers_fit,
  numbers_few,
  line_missed,
  line_by,
)
