-- An input has one opening, an answer is one, and so is what is printed for an input. Assumes nothing.
use Prim.Native.Nat.{ℕ, suc}
use native.Mathlib.Omega.{arith}
use mathlib.Core.Path.{◌≡◌, refl, sym, ap, ◌∙◌}
use mathlib.Core.List.{List, []}
use Rattle.rules.specs.Routes.{State}
use Rattle.text.specs.declared.vocabulary.Word.{Word}
use Rattle.text.specs.declared.vocabulary.Word.TheVariants.{Go}
use Rattle.text.specs.Answers.{bad_line}
use Rattle.text.proofs.Unique.{wrote_same}
use Rattle.stores.specs.Promise.{Slices, StandsFor}
use Rattle.lines.specs.declared.steps.Stage.{Stage}
use Rattle.lines.specs.declared.steps.Stage.TheVariants.{Fixed}
use Rattle.lines.specs.Lines.{Leads}
use Rattle.lines.specs.Opens.{Typing, Fits, Opening, opened, Opens, ends as opens_end, goes as opens_go, unfit as opens_unfit, line as opens_line}
use Rattle.lines.specs.Answers.{Request, Answers}
use Rattle.lines.specs.Serves.{Asks}
use Rattle.lines.specs.Session.{Serves, RunPrints, ends, unfit, line, long, goes}
use Rattle.lines.proofs.Stepping.{fits_tell, fits_same}
use Rattle.lines.proofs.Spelling.{leads_same, empty_leads}

-- ── the lines up to `go` ──

-- `go` is no line that fits
go_apart : {A : Type 0} {t t' : Typing} {st : Stage} {w : Word} {rest ns r s : List ℕ}
    → Leads rest Go [] r → Leads rest w ns s → Fits t Fixed w ns st t' → A
go_apart L M F =
    let e = (leads_same L M).0 in
    let f = fits_tell F in
    let z : ◌≡◌ {A = ℕ} 0 1 = cc in
    absurd (omega arith)

pub opens_same : {st : Stage} {t : Typing} {k : ℕ} {rest : List ℕ} {x y : Opening} → Opens st t k rest x → Opens st t k rest y → x ≡ y
opens_same opens_end opens_end = refl
opens_same opens_end (opens_go L) = empty_leads L
opens_same opens_end (opens_unfit M) = let h = M.some_left in absurd (omega arith)
opens_same opens_end (opens_line L F P) = empty_leads L
opens_same (opens_go L) opens_end = empty_leads L
opens_same {t = t} {k = k} (opens_go L) (opens_go M) = ap (λ (r : List ℕ). opened t r (suc k)) (leads_same L M).2
opens_same (opens_go {rest' = r} L) (opens_unfit M) = absurd (M.no_go r refl L)
opens_same (opens_go L) (opens_line M F P) = go_apart L M F
opens_same (opens_unfit M) opens_end = let h = M.some_left in absurd (omega arith)
opens_same (opens_unfit M) (opens_go {rest' = r} L) = absurd (M.no_go r refl L)
opens_same (opens_unfit M) (opens_unfit N) = refl
opens_same (opens_unfit M) (opens_line L F P) = absurd (M.no_line_lem _ _ _ _ _ L F)
opens_same (opens_line L F P) opens_end = empty_leads L
opens_same (opens_line L F P) (opens_go M) = go_apart M L F
opens_same (opens_line L F P) (opens_unfit M) = absurd (M.no_line_lem _ _ _ _ _ L F)
opens_same (opens_line L F P) (opens_line M G Q) =
    let (e, f, g) = leads_same L M in
    let (h, i) = fits_same F (rw (← e, ← f) at G) in
    opens_same P (rw (← h, ← i, ← g) at Q)

-- ── an answer ──

-- in a state that the store stands for
pub answers_same : {q : Request} {s u v : Slices} {out x y : List ℕ} {r p : ℕ} (t : State) → StandsFor s t
    → Answers q s u out r x → Answers q s v out p y → (r ≡ p) × (x ≡ y) × (u ≡ v)
answers_same t f A B =
    let d = A.decides t f in
    let e = B.decides t f in
    let (g, h) = wrote_same d.text e.text in
    (g, h, d.leaves ∙ sym e.leaves)

-- ── the lines behind `go` ──

-- a word and its numbers ask for one thing
pub asks_same : {o : ℕ} {w : Word} {ns : List ℕ} {p q : Request} → Asks o w ns p → Asks o w ns q → p ≡ q
asks_same A B = let e = A.is ∙ sym B.is in cc

pub serves_same : {o : ℕ} {t : State} {n : ℕ} {rest x y : List ℕ} → Serves o t n rest x → Serves o t n rest y → x ≡ y
serves_same ends ends = refl
serves_same ends (unfit h M) = absurd (omega arith)
serves_same ends (line L A P) = empty_leads L
serves_same (unfit h M) ends = absurd (omega arith)
serves_same (unfit h M) (unfit i N) = refl
serves_same (unfit h M) (line L A P) = absurd (M _ _ _ _ L A)
serves_same (line L A P) ends = empty_leads L
serves_same (line L A P) (unfit h M) = absurd (M _ _ _ _ L A)
serves_same (line L A P) (line M B Q) =
    let (e, f, g) = leads_same L M in
    let h = asks_same A (rw (← e, ← f) at B) in
    rw (← h, serves_same P (rw (← h, ← g) at Q))

-- ── a whole run ──

-- two openings of other kinds are not one
apart : {A : Type 0} → ◌≡◌ {A = ℕ} 0 1 → A
apart z = absurd (omega arith)

pub prints_same : {input x y : List ℕ} → RunPrints input x → RunPrints input y → x ≡ y
prints_same (long h) (long i) = refl
prints_same (long h) (unfit i O) = absurd (omega arith)
prints_same (long h) (ends i O) = absurd (omega arith)
prints_same (long h) (goes i O S) = absurd (omega arith)
prints_same (unfit h O) (long i) = absurd (omega arith)
prints_same (unfit {k} h O) (unfit {k = j} i P) =
    let e = opens_same O P in
    let z : k ≡ j = cc in
    ap bad_line z
prints_same (unfit h O) (ends i P) = let e = opens_same O P in apart (cc)
prints_same (unfit h O) (goes i P S) = let e = opens_same O P in apart (cc)
prints_same (ends h O) (long i) = absurd (omega arith)
prints_same (ends h O) (unfit i P) = let e = opens_same P O in apart (cc)
prints_same (ends h O) (ends i P) = refl
prints_same (ends h O) (goes i P S) = let e = opens_same O P in apart (cc)
prints_same (goes h O S) (long i) = absurd (omega arith)
prints_same (goes h O S) (unfit i P) = let e = opens_same P O in apart (cc)
prints_same (goes h O S) (ends i P) = let e = opens_same P O in apart (cc)
prints_same (goes {t} {n} {rest} h O S) (goes {t = u} {n = m} {rest = left} i P T) =
    let e = opens_same O P in
    let a : t ≡ u = cc in
    let b : n ≡ m = cc in
    let c : rest ≡ left = cc in
    rw (← a, serves_same S (rw (← a, ← b, ← c) at T))
