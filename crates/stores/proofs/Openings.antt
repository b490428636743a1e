-- What a store's header says: of any words, and of a store that stands for a state. Assumes nothing.
use Prim.Native.Nat.{ℕ, ◌≤◌}
use native.Mathlib.Omega.{arith}
use mathlib.Core.Path.{◌≡◌, refl, sym, ap, ◌∙◌}
use mathlib.Core.Bool.{Bool, true, false, not}
use mathlib.Core.Option.{none}
use mathlib.Core.List.{List, ◌∷◌}
use lib.ListN.{length, get_or, take}
use lib.Seq.{get_or-take}
use lib.Dec.{eqb, ltb}
use borrow.Author.Tests.{eq-eqb, ne_eqb, le-ltb, ltb-false, not-true}
use Rattle.rules.specs.declared.Plan.{Plan as Counts}
use Rattle.rules.specs.declared.Refusal.{Refusal}
use Rattle.rules.specs.declared.Refusal.TheVariants.{NotLoaded, BadStore, ShortStore}
use Rattle.rules.specs.Sizes.{Base, Lent, is_short, fits_sizes, base_length, edges_length, most_fixed, routes_length, times_length}
use Rattle.rules.specs.Routes.{Plan}
use Rattle.rules.specs.Scores.{invalid_fixed}
use Rattle.rules.specs.Sound.{Loaded}
use Rattle.rules.proofs.Members.{or_false}
use Rattle.rules.proofs.Ranges.{Test, pass, fail, test, and_true}
use Rattle.std.specs.Prelude.{Result, Ok, Err, IfOk}
use Rattle.stores.specs.Words.{base_words}
use Rattle.stores.specs.Headers.{counts_of, plan_at, header_of, open_of, Long, Opened}
use Rattle.stores.specs.Promise.{Slices, lent_of, Held, Stands}

unlike : {r : Refusal} {c : Counts} → Err r ≡ Ok c → ⊥
unlike e = let z : ◌≡◌ {A = ℕ} 0 1 = cc in omega arith

-- ── of any words ──

module _ (l : List ℕ) where
  pub unloaded : get_or l 0 0 ≡ 0 → header_of l ≡ Err NotLoaded
  unfolding header_of
  unloaded e = rw (eq-eqb _ 0 e)

  pub mismarked : (get_or l 0 0 ≡ 0 → ⊥) → (get_or l 0 0 ≡ 1 → ⊥) → header_of l ≡ Err BadStore
  unfolding header_of
  mismarked e f = rw (ne_eqb _ 0 e, ne_eqb _ 1 f)

  pub headed : get_or l 0 0 ≡ 1 → fits_sizes (get_or l 1 0) (get_or l 2 0) (get_or l 3 0) ≡ true → header_of l ≡ Ok (plan_at l)
  unfolding header_of
  headed e f = rw (e, f)

  pub oversized : get_or l 0 0 ≡ 1 → fits_sizes (get_or l 1 0) (get_or l 2 0) (get_or l 3 0) ≡ false → header_of l ≡ Err BadStore
  unfolding header_of
  oversized e f = rw (e, f)

  pub open_short : (s : Lent) → is_short s ≡ true → open_of s l ≡ Err ShortStore
  unfolding open_of
  open_short s e = rw e

  pub open_long : (s : Lent) → is_short s ≡ false → open_of s l ≡ header_of l
  unfolding open_of
  open_long s e = rw e

-- ── of slices that are long enough ──

pub long : (s : Lent) → is_short s ≡ false → Long s
long s e =
    let (a, x) = or_false {a = ltb s.base base_length} e in
    let (b, y) = or_false {a = ltb s.spans 512} x in
    let (c, z) = or_false {a = ltb s.edges edges_length} y in
    let (d, f) = or_false {a = ltb s.routes routes_length} z in
    record {
      base = ltb-false s.base base_length a;
      spans = ltb-false s.spans 512 b;
      edges = ltb-false s.edges edges_length c;
      routes = ltb-false s.routes routes_length d;
      times = ltb-false s.times times_length f;
    }

fits_bounds : (a b c : ℕ) → fits_sizes a b c ≡ true → (a ≤ 512) × (b ≤ 64) × (c ≤ most_fixed)
fits_bounds a b c e =
    let (x, y) = and_true {a = not (ltb 512 a)} e in
    let (z, w) = and_true {a = not (ltb 64 b)} y in
    (ltb-false 512 a (not-true _ x), ltb-false 64 b (not-true _ z), ltb-false most_fixed c (not-true _ w))

headed_opened : (l : List ℕ) (plan : Counts) (m f : Bool) → eqb (get_or l 0 0) 0 ≡ false → eqb (get_or l 0 0) 1 ≡ m
    → fits_sizes (get_or l 1 0) (get_or l 2 0) (get_or l 3 0) ≡ f
    → header_of l ≡ Ok plan → (plan ≡ plan_at l) × (fits_sizes plan.jobs plan.owners plan.fixed ≡ true)
unfolding header_of
headed_opened l plan true true z e f h =
    let h' : Ok (plan_at l) ≡ Ok plan = rw (z, e, f) at h in
    let q : plan ≡ plan_at l = cc in
    (q, rw q f)
headed_opened l plan true false z e f h = let h' : Err BadStore ≡ Ok plan = rw (z, e, f) at h in absurd (unlike h')
headed_opened l plan false f' z e f h = let h' : Err BadStore ≡ Ok plan = rw (z, e) at h in absurd (unlike h')

header_is : (l : List ℕ) (plan : Counts) → header_of l ≡ Ok plan
    → (plan ≡ plan_at l) × (fits_sizes plan.jobs plan.owners plan.fixed ≡ true)
unfolding header_of
header_is l plan h = go (test (eqb (get_or l 0 0) 0))
  where
    go : Test (eqb (get_or l 0 0) 0) → (plan ≡ plan_at l) × (fits_sizes plan.jobs plan.owners plan.fixed ≡ true)
    go (pass z) = let h' : Err NotLoaded ≡ Ok plan = rw z at h in absurd (unlike h')
    go (fail z) = headed_opened l plan _ _ z refl refl h

pub open_is : (s : Lent) (l : List ℕ) (plan : Counts) → open_of s l ≡ Ok plan → Opened s plan
unfolding open_of
open_is s l plan h = go (test (is_short s))
  where
    go : Test (is_short s) → Opened s plan
    go (pass e) = let h' : Err ShortStore ≡ Ok plan = rw e at h in absurd (unlike h')
    go (fail e) =
        let (q, f) = header_is l plan (sym (open_long l s e) ∙ h) in
        let (a, b, c) = fits_bounds _ _ _ f in
        record { long = long s e; jobs = a; owners = b; fixed = c }

pub opens : (s : Lent) (l : List ℕ) (h : Result Counts Refusal) → h ≡ open_of s l → IfOk h (Opened s)
opens s l (Ok plan) e = open_is s l plan (sym e)
opens s l (Err r) e = tt

-- ── of a store that stands for a state ──

-- the first words of a base
pub record Headed (l : List ℕ) (b : Base) : Type 0 where
  pub mark : get_or l 0 0 ≡ 1
  pub jobs : get_or l 1 0 ≡ b.jobs
  pub owners : get_or l 2 0 ≡ b.owners
  pub fixed : get_or l 3 0 ≡ length b.fixed
  pub invalid : get_or l 4 0 ≡ invalid_fixed b

headed_by : (b : Base) (l m : List ℕ) → take base_length l ≡ 1 ∷ b.jobs ∷ b.owners ∷ length b.fixed ∷ invalid_fixed b ∷ m → Headed l b
headed_by b l m e = record {
  mark = sym (get_or-take base_length l 0 0 (omega arith)) ∙ ap (λ (x : List ℕ). get_or x 0 0) e;
  jobs = sym (get_or-take base_length l 1 0 (omega arith)) ∙ ap (λ (x : List ℕ). get_or x 1 0) e;
  owners = sym (get_or-take base_length l 2 0 (omega arith)) ∙ ap (λ (x : List ℕ). get_or x 2 0) e;
  fixed = sym (get_or-take base_length l 3 0 (omega arith)) ∙ ap (λ (x : List ℕ). get_or x 3 0) e;
  invalid = sym (get_or-take base_length l 4 0 (omega arith)) ∙ ap (λ (x : List ℕ). get_or x 4 0) e;
}

pub base_headed : (b : Base) (l : List ℕ) → take base_length l ≡ base_words b → Headed l b
unfolding base_words
base_headed b l e = headed_by b l _ e

fits_loaded : (b : Base) → Loaded b → fits_sizes b.jobs b.owners (length b.fixed) ≡ true
fits_loaded b L = rw (le-ltb 512 b.jobs L.jobs, le-ltb 64 b.owners L.owners, le-ltb most_fixed (length b.fixed) L.fixed)

counts_headed : (l : List ℕ) (b : Base) → Headed l b → plan_at l ≡ counts_of b
counts_headed l b H = rw (H.jobs, H.owners, H.fixed)

base_header : (l : List ℕ) (b : Base) → Headed l b → Loaded b → header_of l ≡ Ok (counts_of b)
base_header l b H L =
    headed l H.mark (rw (H.jobs, H.owners, H.fixed) (fits_loaded b L)) ∙ ap Ok (counts_headed l b H)

module _ (s : Slices) (fits : is_short (lent_of s) ≡ false) where
  pub open_none : Stands s none → open_of (lent_of s) s.base ≡ Err NotLoaded
  open_none e = open_long s.base (lent_of s) fits ∙ unloaded s.base e

  pub open_some : (p : Plan) → Held s p → open_of (lent_of s) s.base ≡ Ok (counts_of p.base)
  open_some p H =
      open_long s.base (lent_of s) fits
      ∙ base_header s.base p.base (base_headed p.base s.base H.base) H.desk.sound.loaded
