-- What a load refuses, found test by test. Assumes nothing.
use Prim.Native.Nat.{ℕ, zero, suc, ◌+◌, ◌≤◌, ◌<◌}
use native.Mathlib.Numerals.{add-one}
use native.Mathlib.Omega.{arith}
use mathlib.Core.Path.{◌≡◌, refl, sym, ap, ◌∙◌}
use mathlib.Core.Bool.{Bool, true, false, not, ◌&&◌, ◌||◌}
use mathlib.Core.Option.{Option, none, some}
use mathlib.Core.List.{List, [], ◌∷◌}
use lib.ListN.{length, get_or, drop, drop_of_length-le}
use lib.Seq.{drop-cons}
use lib.Dec.{eqb, ltb, leb}
use borrow.Author.Tests.{lt-ltb, le-ltb, le-leb, lt-leb, eqb-true, ltb-false, not-true, not-false}
use Rattle.rules.specs.declared.Refusal.{Refusal}
use Rattle.rules.specs.declared.Refusal.TheVariants.{BadSize, LongDuration, BadFixed}
use Rattle.rules.specs.Lists.{is_zero, any_of}
use Rattle.rules.specs.Sizes.{most_jobs, most_owners, most_fixed, Loading, breaks_size, has_long, bad_from, is_long, fits_sizes}
use Rattle.rules.proofs.Members.{or_false}
use Rattle.rules.proofs.Ranges.{and_true}
use Rattle.rules.specs.Refusals.{first_of, load_checks}
use Rattle.std.specs.List.{list_any}
use Rattle.std.specs.Prelude.{Ok, Err}
use Rattle.refresh.specs.Loads.{breaks_by, bad_after, checked_as}

-- ── durations ──

any_list : {A : Type 0} (p : A → Bool) (l : List A) → any_of p l ≡ list_any p l
any_list p [] = refl
any_list p (x ∷ l) = ap (λ (b : Bool). p x || b) (any_list p l)

or_yes : (a : Bool) → a || true ≡ true
or_yes true = refl
or_yes false = refl

-- ── the fixed list's `from`: those below i are jobs and do not fall ──

pub record Rising (n : ℕ) (l : List ℕ) (last i : ℕ) : Type 0 where
  pub left : bad_after n last (drop i l) ≡ bad_after n 0 l

pub rising_none : (n : ℕ) (l : List ℕ) → Rising n l 0 0
rising_none n l = record { left = refl }

module _ {n : ℕ} {l : List ℕ} {last i : ℕ} (so_far : Rising n l last i) where
  pub from_high : i < length l → n ≤ get_or l i 0 → true ≡ bad_after n 0 l
  unfolding bad_after
  from_high h q = sym (ap (bad_after n last) (drop-cons l i 0 h) ∙ rw (le-leb n _ q)) ∙ so_far.left

  pub from_falls : i < length l → get_or l i 0 < last → true ≡ bad_after n 0 l
  unfolding bad_after
  from_falls h q =
      let x : Bool = leb n (get_or l i 0) || any_of (leb n) (drop (suc i) l) in
      sym (ap (bad_after n last) (drop-cons l i 0 h) ∙ rw (lt-ltb _ last q) (or_yes x)) ∙ so_far.left

  pub from_turn : i < length l → get_or l i 0 < n → last ≤ get_or l i 0 → Rising n l (get_or l i 0) (i + 1)
  unfolding bad_after
  from_turn h q k = record {
    left = rw add-one (sym (ap (bad_after n last) (drop-cons l i 0 h) ∙ rw (lt-leb n _ q, le-ltb _ last k)) ∙ so_far.left);
  }

  pub from_done : length l ≤ i → false ≡ bad_after n 0 l
  unfolding bad_after
  from_done h = sym (ap (bad_after n last) (drop_of_length-le l h)) ∙ so_far.left

-- ── all three ──

module _ (l : Loading) where
  abbrev Broken : Bool
  Broken = breaks_by l.jobs l.owners (length l.durations) (length l.expected) (length l.from) (length l.to)

  broken_is : breaks_size l ≡ Broken
  unfolding breaks_size breaks_by
  broken_is = refl

  long_is : has_long l ≡ list_any is_long l.durations
  unfolding has_long
  long_is = any_list is_long l.durations

  from_is : bad_from l ≡ bad_after l.jobs 0 l.from
  unfolding bad_from bad_after
  from_is = refl

  pub checked_size : true ≡ Broken → Err BadSize ≡ checked_as (first_of (load_checks l))
  checked_size a = rw (broken_is, ← a)

  pub checked_long : false ≡ Broken → true ≡ list_any is_long l.durations → Err LongDuration ≡ checked_as (first_of (load_checks l))
  checked_long a b = rw (broken_is, ← a, long_is, ← b)

  pub checked_from : false ≡ Broken → false ≡ list_any is_long l.durations → true ≡ bad_after l.jobs 0 l.from
      → Err BadFixed ≡ checked_as (first_of (load_checks l))
  checked_from a b c = rw (broken_is, ← a, long_is, ← b, from_is, ← c)

  pub checked_fine : false ≡ Broken → false ≡ list_any is_long l.durations → false ≡ bad_after l.jobs 0 l.from
      → Ok tt ≡ checked_as (first_of (load_checks l))
  checked_fine a b c = rw (broken_is, ← a, long_is, ← b, from_is, ← c)

-- ── what an accepted load has shown ──

pub checked_none : (o : Option Refusal) → Ok tt ≡ checked_as o → o ≡ none
checked_none none e = refl
checked_none (some r) e = let z : ◌≡◌ {A = ℕ} 0 1 = cc in absurd (omega arith)

pub checked_some : (o : Option Refusal) {r : Refusal} → Err r ≡ checked_as o → o ≡ some r
checked_some none e = let z : ◌≡◌ {A = ℕ} 0 1 = cc in absurd (omega arith)
checked_some (some q) {r} e = let z : q ≡ r = cc in ap some z

-- sizes that fit
pub record Sized (l : Loading) : Type 0 where
  pub jobs : l.jobs ≤ most_jobs
  pub owners : l.owners ≤ most_owners
  pub fixed : length l.from ≤ most_fixed
  pub pairs : length l.from ≡ length l.to
  pub durations : length l.durations ≡ l.jobs
  pub expected : length l.expected ≤ l.jobs

none_or_all : (e j : ℕ) → not (is_zero e) && not (eqb e j) ≡ false → e ≤ j
none_or_all zero j h = omega arith
none_or_all (suc e) j h = let q = eqb-true (suc e) j (not-false _ h) in omega arith

pub sized : (l : Loading) → breaks_size l ≡ false → Sized l
unfolding breaks_size
sized l h =
    let (a, x) = or_false {a = not (fits_sizes l.jobs l.owners (length l.from))} h in
    let (b, y) = or_false {a = not (eqb (length l.from) (length l.to))} x in
    let (c, z) = or_false {a = not (eqb (length l.durations) l.jobs)} y in
    let (i, j) = and_true {a = not (ltb most_jobs l.jobs)} (not-false _ a) in
    let (k, m) = and_true {a = not (ltb most_owners l.owners)} j in
    record {
      jobs = ltb-false most_jobs l.jobs (not-true _ i);
      owners = ltb-false most_owners l.owners (not-true _ k);
      fixed = ltb-false most_fixed (length l.from) (not-true _ m);
      pairs = eqb-true (length l.from) (length l.to) (not-false _ b);
      durations = eqb-true (length l.durations) l.jobs (not-false _ c);
      expected = none_or_all (length l.expected) l.jobs z;
    }
