-- An owner's route as its jobs: the stops' words halved. Assumes nothing.
use Prim.Native.Nat.{ℕ, zero, suc, ◌+◌, ◌/◌, ◌≤◌, ◌<◌}
use native.Mathlib.Omega.{arith}
use native.Mathlib.Numerals.{add-one}
use mathlib.Core.Path.{◌≡◌, refl, sym, ap, ◌∙◌}
use mathlib.Core.Bool.{Bool, true, false, not}
use mathlib.Core.List.{List, [], ◌∷◌, map}
use lib.Dec.{ltb}
use Rattle.std.specs.List.{list_all}
use lib.ListN.{length, get_or, set, drop, drop_of_length-le, length-map, length-set}
use lib.Seq.{sets, drop-cons}
use borrow.Author.Rules.{rules}
use Rattle.rules.specs.Lists.{all_below, is_zero}
use Rattle.rules.specs.Routes.{Stop, jobs_of}
use Rattle.rules.specs.Sizes.{most_entries}
use Rattle.rules.proofs.Ranges.{clash}
use Rattle.routes.specs.Stops.{word, words}
use Rattle.std.specs.Prelude.{Ok, Err}
use Rattle.rules.specs.declared.Refusal.TheVariants.{BrokenRoute}
use Rattle.routes.specs.Handing.{Broken, Stopped}
use Rattle.routes.specs.Store.{route_at}
use Rattle.routes.proofs.Codes.{half}
use Rattle.stores.proofs.Tabled.{taken_sets}
use Rattle.moves.specs.Stopping.{Stops, halves}

-- ── the words halved ──

pub halves_words : (l : List Stop) → halves (words l) ≡ map (λ (s : Stop). s.0) l
halves_words [] = refl
halves_words (s ∷ l) = rw (half s.0 s.1, halves_words l)

pub record Halving (row out₀ out : List ℕ) (i : ℕ) : Type 0 where
  pub long : length out ≡ length out₀
  pub left : sets out i (halves (drop i row)) ≡ sets out₀ 0 (halves row)

pub halving_none : (row out : List ℕ) → Halving row out out 0
halving_none row out = record { long = refl; left = refl }

module _ {row out₀ out : List ℕ} {i : ℕ} (H : Halving row out₀ out i) where
  pub halving_next : i < length row → Halving row out₀ (set out i (get_or row i 0 / 2)) (i + 1)
  halving_next h = record {
    long = length-set out i (get_or row i 0 / 2) ∙ H.long;
    left = rw add-one (sym (ap (λ (x : List ℕ). sets out i (halves x)) (drop-cons row i 0 h)) ∙ H.left);
  }

  pub halving_done : length row ≤ i → out ≡ sets out₀ 0 (halves row)
  halving_done h = sym (ap (λ (x : List ℕ). sets out i (halves x)) (drop_of_length-le row {i = i} h)) ∙ H.left

pub ruleset halving = (rules, halving_none, halving_next, halving_done)

-- ── the route ──

pub stops_broken : {l jobs : List ℕ} {o : ℕ} {b : Bool} → Broken l o b → b ≡ true → Stops l o (Err BrokenRoute) jobs
stops_broken {l} {o = o} B z = record { is = (refl, λ m H. pos (route_at m o).invalid (sym (B m H) ∙ z)) }
  where
    pos : (k : ℕ) → not (is_zero k) ≡ true → 0 < k
    pos zero e = clash e refl
    pos (suc k) e = omega arith

pub stops_are : {l row jobs : List ℕ} {o : ℕ} {b : Bool} (out : List ℕ) → Broken l o b → b ≡ false → Stopped l o row → length out ≡ most_entries
    → jobs ≡ sets out 0 (halves row) → Stops l o (Ok (length row)) jobs
stops_are {l} {row} {jobs} {o} out B z T lo q = record {
  is = (
    T.short,
    λ m H.
        let w : row ≡ words (route_at m o).stops = T.is m H in
        let long : length row ≡ length (route_at m o).stops = ap length w ∙ length-map (route_at m o).stops word in
        let j : halves row ≡ jobs_of (route_at m o) = ap halves w ∙ halves_words (route_at m o).stops in
        record {
          whole = none (route_at m o).invalid (sym (B m H) ∙ z);
          long = long;
          are =
              rw (q, j)
              (taken_sets out (jobs_of (route_at m o)) (length row)
              (length-map (route_at m o).stops (λ (s : Stop). s.0) ∙ sym long) (let a = T.short in omega arith));
        },
  );
}
  where
    none : (k : ℕ) → not (is_zero k) ≡ false → k ≡ 0
    none zero e = refl
    none (suc k) e = clash refl e

pub ruleset stopped = (rules, stops_broken, stops_are)

-- ── jobs below n ──

-- the tests of the numbers, one after the other, are the rules' test of them all
pub below_tested : (n : ℕ) (jobs : List ℕ) → list_all (λ v. ltb v n) jobs ≡ all_below n jobs
below_tested n [] = refl
below_tested n (v ∷ l) = rw (below_tested n l)
