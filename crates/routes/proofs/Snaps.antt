-- `snapshot`: what is left of the entries decides what is still to be counted and written. Assumes nothing.
use Rattle.std.proofs.Common.{◌≡◌, ℕ, not, ◌&&◌, ◌==◌, ap, zero, suc, ◌+◌, ◌*◌, ◌<◌, ◌≤◌, Bool, true, false, eqb, ltb, List, [], ◌∷◌, map, length, get_or, drop, set, sym, refl, ◌∙◌, add-one, arith, drop_of_length-le, drop-cons, rules, ltb-true, eq-eqb, ne_eqb}
use lib.ListN.{get_or-eq_default}
use lib.Seq.{sets}
use Rattle.rules.specs.Lists.{tick, sum_of}
use Rattle.rules.specs.Sizes.{Base, most_jobs, nobodys}
use Rattle.rules.specs.Routes.{Stop, stops_of, invalid_of, read, violates}
use Rattle.routes.specs.Stops.{bit, word, words}
use Rattle.routes.specs.Snapped.{strayed, Stated, Snapped}

-- ── one job ──

-- the default of a look-up inside the list
get_or_any : (l : List ℕ) (i d e : ℕ) → i < length l → get_or l i d ≡ get_or l i e
get_or_any [] i d e h = absurd (omega arith)
get_or_any (x ∷ l) zero d e h = refl
get_or_any (x ∷ l) (suc i) d e h = get_or_any l i d e (omega arith)

-- what `strays` answers
pub stated_none : (l : List ℕ) (o : ℕ) {v : ℕ} → length l ≤ v → false ≡ strayed o (get_or l v nobodys)
stated_none l o h = rw (get_or-eq_default l nobodys h)

pub stated_some : (l : List ℕ) (o : ℕ) {v e : ℕ} → v < length l → e ≡ get_or l v 0 → not (e == nobodys) && not (e == o) ≡ strayed o (get_or l v nobodys)
stated_some l o {v} h q = rw (get_or_any l v nobodys 0 h, q)

-- ── all entries ──

-- the violations of some stops
abbrev violated : Base → ℕ → List Stop → ℕ
violated b o l = sum_of (λ v. tick (violates b o v) 0) (map (λ (s : Stop). s.0) l)

-- where the scan stands at place i: what is left, read with the flag, makes up the rest of the whole
pub record Scan (entries expected out₀ : List ℕ) (n o : ℕ) (out : List ℕ) (valid invalid strays : ℕ) (flag : Bool) (i : ℕ) : Type 0 where
  pub within : i ≤ length entries
  pub all : valid + invalid ≡ i
  pub few : strays ≤ valid
  pub count : valid + length (stops_of n flag (drop i entries)) ≡ length (stops_of n false entries)
  pub bad : invalid + invalid_of n (drop i entries) ≡ invalid_of n entries
  pub stray : (b : Base) → Stated n expected b
      → strays + violated b o (stops_of n flag (drop i entries)) ≡ violated b o (stops_of n false entries)
  pub written : sets out valid (words (stops_of n flag (drop i entries))) ≡ sets out₀ 0 (words (stops_of n false entries))

bit_few : (b : Bool) → bit b ≤ 1
bit_few true = omega arith
bit_few false = omega arith

module _ {entries expected out₀ : List ℕ} {n o : ℕ} where
  pub scan_start : Scan entries expected out₀ n o out₀ 0 0 0 false 0
  scan_start = record {
    within = omega arith;
    all = omega arith;
    few = omega arith;
    count = omega arith;
    bad = omega arith;
    stray = λ b h. omega arith;
    written = refl;
  }

  module _ {out : List ℕ} {valid invalid strays : ℕ} {flag : Bool} {i : ℕ} (s : Scan entries expected out₀ n o out valid invalid strays flag i) where
    pub scan_low : {has : Bool} {v : ℕ} → has ≡ ltb v n → has ≡ true → n ≤ most_jobs → v < most_jobs
    scan_low e q k = let a = ltb-true _ n (sym e ∙ q) in omega arith

    module _ {has : Bool} (e : has ≡ ltb (get_or entries i 0) n) (h : i < length entries) where
      left : drop i entries ≡ get_or entries i 0 ∷ drop (i + 1) entries
      left = drop-cons entries i 0 h ∙ rw add-one

      pub scan_valid : has ≡ true → {w t : ℕ} {b : Bool} → w ≡ word (get_or entries i 0, flag) → b ≡ strayed o (get_or expected (get_or entries i 0) nobodys)
          → t ≡ bit b → Scan entries expected out₀ n o (set out valid w) (valid + 1) invalid (strays + t) true (i + 1)
      scan_valid q {w} {t} {b} ew et bt =
          let z : ltb (get_or entries i 0) n ≡ true = sym e ∙ q in
          record {
            within = omega arith;
            all = let a = s.all in omega arith;
            few = let a = s.few in let c = bit_few b in omega arith;
            count = let a = rw (left, z) at s.count in omega arith;
            bad = let a = rw (left, z) at s.bad in omega arith;
            stray = λ b g. let a = rw (left, z) at (s.stray b g) in let c = rw (g (get_or entries i 0) (ltb-true _ n z)) at et in omega (arith, bt ∙ ap bit c);
            written = rw (add-one valid, ew) (rw (left, z) at s.written);
          }

      pub scan_bad : has ≡ false → Scan entries expected out₀ n o out valid (invalid + 1) strays false (i + 1)
      scan_bad q =
          let z : ltb (get_or entries i 0) n ≡ false = sym e ∙ q in
          record {
            within = omega arith;
            all = let a = s.all in omega arith;
            few = let a = s.few in omega arith;
            count = rw (left, z) at s.count;
            bad = let a = rw (left, z) at s.bad in omega arith;
            stray = λ b g. rw (left, z) at (s.stray b g);
            written = rw (left, z) at s.written;
          }

    pub scan_done : length entries ≤ i
        → Snapped n entries expected o out₀ out (record { valid = valid; invalid = invalid; violations = strays })
    unfolding read
    scan_done h =
        let none : drop i entries ≡ [] = drop_of_length-le entries h in
        record {
          valid = let a = rw none at s.count in omega arith;
          invalid = let a = rw none at s.bad in omega arith;
          violations = λ b g. let a = rw none at (s.stray b g) in omega arith;
          all = let a = s.all in let b = s.within in omega arith;
          few = s.few;
          written = rw none at s.written;
        }

pub ruleset snapping = (rules, scan_start, scan_low, scan_valid, scan_bad, scan_done)
