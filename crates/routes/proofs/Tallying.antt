-- How often each job is in force: one stop, and the loops over stops of `unassign` and `assign`. Assumes nothing.
use Rattle.std.proofs.Common.{◌≡◌, ℕ, ◌^◌, min, ◌+◌, ◌-◌, ◌/◌, ◌<◌, ◌≤◌, Bool, true, false, List, [], ◌∷◌, map, length, get_or, take, drop, ◌++◌, set, sym, refl, ◌∙◌, ⊎_elim, arith, length-set, get_or-set_other, get_or-set_same, eq-eqb, ne_eqb}
use lib.Seq.{set_out}
use Rattle.rules.specs.Sizes.{most_jobs, most_entries, routes_length}
use Rattle.rules.specs.Scores.{times_in}
use Rattle.rules.specs.Routes.{Stop}
use Rattle.rules.proofs.Ranges.{same}
use Rattle.routes.specs.Stops.{word, words}
use Rattle.routes.specs.Store.{stops_at, assigned_at}
use Rattle.routes.specs.Counting.{stepped, count_one, count_all, stops_in, recount_in}
use Rattle.words.proofs.Rows.{row_cons, row_none}
use Rattle.routes.proofs.Lists.{bit_one, bit_none}
use Rattle.routes.proofs.Codes.{half}
use Rattle.routes.proofs.Windows.{mid_before, part_is}

-- ── one stop ──

pub step_up : (b : Bool) (c : ℕ) → b ≡ true → min (c + 1) (2 ^ 16 - 1) ≡ stepped b c
step_up b c q = rw q (omega arith)

pub step_down : (b : Bool) (c : ℕ) → b ≡ false → c - 1 ≡ stepped b c
step_down b c q = rw q (omega arith)

module _ (b : Bool) (a : List ℕ) (w j : ℕ) (e : j ≡ w / 2) where
  pub count_out : length a ≡ most_jobs → most_jobs ≤ j → a ≡ count_one b a w
  count_out l h = sym (set_out a (w / 2) (stepped b (get_or a (w / 2) 0)) (omega arith))

  pub count_in : (c : ℕ) → c ≡ stepped b (get_or a j 0) → set a j c ≡ count_one b a w
  count_in c q = rw (q, e)

-- ── stop after stop ──

pub count_long : (b : Bool) (a l : List ℕ) → length (count_all b a l) ≡ length a
unfolding count_all
count_long b a [] = refl
count_long b a (w ∷ l) = count_long b (count_one b a w) l ∙ simp length-set

-- once the rest of the stops is counted, all are
pub record Recounting (b : Bool) (a₀ s a : List ℕ) (i : ℕ) : Type 0 where
  pub rest : count_all b a (drop i s) ≡ count_all b a₀ s

pub recount_none : (b : Bool) (a s : List ℕ) → Recounting b a s a 0
recount_none b a s = record { rest = refl }

module _ {b : Bool} {a₀ s a : List ℕ} {i : ℕ} (k : Recounting b a₀ s a i) where
  pub recount_on : {a₁ : List ℕ} → a₁ ≡ count_one b a (get_or s i 0) → i < length s → Recounting b a₀ s a₁ (i + 1)
  unfolding count_all
  recount_on e h = record { rest = rw e (sym (rw (row_cons s i h)) ∙ k.rest) }

  pub recount_done : length s ≤ i → a ≡ count_all b a₀ s
  unfolding count_all
  recount_done h = sym (rw (row_none s i h)) ∙ k.rest

-- the stops from f up to t of the words before the counts
pub unassigned : (f t : ℕ) (r : List ℕ) {x y u : List ℕ} → length r ≡ routes_length → (f ≤ t) × (t ≤ most_entries) → x ≡ take assigned_at r
    → y ≡ drop assigned_at r → u ≡ count_all false (take most_jobs y) (take (stops_at + t - (stops_at + f)) (drop (stops_at + f) x))
    → x ++ (u ++ drop most_jobs y) ≡ recount_in false (stops_in r f t) r
unfolding recount_in
unassigned f t r l h p q e =
    let s = part_is stops_at most_entries f t (take assigned_at r) h.0 h.1 in
    rw (e, p, q, s, mid_before assigned_at r (omega arith) stops_at most_entries (omega arith))

pub ruleset tallying = (step_up, step_down, count_out, count_in, recount_none, recount_on, recount_done)

-- ── what the stops of a route come to ──

abbrev jobs_in : List Stop → List ℕ
jobs_in = map (λ (s : Stop). s.0)

module _ (b : Bool) (a : List ℕ) (s : Stop) (v : ℕ) where
  counted_own : s.0 ≡ v → v < length a → get_or (count_one b a (word s)) v 0 ≡ stepped b (get_or a v 0)
  counted_own q h = rw (half s.0 s.1, q) (get_or-set_same a v (stepped b (get_or a v 0)) 0 h)

  counted_other : (v ≡ s.0 → ⊥) → get_or (count_one b a (word s)) v 0 ≡ get_or a v 0
  counted_other q = rw (half s.0 s.1) (get_or-set_other a s.0 v (stepped b (get_or a s.0 0)) 0 q)

pub counted_less : (l : List Stop) (a : List ℕ) (v : ℕ) → v < length a
    → get_or (count_all false a (words l)) v 0 ≡ get_or a v 0 - times_in v (jobs_in l)
unfolding count_all
counted_less [] a v h = omega arith
counted_less (s ∷ l) a v h =
    let ih = counted_less l (count_one false a (word s)) v (rw length-set h) in
    ⊎_elim (λ (q : v ≡ s.0). omega (arith, counted_own false a s v (sym q) h, bit_one (eq-eqb v s.0 q)))
    (λ q. omega (arith, counted_other false a s v q, bit_none (ne_eqb v s.0 q))) (same v s.0)

pub counted_more : (l : List Stop) (a : List ℕ) (v : ℕ) → v < length a → get_or a v 0 + times_in v (jobs_in l) ≤ 65535
    → get_or (count_all true a (words l)) v 0 ≡ get_or a v 0 + times_in v (jobs_in l)
unfolding count_all
counted_more [] a v h k = omega arith
counted_more (s ∷ l) a v h k = ⊎_elim
    (λ (q : v ≡ s.0).
    let c = counted_own true a s v (sym q) h in
    let d = bit_one (eq-eqb v s.0 q) in
    let ih = counted_more l (count_one true a (word s)) v (rw length-set h) (omega arith) in
    omega arith)
    (λ q.
    let c = counted_other true a s v q in
    let d = bit_none (ne_eqb v s.0 q) in
    let ih = counted_more l (count_one true a (word s)) v (rw length-set h) (omega arith) in
    omega arith) (same v s.0)
