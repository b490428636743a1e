-- Laws of critical arcs and of the scan along a route. Assumes nothing.
use Rattle.std.specs.List.{list_any}
use Rattle.std.proofs.Common.{◌≡◌, ◌-◌, Option, Some, None, ℕ, suc, ◌+◌, ◌/◌, ◌%◌, ◌^◌, ◌<◌, ◌≤◌, Bool, true, false, ◌&&◌, eqb, ltb, ◌⊎◌, List, [], ◌∷◌, ◌++◌, length, get_or, drop, sym, refl, ap, ◌∙◌, inl, inr, ⊎_elim, append-nil, add-one, arith, drop_of_length-le, drop-cons, rules, le-ltb, lt-ltb, eq-eqb, ne_eqb}
use Rattle.rules.specs.declared.Block.{Block}
use Rattle.rules.specs.Blocks.{ends, scan}
use Rattle.rules.specs.Graphs.{Graph}
use Rattle.rules.specs.Lists.{memb}
use Rattle.rules.proofs.Ranges.{clash, lt_or_le}
use Rattle.routes.proofs.Lists.{swap_eqb}
use Rattle.edges.specs.Edges.{Model, Holds}
use Rattle.edges.specs.Lists.{Successors}
use Rattle.graphs.specs.Graph.{at, live}
use Rattle.blocks.specs.Arcs.{Sight, sight, crit_in, tight_in, join_in, arc_in, Joins, Arced, scan_from, block_of, Ended, Begins}

-- ── `joins` ──

contained : (v : ℕ) (row : List ℕ) → list_any (λ y. eqb y v) row ≡ memb v row
contained v [] = refl
contained v (w ∷ l) = rw (swap_eqb w v, contained v l)

pub joins_joined : {e : List ℕ} {u y : ℕ} → y % 2 ≡ 1 → Joins e u y true
unfolding join_in
joins_joined {y = y} q = record { is = λ m h. rw (eq-eqb (y % 2) 1 q) }

pub joins_has : {e row : List ℕ} {u y : ℕ} {r : Bool} → Successors e u row → r ≡ list_any (λ x. eqb x (y / 2)) row → (y % 2 ≡ 1 → ⊥) → Joins e u y r
unfolding join_in
joins_has {row = row} {y = y} S er q = record { is = λ m h. rw (ne_eqb (y % 2) 1 q) (er ∙ contained (y / 2) row ∙ ap (memb (y / 2)) (S.is m h)) }

-- ── `is_arc` ──

module _ (e sp st c : List ℕ) {n x y u v : ℕ} (eu : u ≡ x / 2) (ev : v ≡ y / 2) {r : Bool} where
  pub arc_out : r ≡ false → ((u < n) × (n ≤ v)) ⊎ (n ≤ u) → Arced e (sight sp st c n) x y r
  unfolding arc_in
  arc_out q (inl (k, h)) = record { is = λ m hm. q ∙ rw (← eu, ← ev, lt-ltb u n k, le-ltb v n h) }
  arc_out q (inr h) = record { is = λ m hm. q ∙ rw (← eu, le-ltb u n h) }

  pub arc_loose : {t : Bool} → t ≡ tight_in sp st c u v → r ≡ t → r ≡ false → u < n → v < n → Arced e (sight sp st c n) x y r
  unfolding arc_in
  arc_loose et z q h k = record { is = λ m hm. q ∙ rw (← eu, ← ev, lt-ltb u n h, lt-ltb v n k, ← et, ← z, q) }

  pub arc_joins : {t : Bool} → Joins e u y r → t ≡ tight_in sp st c u v → t ≡ true → u < n → v < n → Arced e (sight sp st c n) x y r
  unfolding arc_in
  arc_joins J et q h k = record { is = λ m hm. J.is m hm ∙ rw (← eu, ← ev, lt-ltb u n h, lt-ltb v n k, ← et, q) }

-- a job that is not critical has no arc
no_arc : (E : Graph) (S : Sight) (x y : ℕ) → crit_in S.marks S.jobs x ≡ false → arc_in E S x y ≡ false
unfolding crit_in arc_in tight_in
no_arc E S x y q = go (ltb (x / 2) S.jobs) (eqb (at S.marks (x / 2)) 1) (ltb (y / 2) S.jobs) _ _ q
  where
    go : (a b d f g : Bool) → a && b ≡ false → a && (d && ((b && f) && g)) ≡ false
    go true true d f g z = clash refl z
    go true false true f g z = refl
    go true false false f g z = refl
    go false b d f g z = refl

-- ── one place of the scan ──

module _ (E : Graph) (S : Sight) (o : ℕ) (w : List ℕ) where
  abbrev scanned : ℕ → ℕ → List ℕ → List Block
  scanned = scan (crit_in S.marks S.jobs) (arc_in E S) o (length w)

  abbrev ended : ℕ → ℕ → List Block
  ended from i = ends (crit_in S.marks S.jobs) o (length w) from i (get_or w i 0)

  step_on : (from i a b : ℕ) (l : List ℕ) → arc_in E S a b ≡ true → scanned from i (a ∷ b ∷ l) ≡ scanned from (suc i) (b ∷ l)
  step_on from i a b l e = rw e

  step_off : (from i a b : ℕ) (l : List ℕ) → arc_in E S a b ≡ false
      → scanned from i (a ∷ b ∷ l) ≡ ends (crit_in S.marks S.jobs) o (length w) from i a ++ scanned (suc i) (suc i) (b ∷ l)
  step_off from i a b l e = rw e

  scan_on : (from i : ℕ) → suc i < length w → arc_in E S (get_or w i 0) (get_or w (suc i) 0) ≡ true
      → scanned from i (drop i w) ≡ scanned from (suc i) (drop (suc i) w)
  scan_on from i h e =
      rw (drop-cons w i 0 (omega arith), drop-cons w (suc i) 0 h) (step_on from i (get_or w i 0) (get_or w (suc i) 0) (drop (suc (suc i)) w) e)

  scan_off : (from i : ℕ) → i < length w → (suc i < length w → arc_in E S (get_or w i 0) (get_or w (suc i) 0) ≡ false)
      → scanned from i (drop i w) ≡ ended from i ++ scanned (suc i) (suc i) (drop (suc i) w)
  scan_off from i h f = go (lt_or_le (suc i) (length w))
    where
      go : (suc i < length w) ⊎ (length w ≤ suc i) → scanned from i (drop i w) ≡ ended from i ++ scanned (suc i) (suc i) (drop (suc i) w)
      go (inl k) = rw (drop-cons w i 0 h, drop-cons w (suc i) 0 k)
          (step_off from i (get_or w i 0) (get_or w (suc i) 0) (drop (suc (suc i)) w) (f k))
      go (inr k) = rw (drop-cons w i 0 h, drop_of_length-le w k) (sym (append-nil (ended from i)))

  -- a place that is not critical is passed over
  scan_skip : (i : ℕ) → i < length w → crit_in S.marks S.jobs (get_or w i 0) ≡ false → scan_from E S o w i ≡ scan_from E S o w (suc i)
  unfolding scan_from
  scan_skip i h q = scan_off i i h (λ k. no_arc E S (get_or w i 0) (get_or w (suc i) 0) q) ∙ rw (le-ltb i i (omega arith), q)

  -- the run from a critical place is a block
  block_is : (from i : ℕ) → from ≤ i → crit_in S.marks S.jobs (get_or w from 0) ≡ true → ended from i ≡ block_of o (length w) from i ∷ []
  block_is from i h q = ⊎_elim (λ (k : from < i). rw (lt-ltb from i k)) (λ (k : i ≤ from). alone (omega arith)) (lt_or_le from i)
    where
      alone : from ≡ i → ended from i ≡ block_of o (length w) from i ∷ []
      alone z = rw (← z, le-ltb from from (omega arith), q)

-- ── `run_end`: the run has come as far as place i ──

pub record Running (e : List ℕ) (S : Sight) (w : List ℕ) (from i : ℕ) : Type 0 where
  pub rising : from ≤ i
  pub inside : i < length w
  pub is : (m : Model) → Holds e m → (o : ℕ) → scan_from (live m) S o w from ≡ scanned (live m) S o w from i (drop i w)

pub running_none : (e : List ℕ) (S : Sight) {w : List ℕ} {from : ℕ} → from < length w → Running e S w from from
unfolding scan_from
running_none e S h = record { rising = omega arith; inside = h; is = λ m hm o. refl }

module _ {e : List ℕ} {S : Sight} {w : List ℕ} {from i : ℕ} (R : Running e S w from i) where
  run_over : ((m : Model) → Holds e m → suc i < length w → arc_in (live m) S (get_or w i 0) (get_or w (suc i) 0) ≡ false) → Ended e S w from i
  unfolding scan_from
  run_over f = record {
    rising = R.rising;
    inside = R.inside;
    is = λ m hm q o. R.is m hm o ∙ scan_off (live m) S o w from i R.inside (f m hm) ∙ rw (block_is (live m) S o w from i R.rising q);
  }

  pub running_done : {r : ℕ} → r ≡ length w - 1 → length w - 1 ≤ i → Ended e S w from r
  running_done {r} er h =
      let q : r ≡ i = let a = R.inside in omega arith in
      rw q (run_over (λ m hm k. let f : ⊥ = omega arith in absurd f))

  module _ {r : Bool} (A : Arced e S (get_or w i 0) (get_or w (i + 1) 0) r) where
    pub running_stops : r ≡ false → Ended e S w from i
    running_stops q = run_over (λ m hm k. rw (← add-one i) (sym (A.is m hm) ∙ q))

    pub running_next : r ≡ true → i + 1 < length w → Running e S w from (i + 1)
    running_next q h = record {
      rising = let a = R.rising in omega arith;
      inside = h;
      is = λ m hm o. R.is m hm o
          ∙ rw add-one (scan_on (live m) S o w from i (omega arith) (rw (← add-one i) (sym (A.is m hm) ∙ q)));
    }

-- ── `first_critical`: no block begins before place i ──

pub record Seeking (c : List ℕ) (n : ℕ) (w : List ℕ) (from i : ℕ) : Type 0 where
  pub rising : from ≤ i
  pub is : (E : Graph) (sp st : List ℕ) (o : ℕ) → scan_from E (sight sp st c n) o w from ≡ scan_from E (sight sp st c n) o w i

pub seeking_none : (c : List ℕ) (n : ℕ) (w : List ℕ) (from : ℕ) → Seeking c n w from from
seeking_none c n w from = record { rising = omega arith; is = λ E sp st o. refl }

module _ {c : List ℕ} {n : ℕ} {w : List ℕ} {from i : ℕ} (K : Seeking c n w from i) where
  pub seeking_found : {r : Bool} → r ≡ crit_in c n (get_or w i 0) → r ≡ true → i < length w → Begins c n w from (Some i)
  seeking_found er q h = (h, record { rising = K.rising; marked = λ k. sym er ∙ q; is = K.is })

  pub seeking_next : {r : Bool} → r ≡ crit_in c n (get_or w i 0) → r ≡ false → i < length w → Seeking c n w from (i + 1)
  seeking_next er q h = record {
    rising = let a = K.rising in omega arith;
    is = λ E sp st o. K.is E sp st o ∙ rw add-one (scan_skip E (sight sp st c n) o w i h (sym er ∙ q));
  }

  pub seeking_done : length w ≤ i → Begins c n w from None
  unfolding scan_from
  seeking_done h = λ E sp st o. K.is E sp st o ∙ rw (drop_of_length-le w h)

-- what the functions of runs are proved by
pub ruleset running = (rules, joins_joined, joins_has, arc_out, arc_loose, arc_joins, running_none, running_next, running_stops, running_done, seeking_none, seeking_found, seeking_next, seeking_done)
