-- Line-ups and cycles of a graph: jobs 0 to n - 1, and a test `E u v`, "an edge leads from u to v".
-- `order` takes, again and again, the lowest job none of whose predecessors remain. It answers the line_up that is lowest in dictionary order,
-- or none; and then there is a cycle. Assumes nothing.
use Prim.Native.Nat.{ℕ, zero, suc, ◌≤◌, ◌<◌}
use mathlib.Core.Path.{◌≡◌, refl, sym, ap, ◌∙◌}
use mathlib.Core.Bool.{Bool, true, false, ◌&&◌, cond}
use mathlib.Core.Option.{Option, none, some, map}
use mathlib.Core.Logic.{◌⊎◌, inl, inr, ⊎_elim}
use mathlib.Core.List.{List, [], ◌∷◌, ◌++◌, append_assoc}
use native.Mathlib.Omega.{arith}
use native.Mathlib.Nat.{not-suc-le-zero}
use lib.Dec.{eqb}
use lib.ListN.{length, get_or}
use borrow.Author.Tests.{eq-eqb, ne_eqb}
use Rattle.rules.specs.Graphs.{Lex, LineUp, LowestLineUp, lex_eq, lex_lt, lex_nil}
use Rattle.rules.specs.Lists.{count, first, less}
use Rattle.rules.specs.Shown.{lineup, order, place, ready}
use Rattle.rules.specs.Solved.{Rises, Ranks, behind}
use Rattle.rules.proofs.Ranges.{Found, Test, and_left, and_true, clash, count_all_lem, count_le, count_less, count_none, count_some}
use Rattle.rules.proofs.Ranges.{count_zero, fail, found, hit, less_other, less_true, miss, nobody_false, nobody_of, nobody_true}
use Rattle.rules.proofs.Ranges.{pass, same, test}

-- where a job stands in a list
abbrev pub place_of : List ℕ → ℕ → ℕ
place_of [] v = 0
place_of (w ∷ l) v = cond (eqb v w) 0 (suc (place_of l v))

module _ (n : ℕ) (E : ℕ → ℕ → Bool) where
  -- a walk of one edge or more; a circuit ends where it starts
  pub data Walk : ℕ → ℕ → Type 0 where
    one : {u v : ℕ} → E u v ≡ true → Walk u v
    more : {u v w : ℕ} → v < n → E u v ≡ true → Walk v w → Walk u w

  abbrev pub Circuit : Type 0
  Circuit = (v : ℕ) × (v < n) × Walk v v

  -- l lists the jobs of R, each after its predecessors in R
  pub data Lead : List ℕ → (ℕ → Bool) → Type 0 where
    led_none : {R : ℕ → Bool} → ((v : ℕ) → v < n → R v ≡ false) → Lead [] R
    led_by : {v : ℕ} {l : List ℕ} {R : ℕ → Bool} → v < n → R v ≡ true → ((u : ℕ) → u < n → R u ≡ true → E u v ≡ false)
        → Lead l (less R v) → Lead (v ∷ l) R

  -- a nonempty set of jobs each of which has a predecessor in it
  pub record Stuck (S : ℕ → Bool) : Type 0 where
    pub member : (v : ℕ) × (v < n) × (S v ≡ true)
    pub back : (v : ℕ) → v < n → S v ≡ true → (u : ℕ) × (u < n) × (S u ≡ true) × (E u v ≡ true)

  -- what `lineup` answers
  pub data Answer (R : ℕ → Bool) : Option (List ℕ) → Type 0 where
    lined : (l : List ℕ) → Lead l R → ((m : List ℕ) → Lead m R → Lex l m) → Answer R (some l)
    stuck : (S : ℕ → Bool) → Stuck S → Answer R none

  pub ready_true : (R : ℕ → Bool) (v : ℕ) → ready n E R v ≡ true → (R v ≡ true) × ((u : ℕ) → u < n → R u ≡ true → E u v ≡ false)
  ready_true R v q = let (a, b) = and_true q in (a, λ u h e. and_left (nobody_true n (λ u. R u && E u v) b u h) e)

  pub ready_of : (R : ℕ → Bool) (v : ℕ) → R v ≡ true → ((u : ℕ) → u < n → R u ≡ true → E u v ≡ false) → ready n E R v ≡ true
  ready_of R v e f = rw (e, nobody_of n (λ u. R u && E u v) (λ u h. go u h (test (R u))))
    where
      go : (u : ℕ) → u < n → Test (R u) → (R u && E u v) ≡ false
      go u h (pass r) = rw (r) (f u h r)
      go u h (fail r) = rw (r)

  pub ready_false : (R : ℕ → Bool) (v : ℕ) → ready n E R v ≡ false → R v ≡ true → (u : ℕ) × (u < n) × (R u ≡ true) × (E u v ≡ true)
  ready_false R v q e = let (u, h, t) = nobody_false n (λ u. R u && E u v) (and_left q e) in let (a, b) = and_true {a = R u} t in
      (u, h, a, b)

  pub answer : (k : ℕ) (R : ℕ → Bool) → count n R ≡ k → Answer R (lineup n E k R)
  answer zero R c = lined [] (led_none (count_zero n R c)) (λ m d. lex_nil)
  answer (suc k) R c = go (λ R' c'. answer k R' c') (found n (ready n E R))
    where
      least : (v : ℕ) (l : List ℕ) → R v ≡ true → v < n → ((w : ℕ) → ready n E R w ≡ true → v ≤ w)
          → ((m : List ℕ) → Lead m (less R v) → Lex l m) → (m : List ℕ) → Lead m R → Lex (v ∷ l) m
      least v l e h low ih m (led_none f) = clash e (f v h)
      least v l e h low ih m (led_by {v = w} {l = m'} hw ew pw d) = pick (same v w)
        where
          pick : (v ≡ w) ⊎ (v ≡ w → ⊥) → Lex (v ∷ l) (w ∷ m')
          pick (inl q) = lex_eq q (ih m' (rw q d))
          pick (inr q) = let z = low w (ready_of R w ew pw) in let y : v < w = omega arith in lex_lt y

      put : (v : ℕ) → v < n → ready n E R v ≡ true → ((w : ℕ) → ready n E R w ≡ true → v ≤ w) → {o : Option (List ℕ)}
          → Answer (less R v) o → Answer R (map (λ (l : List ℕ). v ∷ l) o)
      put v h q low (lined l d f) = let (e, pv) = ready_true R v q in lined (v ∷ l) (led_by h e pv d) (least v l e h low f)
      put v h q low (stuck S s) = stuck S s

      go : ((R' : ℕ → Bool) → count n R' ≡ k → Answer R' (lineup n E k R')) → {o : Option ℕ} → Found n (ready n E R) o
          → Answer R (place o (λ v. lineup n E k (less R v)))
      go ih (hit v h q low) = put v h q low (ih (less R v) (let z = count_less n R v h (ready_true R v q).0 in omega arith))
      go ih (miss m) = stuck R (record { member = count_some n R c; back = λ v h e. ready_false R v (m v h) e })

  -- a nonempty set each of whose jobs has a predecessor in it holds a cycle: go back from job to job; U is what was not yet met,
  -- and from the job at hand a walk leads to each job met before
  pub stuck_circuit : (S : ℕ → Bool) → Stuck S → Circuit
  stuck_circuit S s = let (v, h, e) = s.member in follow n S v (count_le n S) h e (λ x hx ex. inl ex)
    where
      Met : ℕ → (ℕ → Bool) → ℕ → Type 0
      Met v U x = (U x ≡ true) ⊎ ((x ≡ v) ⊎ Walk v x)

      close : (U : ℕ → Bool) (v u : ℕ) → v < n → u < n → E u v ≡ true → Met v U u → (U u ≡ true → Circuit) → Circuit
      close U v u hv h d (inl m) f = f m
      close U v u hv h d (inr (inl q)) f = (u, h, one (rw (← q) at d))
      close U v u hv h d (inr (inr w)) f = (u, h, more hv d w)

      onward : (U : ℕ → Bool) (v u : ℕ) → v < n → E u v ≡ true → ((x : ℕ) → x < n → S x ≡ true → Met v U x) → (x : ℕ) → x < n
          → S x ≡ true → Met u (less U u) x
      onward U v u hv d met x h e = go (met x h e) (same x u)
        where
          go : Met v U x → (x ≡ u) ⊎ (x ≡ u → ⊥) → Met u (less U u) x
          go m (inl q) = inr (inl q)
          go (inl m) (inr q) = inl (less_other U u x q ∙ m)
          go (inr (inl r)) (inr q) = inr (inr (let y : E u x ≡ true = rw r d in one y))
          go (inr (inr w)) (inr q) = inr (inr (more hv d w))

      follow : (k : ℕ) (U : ℕ → Bool) (v : ℕ) → count n U ≤ k → v < n → S v ≡ true → ((x : ℕ) → x < n → S x ≡ true → Met v U x)
          → Circuit
      follow zero U v c h e met = let (u, hu, eu, d) = s.back v h e in
          close U v u h hu d (met u hu eu) (λ m. let z = count_less n U u hu m in let y : ⊥ = omega arith in absurd y)
      follow (suc k) U v c h e met =
          let (u, hu, eu, d) = s.back v h e in
          close U v u h hu d (met u hu eu)
          (λ m. follow k (less U u) u (let z = count_less n U u hu m in omega arith) hu eu (onward U v u h d met))

  lead_rises : (l : List ℕ) (R : ℕ → Bool) → Lead l R → (u v : ℕ) → u < n → v < n → R u ≡ true → R v ≡ true → E u v ≡ true
      → place_of l u < place_of l v
  lead_rises l R (led_none f) u v hu hv ru rv e = clash ru (f u hu)
  lead_rises l R (led_by {v = w} {l = l'} hw rw' pw d) u v hu hv ru rv e =
      go (same v w) (same u w) (λ a b. lead_rises l' (less R w) d u v hu hv a b e)
    where
      go : (v ≡ w) ⊎ (v ≡ w → ⊥) → (u ≡ w) ⊎ (u ≡ w → ⊥) → (less R w u ≡ true → less R w v ≡ true → place_of l' u < place_of l' v)
          → place_of (w ∷ l') u < place_of (w ∷ l') v
      go (inl q) s ih = clash e (rw q (pw u hu ru))
      go (inr q) (inl s) ih = rw (ne_eqb v w q, eq-eqb u w s) (omega arith)
      go (inr q) (inr s) ih = let z = ih (less_other R w u s ∙ ru) (less_other R w v q ∙ rv) in
          rw (ne_eqb v w q, ne_eqb u w s) (omega arith)

  pub walk_rises : (r : ℕ → ℕ) → Rises n E r → {u v : ℕ} → u < n → v < n → Walk u v → r u < r v
  walk_rises r f hu hv (one e) = f _ _ hu hv e
  walk_rises r f {u} {v} hu hv (more {v = w} hw e k) = let a = f u w hu hw e in let b = walk_rises r f hw hv k in omega arith

  pub rises_no_circuit : (r : ℕ → ℕ) → Rises n E r → Circuit → ⊥
  rises_no_circuit r f (v, h, w) = let a = walk_rises r f h h w in omega arith

  -- a line-up: l lists the jobs of R, each once, and leads every edge between them forward
  pub record Listed (R : ℕ → Bool) (l : List ℕ) : Type 0 where
    pub within : (i : ℕ) → i < length l → (get_or l i 0 < n) × (R (get_or l i 0) ≡ true)
    pub onto : (v : ℕ) → v < n → R v ≡ true → (i : ℕ) × (i < length l) × (get_or l i 0 ≡ v)
    pub once : (i j : ℕ) → i < length l → j < length l → get_or l i 0 ≡ get_or l j 0 → i ≡ j
    pub forward : (i j : ℕ) → i < length l → j < length l → E (get_or l i 0) (get_or l j 0) ≡ true → i < j

  lead_listed : {l : List ℕ} {R : ℕ → Bool} → Lead l R → Listed R l
  lead_listed (led_none f) = record {
    within = λ i h. absurd (not-suc-le-zero h);
    onto = λ v h e. clash e (f v h);
    once = λ i j h. absurd (not-suc-le-zero h);
    forward = λ i j h. absurd (not-suc-le-zero h);
  }
  lead_listed (led_by {v = v} {l = l} {R = R} h e pv d) = go (lead_listed d)
    where
      go : Listed (less R v) l → Listed R (v ∷ l)
      go L = record { within = wi; onto = on; once = on1; forward = fo }
        where
          wi : (i : ℕ) → i < suc (length l) → (get_or (v ∷ l) i 0 < n) × (R (get_or (v ∷ l) i 0) ≡ true)
          wi zero k = (h, e)
          wi (suc i) k = let (a, b) = L.within i (omega arith) in (a, (less_true R v (get_or l i 0) b).0)

          on : (w : ℕ) → w < n → R w ≡ true → (i : ℕ) × (i < suc (length l)) × (get_or (v ∷ l) i 0 ≡ w)
          on w k f = ⊎_elim (λ (q : w ≡ v). (0, omega arith, sym q))
              (λ (q : w ≡ v → ⊥). let (i, a, b) = L.onto w k (less_other R v w q ∙ f) in (suc i, omega arith, b)) (same w v)

          apart : (i : ℕ) → i < length l → get_or l i 0 ≡ v → ⊥
          apart i k = (less_true R v (get_or l i 0) (L.within i k).1).1

          on1 : (i j : ℕ) → i < suc (length l) → j < suc (length l) → get_or (v ∷ l) i 0 ≡ get_or (v ∷ l) j 0 → i ≡ j
          on1 zero zero a b q = refl
          on1 zero (suc j) a b q = absurd (apart j (omega arith) (sym q))
          on1 (suc i) zero a b q = absurd (apart i (omega arith) q)
          on1 (suc i) (suc j) a b q = ap suc (L.once i j (omega arith) (omega arith) q)

          fo : (i j : ℕ) → i < suc (length l) → j < suc (length l) → E (get_or (v ∷ l) i 0) (get_or (v ∷ l) j 0) ≡ true → i < j
          fo i zero a b q = clash q (let (x, y) = wi i a in pv (get_or (v ∷ l) i 0) x y)
          fo zero (suc j) a b q = omega arith
          fo (suc i) (suc j) a b q = let z = L.forward i j (omega arith) (omega arith) q in omega arith

  listed_lead : (l : List ℕ) (R : ℕ → Bool) → Listed R l → Lead l R
  listed_lead [] R L = led_none (λ v h. go v h (test (R v)))
    where
      go : (v : ℕ) → v < n → Test (R v) → R v ≡ false
      go v h (pass e) = let (i, a, b) = L.onto v h e in absurd (not-suc-le-zero a)
      go v h (fail e) = e
  listed_lead (v ∷ l) R L = let (h, e) = L.within 0 (omega arith) in
      led_by h e (λ u hu eu. first_free u hu eu (test (E u v))) (listed_lead l (less R v) rest)
    where
      first_free : (u : ℕ) → u < n → R u ≡ true → Test (E u v) → E u v ≡ false
      first_free u hu eu (fail q) = q
      first_free u hu eu (pass q) = let (i, a, b) = L.onto u hu eu in
          absurd (not-suc-le-zero (L.forward i 0 a (omega arith) (rw b q)))

      apart : (i : ℕ) → i < length l → get_or l i 0 ≡ v → ⊥
      apart i k q = let z = L.once (suc i) 0 (omega arith) (omega arith) q in omega arith

      on : (w : ℕ) → w < n → less R v w ≡ true → (i : ℕ) × (i < suc (length l)) × (get_or (v ∷ l) i 0 ≡ w)
          → (i : ℕ) × (i < length l) × (get_or l i 0 ≡ w)
      on w h f (zero, a, b) = absurd ((less_true R v w f).1 (sym b))
      on w h f (suc i, a, b) = (i, omega arith, b)

      rest : Listed (less R v) l
      rest = record {
        within = λ i k. let (a, b) = L.within (suc i) (omega arith) in (a, less_other R v (get_or l i 0) (apart i k) ∙ b);
        onto = λ w h f. on w h f (L.onto w h (less_true R v w f).0);
        once = λ i j a b q. let z = L.once (suc i) (suc j) (omega arith) (omega arith) q in omega arith;
        forward = λ i j a b q. let z = L.forward (suc i) (suc j) (omega arith) (omega arith) q in omega arith;
      }

  -- the rules' line_up of all jobs is such a list
  listed_lineup : {l : List ℕ} → Listed (λ v. true) l → LineUp n E l
  listed_lineup L = record {
    within = λ i h. (L.within i h).0;
    all = λ v h. L.onto v h refl;
    once = L.once;
    forward = L.forward;
  }

  pub lineup_led : (l : List ℕ) → LineUp n E l → Lead l (λ v. true)
  lineup_led l L = listed_lead l (λ v. true) (record {
    within = λ i h. (L.within i h, refl);
    onto = λ v h e. L.all v h;
    once = L.once;
    forward = L.forward;
  })

  -- what `order` answers: the lowest line_up of all jobs, with numbers that rise; or none, and there is a circuit
  pub data Verdict : Option (List ℕ) → Type 0 where
    acyclic : (l : List ℕ) → LowestLineUp n E l → Rises n E (place_of l) → Verdict (some l)
    cyclic : Circuit → Verdict none

  pub verdict : Verdict (order n E)
  verdict = go (answer n (λ v. true) (count_all_lem n))
    where
      go : {o : Option (List ℕ)} → Answer (λ v. true) o → Verdict o
      go (lined l d f) = acyclic l
          (record { is = listed_lineup (lead_listed d); lowest = λ m L. f m (lineup_led m L) })
          (λ u v hu hv e. lead_rises l (λ v. true) d u v hu hv refl refl e)
      go (stuck S s) = cyclic (stuck_circuit S s)

  -- a circuit leaves no line_up
  pub circuit_no_lineup : (l : List ℕ) → LineUp n E l → Circuit → ⊥
  circuit_no_lineup l L = rises_no_circuit (place_of l)
      (λ u v hu hv e. lead_rises l (λ v. true) (lineup_led l L) u v hu hv refl refl e)

  -- if there is a line_up, `order` answers the lowest
  pub lineup_answered : (m : List ℕ) → LineUp n E m → (l : List ℕ) × (order n E ≡ some l) × LowestLineUp n E l
  lineup_answered m M = go (order n E) refl verdict
    where
      go : (o : Option (List ℕ)) → order n E ≡ o → Verdict o → (l : List ℕ) × (order n E ≡ some l) × LowestLineUp n E l
      go o e (acyclic l L r) = (l, e, L)
      go o e (cyclic c) = absurd (circuit_no_lineup m M c)

  -- each job's place in a line_up is below n
  lead_length : {l : List ℕ} {R : ℕ → Bool} → Lead l R → length l ≡ count n R
  lead_length (led_none f) = sym (count_none n _ f)
  lead_length (led_by {v = v} {R = R} h e pv d) = ap suc (lead_length d) ∙ count_less n R v h e

  pub lineup_length : (l : List ℕ) → LineUp n E l → length l ≡ n
  lineup_length l L = lead_length (lineup_led l L) ∙ count_all_lem n

  lead_place : {l : List ℕ} {R : ℕ → Bool} → Lead l R → (i : ℕ) → i < length l → place_of l (get_or l i 0) ≡ i
  lead_place (led_none f) i h = absurd (not-suc-le-zero h)
  lead_place (led_by {v = v} hv e pv d) zero h = rw (eq-eqb v v refl)
  lead_place (led_by {v = v} {l = l} {R = R} hv e pv d) (suc i) h =
      let apart = (less_true R v (get_or l i 0) ((lead_listed d).within i (omega arith)).1).1 in
      rw (ne_eqb (get_or l i 0) v apart) (ap suc (lead_place d i (omega arith)))

  pub lineup_ranks : (l : List ℕ) → LineUp n E l → Ranks n E (place_of l)
  lineup_ranks l L = record {
    rises = λ u v hu hv e. lead_rises l (λ v. true) d u v hu hv refl refl e;
    top = λ v h. let (i, a, b) = L.all v h in let z = rw b at (lead_place d i a) in omega (arith, lineup_length l L);
    hits = λ k h. let a : k < length l = omega (arith, lineup_length l L) in (get_or l k 0, L.within k a, lead_place d k a);
  }
    where
      d : Lead l (λ v. true)
      d = lineup_led l L

-- ── for a loop that places job after job ──

pub behind_nil : (o : Option (List ℕ)) → behind [] o ≡ o
behind_nil none = refl
behind_nil (some m) = refl

behind_more : (l : List ℕ) (v : ℕ) (o : Option (List ℕ)) → behind l (map (λ (m : List ℕ). v ∷ m) o) ≡ behind (l ++ v ∷ []) o
behind_more l v none = refl
behind_more l v (some m) = ap {B = Option (List ℕ)} some (sym (append_assoc l (v ∷ []) m))

-- l is placed, k jobs are left, those of R
pub place_more : (n : ℕ) (E : ℕ → ℕ → Bool) (l : List ℕ) (k v : ℕ) (R : ℕ → Bool) → first n (ready n E R) ≡ some v
    → behind l (lineup n E (suc k) R) ≡ order n E → behind (l ++ v ∷ []) (lineup n E k (less R v)) ≡ order n E
place_more n E l k v R f e = sym (behind_more l v (lineup n E k (less R v)))
    ∙ ap {B = Option (List ℕ)} (behind l) (sym (ap {B = Option (List ℕ)} (λ (o : Option ℕ). place o (λ v. lineup n E k (less R v))) f))
    ∙ e

pub place_none : (n : ℕ) (E : ℕ → ℕ → Bool) (l : List ℕ) (k : ℕ) (R : ℕ → Bool) → first n (ready n E R) ≡ none
    → behind l (lineup n E (suc k) R) ≡ order n E → order n E ≡ none
place_none n E l k R f e = sym e ∙ ap {B = Option (List ℕ)} (λ (o : Option ℕ). behind l (place o (λ v. lineup n E k (less R v)))) f
