-- One edge more or less, and all of a list: `turn` and `turn_all`, from what the edges answer. Assumes nothing.
use Rattle.std.proofs.Common.{◌≡◌, ℕ, ◌+◌, ◌/◌, ◌%◌, ◌<◌, ◌≤◌, Bool, true, false, cond, not, ◌&&◌, ltb, List, [], ◌∷◌, ◌++◌, length, get_or, take, drop, set, sym, refl, ap, ◌∙◌, append_assoc, append-nil, add-zero, zero-add, add-one, arith, length-append, take-suc-set, rules, le-ltb, lt-ltb, Result, Ok, Err}
use Rattle.rules.specs.Sizes.{most_jobs}
use Rattle.rules.proofs.Ranges.{clash}
use Rattle.rules.specs.declared.Senseless.{Senseless}
use Rattle.edges.specs.Edges.{Model, Holds, has_edge, count_of, add_answer, remove_answer, Adds, Removes}
use Rattle.edges.specs.declared.Added.{Added}
use Rattle.edges.specs.declared.Added.TheVariants as added
use Rattle.edges.specs.declared.Removed.{Removed}
use Rattle.edges.specs.declared.Removed.TheVariants as removed
use Rattle.routes.specs.Turning.{head, turn_one, turns, turn_all, heads_all, ReadyAll, Turned, Turns}
use Rattle.std.specs.Result.{IsErr, is_err}
use Rattle.words.proofs.Rows.{row_cons, row_none}

pub ok_same : {T : Type 0} {a b : T} → ◌≡◌ {A = Result T Senseless} (Ok a) (Ok b) → a ≡ b
ok_same q = cc

-- an error, as a `?` hands it on, is no answer
pub err_never : {A T : Type 0} {r : Result T Senseless} {x : T} → IsErr r → r ≡ Ok x → A
err_never h q = clash h (ap is_err q)

pub never_ok : {A T : Type 0} {z : Senseless} {x : T} → ◌≡◌ {A = Result T Senseless} (Err z) (Ok x) → A
never_ok q = err_never refl q

-- ── behind what is listed ──

-- the heads are listed from `at` on
record Listed (b : Bool) (m : Model) (l e' heads heads' : List ℕ) (at : ℕ) (r : Result ℕ Senseless) : Type 0 where
  upto : r ≡ Ok (at + length (heads_all b m l))
  holds : Holds e' (turn_all b m l)
  listed : take (at + length (heads_all b m l)) heads' ≡ take at heads ++ heads_all b m l

record Listing (b : Bool) (l e e' heads heads' : List ℕ) (at : ℕ) (r : Result ℕ Senseless) : Type 0 where
  short : (h : ℕ) → r ≡ Ok h → h ≤ at + length l
  is : (m : Model) → Holds e m → ReadyAll b m l → Listed b m l e' heads heads' at r

from_start : {b : Bool} {l e e' heads heads' : List ℕ} {r : Result ℕ Senseless} → Listing b l e e' heads heads' 0 r → Turns b l e e' heads' r
from_start T = record {
  short = λ h q. let k = T.short h q in omega arith;
  is = λ m H R. let t = T.is m H R in record { upto = rw zero-add at t.upto; holds = t.holds; listed = rw zero-add at t.listed };
}

-- ── one ──

module _ {b : Bool} {x : ℕ} {e e' : List ℕ} {r : Result Bool Senseless} (T : Turned b x e e' r) {heads : List ℕ} {h : ℕ} where
  one_still : r ≡ Ok false → Listing b (x ∷ []) e e' heads heads h (Ok h)
  unfolding turn_all heads_all ReadyAll
  one_still z = record {
    short = λ i q. omega (arith, ok_same q);
    is = λ m H R. let (q, J) = T m H R.0 in let t = ok_same (sym q ∙ z) in record {
      upto = rw t (ap Ok (sym (add-zero h)));
      holds = J;
      listed = rw (t, add-zero) (sym (append-nil (take h heads)));
    };
  }

  one_turned : r ≡ Ok true → h < length heads → Listing b (x ∷ []) e e' heads (set heads h (head x)) h (Ok (h + 1))
  unfolding turn_all heads_all ReadyAll
  one_turned z l = record {
    short = λ i q. omega (arith, ok_same q);
    is = λ m H R. let (q, J) = T m H R.0 in let t = ok_same (sym q ∙ z) in
        record { upto = rw t; holds = J; listed = rw (t, add-one) (take-suc-set heads h (head x) l) };
  }

  one_never : {z : Senseless} {r' : Result ℕ Senseless} → r ≡ Err z → IsErr r' → Listing b (x ∷ []) e e' heads heads h r'
  unfolding ReadyAll
  one_never z k = record { short = λ i q. err_never k q; is = λ m H R. never_ok (sym z ∙ (T m H R.0).0) }

-- ── what the edges answer ──

pub turned_far : (b : Bool) (x : ℕ) (e : List ℕ) → most_jobs ≤ x / most_jobs → Turned b x e e (Ok false)
turned_far true x e k m H R = (rw (le-ltb (x / most_jobs) most_jobs k), rw (le-ltb (x / most_jobs) most_jobs k) H)
turned_far false x e k m H R = (rw (le-ltb (x / most_jobs) most_jobs k), rw (le-ltb (x / most_jobs) most_jobs k) H)

-- whether it appeared or vanished
abbrev pub appeared : Added → Bool
appeared added.Appeared = true
appeared added.Counted = false

abbrev pub vanished : Removed → Bool
vanished removed.Vanished = true
vanished removed.Lessened = false
vanished removed.Absent = false

pub not_vanished : (a : Removed) → (a ≡ removed.Vanished → ⊥) → vanished a ≡ false
not_vanished removed.Vanished n = absurd (n refl)
not_vanished removed.Lessened n = refl
not_vanished removed.Absent n = refl

add_tells : (b : Bool) → appeared (cond b added.Counted added.Appeared) ≡ not b
add_tells true = refl
add_tells false = refl

remove_tells : (b c : Bool) → vanished (cond b (cond c removed.Lessened removed.Vanished) removed.Absent) ≡ b && not c
remove_tells true true = refl
remove_tells true false = refl
remove_tells false c = refl

module _ (x : ℕ) {e e' : List ℕ} (near : x / most_jobs < most_jobs) where
  module _ {r : Result Added Senseless} (A : Adds e (x / most_jobs) (x % most_jobs) e' r) {b : Bool} (more : b ≡ true) where
    pub turned_in : {a : Added} {t : Bool} → r ≡ Ok a → appeared a ≡ t → Turned b x e e' (Ok t)
    unfolding add_answer
    turned_in z w = rw more (λ m H R.
        let n = lt-ltb (x / most_jobs) most_jobs near in
        let (q, J) = A m H (R n) in
        (rw n (ap Ok (sym w ∙ ap appeared (ok_same (sym z ∙ q)) ∙ add_tells (has_edge m (x / most_jobs) (x % most_jobs)))), rw n J))

    pub unturned_in : {z : Senseless} (r' : Result Bool Senseless) → r ≡ Err z → Turned b x e e' r'
    unturned_in r' z = rw more (λ m H R. never_ok (sym z ∙ (A m H (R (lt-ltb (x / most_jobs) most_jobs near))).0))

  module _ {r : Result Removed Senseless} (A : Removes e (x / most_jobs) (x % most_jobs) e' r) {b : Bool} (less : b ≡ false) where
    pub turned_out : {a : Removed} {t : Bool} → r ≡ Ok a → vanished a ≡ t → Turned b x e e' (Ok t)
    unfolding remove_answer
    turned_out z w = rw less (λ m H R.
        let n = lt-ltb (x / most_jobs) most_jobs near in
        let (q, J) = A m H in
        let c = remove_tells (has_edge m (x / most_jobs) (x % most_jobs)) (ltb 1 (count_of m (x / most_jobs) (x % most_jobs))) in
        (rw n (ap Ok (sym w ∙ ap vanished (ok_same (sym z ∙ q)) ∙ c)), rw n J))

    pub unturned_out : {z : Senseless} (r' : Result Bool Senseless) → r ≡ Err z → Turned b x e e' r'
    unturned_out r' z = rw less (λ m H R. never_ok (sym z ∙ (A m H).0))

-- ── all of a list ──

turns_none : (b : Bool) (e heads : List ℕ) (h : ℕ) → Listing b [] e e heads heads h (Ok h)
unfolding turn_all heads_all
turns_none b e heads h = record {
  short = λ i q. omega (arith, ok_same q);
  is = λ m H R. record {
    upto = ap Ok (sym (add-zero h));
    holds = H;
    listed = rw add-zero (sym (append-nil (take h heads)));
  };
}

heads_first : (b : Bool) (m : Model) (x : ℕ) (l : List ℕ) → heads_all b m (x ∷ l) ≡ heads_all b m (x ∷ []) ++ heads_all b (turn_one b m x) l
unfolding heads_all
heads_first b m x l = go (turns b m x)
  where
    go : (t : Bool) → cond t (head x ∷ heads_all b (turn_one b m x) l) (heads_all b (turn_one b m x) l)
        ≡ cond t (head x ∷ []) [] ++ heads_all b (turn_one b m x) l
    go true = refl
    go false = refl

module _ {b : Bool} {x : ℕ} {l e e₁ heads heads₁ : List ℕ} {h : ℕ} where
  turns_then : {k : ℕ} {e₂ heads₂ : List ℕ} {r : Result ℕ Senseless} → Listing b (x ∷ []) e e₁ heads heads₁ h (Ok k) → Listing b l e₁ e₂ heads₁ heads₂ k r
      → Listing b (x ∷ l) e e₂ heads heads₂ h r
  unfolding turn_all ReadyAll
  turns_then {k} {heads₂ = heads₂} T U = record {
    short = λ i q. let a = T.short k refl in let c = U.short i q in omega arith;
    is = λ m H R.
        let t = T.is m H (R.0, tt) in
        let u = U.is (turn_one b m x) t.holds R.1 in
        let q : k ≡ h + length (heads_all b m (x ∷ [])) = ok_same t.upto in
        let f = heads_first b m x l in
        let s : k + length (heads_all b (turn_one b m x) l) ≡ h + length (heads_all b m (x ∷ l)) = (let a = length-append (heads_all b m (x ∷ [])) (heads_all b (turn_one b m x) l) in omega (arith, ap length f)) in
        record {
          upto = u.upto ∙ ap Ok s;
          holds = u.holds;
          listed = rw (← s, f, ← append_assoc, ← t.listed, ← q) u.listed;
        };
  }

  turns_bad : {r : Result ℕ Senseless} → Listing b (x ∷ []) e e₁ heads heads₁ h r → IsErr r → Listing b (x ∷ l) e e₁ heads heads₁ h r
  unfolding ReadyAll
  turns_bad T k = record { short = λ i q. err_never k q; is = λ m H R. err_never k (T.is m H (R.0, tt)).upto }

-- once the rest of the list is turned, all of it is
pub record Sweeping (b : Bool) (s e₀ heads₀ e heads : List ℕ) (h i : ℕ) : Type 0 where
  pub few : h ≤ i
  rest : (e' heads' : List ℕ) (r : Result ℕ Senseless) → Listing b (drop i s) e e' heads heads' h r → Listing b s e₀ e' heads₀ heads' 0 r

pub sweep_none : (b : Bool) (s e heads : List ℕ) → Sweeping b s e heads e heads 0 0
sweep_none b s e heads = record { few = omega arith; rest = λ e' heads' r T. T }

module _ {b : Bool} {s e₀ heads₀ e heads : List ℕ} {h i : ℕ} (W : Sweeping b s e₀ heads₀ e heads h i) where
  module _ {e₁ : List ℕ} {r : Result Bool Senseless} (T : Turned b (get_or s i 0) e e₁ r) (l : i < length s) where
    sweep_on : {heads₁ : List ℕ} {k : ℕ} → Listing b (get_or s i 0 ∷ []) e e₁ heads heads₁ h (Ok k) → Sweeping b s e₀ heads₀ e₁ heads₁ k (i + 1)
    sweep_on {k = k} U = record {
      few = let a = U.short k refl in let c = W.few in omega arith;
      rest = λ e' heads' r V. W.rest e' heads' r (rw (row_cons s i l) (turns_then U V));
    }

    pub sweep_same : r ≡ Ok false → Sweeping b s e₀ heads₀ e₁ heads h (i + 1)
    sweep_same q = sweep_on (one_still T q)

    pub sweep_turned : r ≡ Ok true → h < length heads → Sweeping b s e₀ heads₀ e₁ (set heads h (head (get_or s i 0))) (h + 1) (i + 1)
    sweep_turned q k = sweep_on (one_turned T q k)

    pub sweep_bad : {z : Senseless} (r' : Result ℕ Senseless) → r ≡ Err z → IsErr r' → Turns b s e₀ e₁ heads r'
    sweep_bad r' q k = from_start (W.rest e₁ heads r' (rw (row_cons s i l) (turns_bad (one_never T q k) k)))

  pub sweep_done : length s ≤ i → Turns b s e₀ e heads (Ok h)
  sweep_done l = from_start (W.rest e heads (Ok h) (rw (row_none s i l) (turns_none b e heads h)))

pub ruleset sweeping = (rules, sweep_none, sweep_done)
