-- The waiting owners: what they give up, who begins to wait, and when nobody does. Assumes nothing.
use Rattle.std.proofs.Common.{◌≡◌, ℕ, ◌||◌, ◌==◌, eqb, eqb-true, suc, ◌+◌, ◌-◌, ◌*◌, ◌<◌, ◌≤◌, Bool, true, false, List, [], ◌∷◌, ◌++◌, length, get_or, drop, set, replicate, sym, refl, ap, ◌∙◌, ⊎_elim, append_assoc, arith, length-append, drop-drop, rules, eq-eqb, ne_eqb, Result, Ok, Err}
use lib.ListN.{length-map}
use lib.Seq.{sets, sets-eq, set_at}
use Rattle.std.specs.List.{list_any}
use Rattle.rules.specs.Lists.{memb, sum_of}
use Rattle.rules.specs.Sizes.{most_owners, most_entries, routes_length}
use Rattle.rules.specs.Routes.{Plan, wait}
use Rattle.rules.specs.Sound.{Sound}
use Rattle.rules.specs.Steps.{unwaited}
use Rattle.rules.proofs.Ranges.{count_le, clash, pass, fail, test}
use Rattle.rules.proofs.Members.{once_snoc, once_count}
use Rattle.rules.proofs.Walks.{memb_snoc}
use Rattle.rules.proofs.History.{wait_sound}
use Rattle.edges.specs.Rows.{pad}
use Rattle.edges.proofs.Rows.{pad_length}
use Rattle.rules.specs.declared.Senseless.{Senseless}
use Rattle.routes.specs.Stops.{word}
use Rattle.routes.specs.Store.{Model, Holds, route_at, encode, waiters_at, waiting_at, stops_at}
use Rattle.routes.specs.Handing.{Stopped, Waiting, GivenUp, Freed, given_up}
use Rattle.routes.specs.Desks.{edges_from, edges_of, routes_of, Desked}
use Rattle.routes.specs.Promises.{Retracted, Cleared}
use Rattle.words.proofs.Rows.{row_cons, row_none}
use Rattle.routes.proofs.Lists.{swap_eqb}
use Rattle.routes.proofs.Placing.{waits_many, waiting_is, sized, with_waiting, at_waiters, waits_count, waits_few}
use Rattle.routes.proofs.Wellformed.{routes_wf}

-- ── what they give up ──

pub given_own : (l : List ℕ) {o w : ℕ} → w ≡ o → GivenUp l o w 0
given_own l {o} {w} q = record { small = omega arith; is = λ m h. rw (eq-eqb w o q) }

pub given_row : {l s : List ℕ} {o w : ℕ} → Stopped l w s → (w ≡ o → ⊥) → GivenUp l o w (length s)
given_row {o = o} {w} S q = record {
  small = S.short;
  is = λ m h. rw (ne_eqb w o q) (ap length (S.is m h) ∙ length-map (route_at m w).stops word);
}

-- i of the row are passed, and gave up `sum`
pub record Freeing (l : List ℕ) (o : ℕ) (row : List ℕ) (sum i : ℕ) : Type 0 where
  pub small : sum ≤ most_entries * i
  pub rest : (m : Model) → Holds l m → sum + sum_of (λ w. given_up o w m) (drop i row) ≡ sum_of (λ w. given_up o w m) row

pub freed_none : (l : List ℕ) (o : ℕ) (row : List ℕ) → Freeing l o row 0 0
freed_none l o row = record { small = omega arith; rest = λ m h. omega arith }

module _ {l : List ℕ} {o : ℕ} {row : List ℕ} {sum i : ℕ} (F : Freeing l o row sum i) where
  pub freed_on : {k : ℕ} → GivenUp l o (get_or row i 0) k → i < length row → Freeing l o row (sum + k) (i + 1)
  freed_on G h = record {
    small = let a = F.small in let b = G.small in omega arith;
    rest = λ m H. let a = F.rest m H in let b = G.is m H in omega (arith, ap (sum_of (λ w. given_up o w m)) (row_cons row i h));
  }

  pub freed_done : Waiting l row → length row ≤ i → i ≤ length row → Freed l o sum
  freed_done W h k = record {
    small = let a = F.small in let b = W.short in omega arith;
    is = λ m H. rw (← W.is m H) (let a = F.rest m H in omega (arith, ap (sum_of (λ w. given_up o w m)) (row_none row i h)));
  }

pub ruleset freeing = (given_own, given_row, freed_none, freed_on, freed_done, waits_many, waiting_is)

-- ── a search ──

memb_any : (x : ℕ) (l : List ℕ) → list_any (λ y. y == x) l ≡ memb x l
memb_any x [] = refl
memb_any x (y ∷ l) = rw (memb_any x l) (ap (λ (b : Bool). b || memb x l) (swap_eqb y x))

-- ── an owner begins to wait ──

pad_push : (n x : ℕ) (l : List ℕ) → length l < n → set (pad n l) (length l) x ≡ pad n (l ++ x ∷ [])
unfolding pad
pad_push n x l h =
    let e : n - length l ≡ suc (n - length (l ++ x ∷ [])) = omega (arith, length-append l (x ∷ [])) in
    rw (e, append_assoc) (set_at l 0 (replicate (n - length (l ++ x ∷ [])) 0) x (length l) refl)

module _ {p : Plan} (S : Sound p) {o : ℕ} (low : o < p.base.owners) where
  abbrev ws : List ℕ
  ws = p.desk.waiting

  waits_room : memb o ws ≡ false → length ws < most_owners
  waits_room e =
      let z = once_count most_owners (ws ++ o ∷ []) (λ v. true) (once_snoc ws o S.once e)
      (λ v q. (let b = S.loaded.owners in ⊎_elim (λ k. let a = S.waits v k in omega arith) (λ k. omega arith) (memb_snoc v ws o q), refl)) in
      omega (arith, count_le most_owners (λ v. true), length-append ws (o ∷ []))

  waits_push : {l : List ℕ} {k : ℕ} → Holds l (routes_of p) → k ≡ length ws → memb o ws ≡ false
      → set (set l (waiting_at + k) o) waiters_at (k + 1) ≡ encode (routes_of (wait o p))
  unfolding encode routes_of wait
  waits_push {l} {k} h q e =
      let room = waits_room e in
      let z : waiting_at + k ≡ waiters_at + suc (length ws) = omega arith in
      let n : k + 1 ≡ length (ws ++ o ∷ []) = (let a = length-append ws (o ∷ []) in omega arith) in
      let s = sized (routes_of p) h.wf in
      let s₁ = with_waiting s (length ws ∷ pad most_owners (ws ++ o ∷ [])) (ap suc (pad_length most_owners (ws ++ o ∷ []) (omega arith))) in
      rw (h.words, z, (at_waiters s).store (suc (length ws)) o (omega arith), pad_push most_owners o ws room, n, e)
      ((at_waiters s₁).store 0 (length (ws ++ o ∷ [])) (omega arith))

pub waits_in : (p : Plan) {l row : List ℕ} → Holds l (routes_of p) → Waiting l row → row ≡ p.desk.waiting
unfolding routes_of
waits_in p h W = W.is (routes_of p) h

module _ {l : List ℕ} (o : ℕ) {k : ℕ} (e : k ≡ get_or l waiters_at 0) where
  count_is : (p : Plan) → Holds l (routes_of p) → (k ≡ length p.desk.waiting) × (length p.desk.waiting ≤ most_owners)
  unfolding routes_of
  count_is p h = (e ∙ waits_count h, waits_few (routes_of p) h.wf)

  pub retract_many : {z : Senseless} {l' : List ℕ} → most_owners < k → Retracted l o l' (Err z)
  retract_many q p S h low = let (a, b) = count_is p h in absurd (omega arith)

  module _ {row : List ℕ} (b : Bool) (any : b ≡ list_any (λ y. y == o) row) (W : Waiting l row) where
    m : b ≡ memb o row
    m = any ∙ memb_any o row

    pub retract_already : b ≡ true → Retracted l o l (Ok tt)
    unfolding wait
    retract_already q p S h low = let z : memb o p.desk.waiting ≡ true = rw (waits_in p h W) at (sym m ∙ q) in (refl, rw z h)

    absent : b ≡ false → (p : Plan) → Holds l (routes_of p) → memb o p.desk.waiting ≡ false
    absent q p h = rw (waits_in p h W) at (sym m ∙ q)

    pub retract_full : {z : Senseless} {l' : List ℕ} → b ≡ false → k ≡ most_owners → Retracted l o l' (Err z)
    retract_full q f p S h low = let (a, c) = count_is p h in let d = waits_room S low (absent q p h) in absurd (omega arith)

    pub retract_more : b ≡ false → Retracted l o (set (set l (waiting_at + k) o) waiters_at (k + 1)) (Ok tt)
    retract_more q p S h low = (
      refl,
      record {
        words = waits_push S low h (count_is p h).0 (absent q p h);
        wf = routes_wf (wait o p) (wait_sound o p S low);
      },
    )

pub ruleset retracting = (rules, retract_many, retract_already, retract_full, retract_more)

-- ── nobody waits any more ──

pub unwaited_sound : (p : Plan) → Sound p → Sound (unwaited p)
unwaited_sound p S = record {
  loaded = S.loaded;
  kept = S.kept;
  kept_tails = S.kept_tails;
  rows = S.rows;
  reads = S.reads;
  room = S.room;
  waits = λ w m. clash m refl;
  once = tt;
}

pub cleared : (l l' : List ℕ) → l' ≡ sets l waiters_at (replicate stops_at 0) → length l ≡ routes_length → Cleared l l'
unfolding encode routes_of pad
cleared l l' e k p S h = record {
  words = e ∙ sets-eq (replicate stops_at 0) l waiters_at (omega arith) ∙ rw (append_assoc, ← drop-drop stops_at waiters_at l, h.words)
      ((at_waiters (sized (routes_of p) h.wf)).write (replicate stops_at 0));
  wf = routes_wf (unwaited p) (unwaited_sound p S);
}

pub ruleset clearing = (rules, cleared)

-- ── with the edges, which stay ──

pub retracts : {r e r' : List ℕ} {p : Plan} {o : ℕ} {d : Result Unit Senseless} → Retracted r o r' d → Desked r e p → o < p.base.owners
    → (d ≡ Ok tt) × Desked r' e (wait o p)
unfolding edges_of edges_from wait
retracts {p = p} {o} R D h =
    let (q, H) = R p D.sound D.routes h in (
      q,
      record {
        routes = H;
        edges = elim (test (memb o p.desk.waiting)) [ pass z ↦ rw z D.edges | fail z ↦ rw z D.edges ];
        sound = wait_sound o p D.sound h;
      },
    )
