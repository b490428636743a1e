-- Laws of the search's functions. Assumes nothing.
use Rattle.std.proofs.Common.{◌≡◌, ℕ, suc, ◌+◌, ◌<◌, ◌≤◌, Bool, true, false, eqb, ◌⊎◌, List, [], ◌∷◌, ◌++◌, length, get_or, take, drop, replicate, sym, refl, ap, ◌∙◌, inl, inr, ⊎_elim, append-nil, add-one, arith, length-take, length-take-le, take_all, get_or-take, take-suc, rules, ne_eqb, eqb-true, le-leb}
use lib.ListN.{get_or-replicate}
use lib.Seq.{take-append-le}
use borrow.Author.Tests.{lt-leb}
use Rattle.rules.specs.Graphs.{Graph}
use Rattle.rules.specs.Lists.{keep, memb}
use Rattle.rules.specs.Reports.{push}
use Rattle.rules.specs.Sizes.{most_jobs}
use Rattle.rules.proofs.Members.{or-true}
use Rattle.rules.proofs.Orders.{Walk, one, more}
use Rattle.rules.proofs.Ranges.{Test, clash, fail, pass, same, test}
use Rattle.rules.proofs.Steps.{push_new, push_old}
use Rattle.rules.proofs.Walks.{memb_snoc, or_right, push2, push2_from, push_split}
use Rattle.edges.specs.Edges.{Model, Holds}
use Rattle.edges.specs.Lists.{Successors, Predecessors}
use Rattle.graphs.specs.Graph.{Below, at, live}
use Rattle.graphs.specs.Queue.{ringed, Queued}
use Rattle.graphs.proofs.Bridge.{linked}
use Rattle.graphs.proofs.Falls as falls
use Rattle.graphs.proofs.Kahn as kahn
use Rattle.graphs.proofs.Ring as ring
use Rattle.starts.specs.declared.backs.Turned.{Turned}
use Rattle.starts.specs.declared.backs.Turned.TheVariants.{Free, Back, Tired}
use Rattle.starts.specs.Backs.{soon, Ended, Closed, Searches, Lates, Spared, Looks, headed, Judges}
use Rattle.starts.specs.Lines.{LinedUp, Lines, Lows, Verdict}
use Rattle.starts.specs.declared.queues.Queue.{Queue}
use Rattle.starts.specs.Queues.{Joins, Fresh, Gains}
use Rattle.words.proofs.Rows.{row_cons, row_none}
use Rattle.starts.proofs.Queueing.{gains_none, gains_then}
use Rattle.starts.proofs.Rows.{Rowed, rowed_none, rowed_next, rowed_done}

-- ── those of a row that start in time ──

module _ (f : ℕ → Bool) where
  keep_in : (l : List ℕ) (v : ℕ) → memb v l ≡ true → f v ≡ true → memb v (keep f l) ≡ true
  keep_in [] v e h = clash e refl
  keep_in (w ∷ l) v e h = go (λ d. keep_in l v d h) (test (f w)) (or-true e)
    where
      go : (memb v l ≡ true → memb v (keep f l) ≡ true) → Test (f w) → (eqb v w ≡ true) ⊎ (memb v l ≡ true) → memb v (keep f (w ∷ l)) ≡ true
      go i (pass p) (inl q) = rw (p, q)
      go i (fail p) (inl q) = clash (rw (eqb-true v w q) at h) p
      go i (pass p) (inr q) = rw p (or_right (eqb v w) (i q))
      go i (fail p) (inr q) = rw p (i q)

  keep_of : (l : List ℕ) (v : ℕ) → memb v (keep f l) ≡ true → memb v l ≡ true
  keep_of [] v e = e
  keep_of (w ∷ l) v e = go (keep_of l v) (test (f w))
    where
      go : (memb v (keep f l) ≡ true → memb v l ≡ true) → Test (f w) → memb v (w ∷ l) ≡ true
      go i (fail p) = or_right (eqb v w) (i (rw p at e))
      go i (pass p) = ⊎_elim (λ (x : eqb v w ≡ true). rw x) (λ (x : memb v (keep f l) ≡ true). or_right (eqb v w) (i x)) (or-true (rw p at e))

  keep_cons : (v : ℕ) (l : List ℕ) → keep f (v ∷ l) ≡ keep f (v ∷ []) ++ keep f l
  keep_cons v l = go (test (f v))
    where
      go : Test (f v) → keep f (v ∷ l) ≡ keep f (v ∷ []) ++ keep f l
      go (pass p) = rw p
      go (fail p) = rw p

module _ (v k top : ℕ) (st : List ℕ) (q : Queue) (ek : k ≡ v) where
  -- a number that is no job
  pub meet_out : q.jobs ≤ k → Gains (keep (soon st top) (v ∷ [])) q q
  meet_out h = go (test (soon st top v))
    where
      go : Test (soon st top v) → Gains (keep (soon st top) (v ∷ [])) q q
      go (fail p) = rw p (gains_none q)
      go (pass p) = rw p (record {
        jobs = refl;
        head = refl;
        joins = record {
          short = (gains_none q).joins.short;
          keeps = λ g Q. let x = g v (kahn.memb_self v []) in absurd (let z : ⊥ = omega arith in z);
        };
      })

  pub meet_late : top < get_or st k 0 → Gains (keep (soon st top) (v ∷ [])) q q
  meet_late h = let p : soon st top v ≡ false = lt-leb (at st v) top (rw ek at h) in rw p (gains_none q)

  pub meet_soon : get_or st k 0 ≤ top → {q' : Queue} → Gains (v ∷ []) q q' → Gains (keep (soon st top) (v ∷ [])) q q'
  meet_soon h T = let p : soon st top v ≡ true = le-leb (at st v) top (rw ek at h) in rw p T

-- those of the jobs vs that start in time are queued
pub record Soon (st : List ℕ) (top : ℕ) (vs : List ℕ) (q q' : Queue) : Type 0 where
  pub gains : Gains (keep (soon st top) vs) q q'

-- the loop of `meets`
abbrev pub Meeting : List ℕ → ℕ → List ℕ → Queue → ℕ → Queue → Type 0
Meeting st top = Rowed (Soon st top)

pub meeting_none : (st : List ℕ) (top : ℕ) (row : List ℕ) (q : Queue) → Meeting st top row q 0 q
meeting_none st top = rowed_none (Soon st top)

pub meeting_next : {st : List ℕ} {top : ℕ} {row : List ℕ} {q₀ : Queue} {k : ℕ} {q q' : Queue} → Gains (keep (soon st top) (get_or row k 0 ∷ [])) q q'
    → Meeting st top row q₀ k q → k < length row → Meeting st top row q₀ (k + 1) q'
meeting_next {st} {top} T L h =
    rowed_next (Soon st top) L (λ v vs s t u T U. record { gains = rw (keep_cons (soon st top) v vs) (gains_then U.gains T.gains) }) h (record { gains = T })

pub meeting_done : {st : List ℕ} {top : ℕ} {row : List ℕ} {q₀ : Queue} {k : ℕ} {q : Queue} → Meeting st top row q₀ k q → length row ≤ k
    → Gains (keep (soon st top) row) q₀ q
meeting_done {st} {top} {q} L h = (rowed_done (Soon st top) L h (record { gains = gains_none q })).gains

-- ── the search: the jobs l are met, from b on, and those of p are passed ──

module _ (n : ℕ) (E : Graph) (s : ℕ → ℕ) (b top : ℕ) where
  pub record Met (p l : List ℕ) : Type 0 where
    pub led : (v : ℕ) → memb v l ≡ true → Walk n E b v
    pub done : (u v : ℕ) → memb u p ≡ true → v < n → E u v ≡ true → s v ≤ top → memb v l ≡ true

  met_none : Met [] []
  met_none = record { led = λ v e. clash e refl; done = λ u v e. clash e refl }

  walk_on : {u x v : ℕ} → x < n → Walk n E u x → E x v ≡ true → Walk n E u v
  walk_on h (one d) e = more h d (one e)
  walk_on h (more i d w) e = more i d (walk_on h w e)

  -- job x is passed, and of its successors vs start in time
  met_more : {p l : List ℕ} (x : ℕ) (vs : List ℕ) → Met p l → x < n → memb x (b ∷ l) ≡ true
      → ((v : ℕ) → memb v vs ≡ true → E x v ≡ true) → ((v : ℕ) → E x v ≡ true → s v ≤ top → memb v vs ≡ true)
      → Met (p ++ x ∷ []) (push l vs)
  met_more {p} {l} x vs M hx from only all = record {
    led = λ v e. ⊎_elim (M.led v) (λ (d : memb v vs ≡ true). way from (only v d)) (push2_from [] l vs v (rw (push_split [] l vs) at e));
    done = λ u v e h d k.
        ⊎_elim (λ (z : memb u p ≡ true). push_old v l vs (M.done u v z h d k)) (λ (z : u ≡ x). push_new v l vs (all v (rw z at d) k))
        (memb_snoc u p x e);
  }
    where
      way : {v : ℕ} → memb x (b ∷ l) ≡ true → E x v ≡ true → Walk n E b v
      way {v} m e =
          ⊎_elim (λ (q : eqb x b ≡ true). one (rw (eqb-true x b q) at e)) (λ (q : memb x l ≡ true). walk_on hx (M.led x q) e) (or-true m)

  -- b and the first h jobs are passed, and b is none of these
  pub record Spread (h : ℕ) (l mark : List ℕ) : Type 0 where
    pub queued : Queued n mark l
    pub met : Met (b ∷ take h l) l
    pub ahead : memb b (take h l) ≡ false

-- what is queued later changes no place before
take_push : (h : ℕ) (l vs : List ℕ) → h ≤ length l → take h (push l vs) ≡ take h l
take_push h l vs k = ap (λ (x : List ℕ). take h (push x vs)) (sym (append-nil l)) ∙ ap (take h) (push_split l [] vs)
    ∙ take-append-le h l (push2 l [] vs) k

pub record Spreading (e st : List ℕ) (b top n head : ℕ) (q : Queue) : Type 0 where
  pub jobs : q.jobs ≡ n
  pub first : q.head ≡ 0
  pub keeps : (m : Model) → Holds e m → Below n m → Spread n (live m) (at st) b top head (ringed q.ring 0 q.len) q.mark

-- the successors of x that start in time, as `meets` queues them
module _ {e row : List ℕ} (st : List ℕ) (x top : ℕ) {n : ℕ} (S : Successors e x row) (m : Model) (H : Holds e m) (w : Below n m) where
  only : (v : ℕ) → memb v (keep (soon st top) row) ≡ true → live m x v ≡ true
  only v d = rw (S.is m H) at (keep_of (soon st top) row v d)

  all : (v : ℕ) → live m x v ≡ true → at st v ≤ top → memb v (keep (soon st top) row) ≡ true
  all v d k = keep_in (soon st top) row v (rw (S.is m H) d) (le-leb (at st v) top k)

  lows : Lows n (keep (soon st top) row)
  lows v d = (w x v (only v d)).1

pub spreading_none : {e st row : List ℕ} {b top n : ℕ} {q q' : Queue} → Gains (keep (soon st top) row) q q' → Fresh n q → Successors e b row
    → n ≤ most_jobs → b < n → Spreading e st b top n 0 q'
unfolding ringed
spreading_none {e} {st} {row} {b} {top} {n} {q} {q'} G F S hn hb = record {
  jobs = G.jobs ∙ F.jobs;
  first = G.head ∙ F.head;
  keeps = λ m H w.
      let T : Joins (keep (soon st top) row) n 0 0 q.ring (replicate most_jobs 0) q'.len q'.ring q'.mark = rw (F.jobs, F.head, F.len, F.mark) at G.joins in
      let (Q, z) = T.keeps (lows st b top S m H w) (ring.queued_none n (replicate most_jobs 0) (λ v h. get_or-replicate most_jobs v 0 0 (omega arith))) in
      record {
        queued = Q;
        met = rw z (met_more n (live m) (at st) b top b (keep (soon st top) row) (met_none n (live m) (at st) b top) hb
            (kahn.memb_self b []) (only st b top S m H w) (all st b top S m H w));
        ahead = refl;
      };
}

module _ {e st : List ℕ} {b top n head : ℕ} {q : Queue} (D : Spreading e st b top n head q) (hn : n ≤ most_jobs) (hb : b < n) where
  pub spreading_back : get_or q.mark b 0 ≡ 1 → Searches e st b top n Back
  spreading_back h = record {
    is = λ m H w k.
        let X = D.keeps m H w in
        kahn.circuit_none n (live m) (b, hb, X.met.led b (ring.queued_in n q.mark (ringed q.ring 0 q.len) (let a = q.places in omega arith) b X.queued hb h));
  }

  pub spreading_done : q.len ≤ head → (x : ℕ) → Searches e st b top n (Free x)
  spreading_done h x = record {
    is = λ m H w k.
        let X = D.keeps m H w in
        let l : List ℕ = ringed q.ring 0 q.len in
        let z : take head l ≡ l = take_all head l (omega (arith, ring.ringed_length q.ring 0 q.len)) in
        let M : Met n (live m) (at st) b top (b ∷ l) l = rw z at X.met in
        let out : memb b l ≡ false = rw z at X.ahead in (
          λ v. memb v (b ∷ l),
          record {
            first = kahn.memb_self b l;
            onward = λ u v hu hv a d i. kahn.memb_later v b l (M.done u v a hv d i);
            never = λ u hu a d. clash (M.done u b a hb d k) out;
          },
        );
  }

module _ {e st row : List ℕ} {b top n head u : ℕ} {q q' : Queue} (G : Gains (keep (soon st top) row) q q')
    (D : Spreading e st b top n head q) (S : Successors e u row) (eu : u ≡ get_or q.ring head 0) (fresh : get_or q.mark b 0 ≡ 1 → ⊥)
    (hh : head < q.len) (hn : n ≤ most_jobs) (hb : b < n) where
  abbrev l : List ℕ
  l = ringed q.ring 0 q.len

  long : head < length l
  long = omega (arith, ring.ringed_length q.ring 0 q.len)

  placed : u ≡ get_or l head 0
  placed = eu ∙ sym (get_or-take q.len q.ring head 0 hh)
      ∙ sym (ap (λ (x : List ℕ). get_or x head 0) (ring.ringed_take q.ring 0 q.len q.places.0 (let a = q.places in omega arith)))

  here : memb u l ≡ true
  here = rw placed (kahn.memb_get_or l head long)

  pub spreading_next : Spreading e st b top n (head + 1) q'
  spreading_next = record {
    jobs = G.jobs ∙ D.jobs;
    first = G.head ∙ D.first;
    keeps = λ m H w.
        let T : Joins (keep (soon st top) row) n 0 q.len q.ring q.mark q'.len q'.ring q'.mark = rw (D.jobs, D.first) at G.joins in
        let X = D.keeps m H w in
        let (Q, z) = T.keeps (lows st u top S m H w) X.queued in
        let g : take (suc head) (push l (keep (soon st top) row)) ≡ take (suc head) l = take_push (suc head) l (keep (soon st top) row) long in
        let t : take (suc head) l ≡ take head l ++ u ∷ [] = rw placed (take-suc l head 0 long) in
        record {
          queued = Q;
          met = rw (z, add-one, g, t) (met_more n (live m) (at st) b top u (keep (soon st top) row) X.met (X.queued.low u here)
              (kahn.memb_later u b l here) (only st u top S m H w) (all st u top S m H w));
          ahead = rw (z, add-one, g) (out (ring.queued_out n q.mark l (let a = q.places in omega arith) b X.queued hb fresh) (test (memb b (take (suc head) l))));
        };
  }
    where
      out : memb b l ≡ false → Test (memb b (take (suc head) l)) → memb b (take (suc head) l) ≡ false
      out f (fail p) = p
      out f (pass p) = clash (kahn.memb_take b (suc head) l p) f

pub spreading_tired : (e st : List ℕ) (b top n : ℕ) → Searches e st b top n Tired
spreading_tired e st b top n = record { is = λ m H w k. tt }

-- ── the latest of a row ──

later_of_lem : {v n top r : ℕ} {st : List ℕ} → top ≤ r → (v < n → at st v ≤ r) → Lates (v ∷ []) st n top r
later_of_lem {v} {n} {top} {r} {st} a b = record { up = a; is = λ u m h. go u h (same u v) m }
  where
    go : (u : ℕ) → u < n → (u ≡ v) ⊎ (u ≡ v → ⊥) → memb u (v ∷ []) ≡ true → at st u ≤ r
    go u h (inl q) m = rw q (b (rw q at h))
    go u h (inr q) m = clash m (rw (ne_eqb u v q))

module _ (v k n top : ℕ) (st : List ℕ) (ek : k ≡ v) where
  pub later_out : n ≤ k → Lates (v ∷ []) st n top top
  later_out h = later_of_lem (omega arith) (λ i. let z : ⊥ = omega arith in absurd z)

  pub later_up : top < get_or st k 0 → Lates (v ∷ []) st n top (get_or st k 0)
  later_up h = later_of_lem (omega arith) (λ i. rw ek (omega arith))

  pub later_stays : get_or st k 0 ≤ top → Lates (v ∷ []) st n top top
  later_stays h = later_of_lem (omega arith) (λ i. rw ek at h)

-- the loop of `latest`: once the rest of the row is seen, all of it is
pub record Lating (row st : List ℕ) (n k top : ℕ) : Type 0 where
  pub rest : (r : ℕ) → Lates (drop k row) st n top r → Lates row st n 0 r

pub lating_none : (row st : List ℕ) (n : ℕ) → Lating row st n 0 0
lating_none row st n = record { rest = λ r L. L }

module _ {row st : List ℕ} {n k top : ℕ} (L : Lating row st n k top) where
  pub lating_next : k < length row → {x : ℕ} → Lates (get_or row k 0 ∷ []) st n top x → Lating row st n (k + 1) x
  lating_next h {x} T = record {
    rest = λ r U. L.rest r (rw (row_cons row k h) (record {
      up = (let a = T.up in let b = U.up in omega arith);
      is = λ u m i. ⊎_elim (λ (z : eqb u (get_or row k 0) ≡ true).
          let a = T.is u (rw z) i in let b = U.up in omega arith) (λ (z : memb u (drop (k + 1) row) ≡ true). U.is u z i) (or-true m);
    }));
  }

  pub lating_done : length row ≤ k → Lates row st n 0 top
  lating_done h = L.rest top (rw (row_none row k h) (record { up = omega arith; is = λ u m. clash m refl }))

-- ── a head ──

module _ (e st : List ℕ) (b k n : ℕ) (ek : k ≡ b) where
  pub look_out : n ≤ k → (x : ℕ) → Looks e st b n (Free x)
  look_out h x = record { is = λ m H w hb. absurd (let z : ⊥ = omega arith in z) }

  module _ {row : List ℕ} {top : ℕ} (L : Lates row st n 0 top) (P : Predecessors e k row) (hn : n ≤ most_jobs) where
    under : (m : Model) → Holds e m → Below n m → (u : ℕ) → u < n → live m u b ≡ true → at st u ≤ top
    under m H w u hu d =
        L.is u (rw (P.is m H) (sym ((linked n m H.wf hn w).both u k hu (rw ek (w u b d).1)) ∙ rw ek d)) hu

    pub look_free : top < get_or st k 0 → (x : ℕ) → Looks e st b n (Free x)
    look_free h x = record {
      is = λ m H w hb u hu d y. let a = under m H w u hu d in let c = rw ek at h in absurd (let z : ⊥ = omega arith in z);
    }

    pub look_searched : get_or st k 0 ≤ top → {r : Turned} → Searches e st k top n r → Looks e st b n r
    look_searched h {r} X = record { is = λ m H w hb. go m H w r (rw ek at (X.is m H w h)) }
      where
        go : (m : Model) → Holds e m → Below n m → (r : Turned) → Ended n (live m) (Closed n (live m) (at st) b top) r
            → Ended n (live m) (Spared n (live m) (at st) b) r
        go m H w (Free x) (R, Z) = λ u hu d y. (top, R, under m H w u hu d, Z)
        go m H w Back y = y
        go m H w Tired y = y

-- ── the heads in turn ──

-- the loop of `judge`: once the rest of the heads are spared, all are
pub record Turning (e st heads : List ℕ) (n i : ℕ) : Type 0 where
  pub rest : (m : Model) → Holds e m → Below n m → Lows n heads → ((b : ℕ) → memb b (drop i heads) ≡ true → Spared n (live m) (at st) b)
      → (b : ℕ) → memb b heads ≡ true → Spared n (live m) (at st) b

pub turning_none : (e st heads : List ℕ) (n : ℕ) → Turning e st heads n 0
turning_none e st heads n = record { rest = λ m H w g f. f }

looked : (e st heads : List ℕ) (n i : ℕ) (r : Turned) → Looks e st (get_or heads i 0) n r → i < length heads
    → (m : Model) → Holds e m → Below n m → Lows n heads → Ended n (live m) (Spared n (live m) (at st) (get_or heads i 0)) r
looked e st heads n i r L hi m H w g = L.is m H w (g (get_or heads i 0) (kahn.memb_get_or heads i hi))

pub turning_next : {e st heads : List ℕ} {n i x : ℕ} → Turning e st heads n i → Looks e st (get_or heads i 0) n (Free x) → i < length heads
    → Turning e st heads n (i + 1)
turning_next {e} {st} {heads} {n} {i} T L hi = record {
  rest = λ m H w g f. T.rest m H w g (λ b y.
      ⊎_elim (λ (q : eqb b (get_or heads i 0) ≡ true). spared m H w g b (eqb-true b (get_or heads i 0) q))
      (λ (q : memb b (drop (i + 1) heads) ≡ true). f b q) (or-true (rw (row_cons heads i hi) at y)));
}
  where
    spared : (m : Model) → Holds e m → Below n m → Lows n heads → (b : ℕ) → b ≡ get_or heads i 0 → Spared n (live m) (at st) b
    spared m H w g b q = rw q (looked e st heads n i _ L hi m H w g)

pub turning_back : {e st heads : List ℕ} {n i : ℕ} → Looks e st (get_or heads i 0) n Back → i < length heads → Judges e st heads n false
turning_back {e} {st} {heads} {n} {i} L hi = record { told = λ m H w g rank S. looked e st heads n i Back L hi m H w g }

pub turning_done : {e st heads : List ℕ} {n i : ℕ} → Turning e st heads n i → length heads ≤ i → Judges e st heads n true
turning_done {e} {st} {heads} {n} {i} T h = record {
  told = λ m H w g rank S.
      falls.shut_lineup n (live m) (at st) (headed heads) rank S (λ u v hu hv d x y. T.rest m H w g (none (Spared n (live m) (at st))) v x u hu d y);
}
  where
    none : (A : ℕ → Type 0) (b : ℕ) → memb b (drop i heads) ≡ true → A b
    none A b y = clash (rw (row_none heads i h) at y) refl

pub judge_lined : {e st vs : List ℕ} {n : ℕ} {r : Bool} → (o : List ℕ) × Lines e n r o → Judges e st vs n r
judge_lined {n} {r} (o, L) = record { told = λ m H w g rank S. go m r (L.is m H w) }
  where
    go : (m : Model) (r : Bool) → LinedUp m n o r → Verdict m n r
    go m true y = (take n o, y)
    go m false y = y

-- what the search's functions are proved by
pub ruleset backing = (rules, meet_out, meet_late, meet_soon, meeting_none, meeting_next, meeting_done, spreading_none, spreading_next, spreading_back, spreading_tired, spreading_done, later_out, later_up, later_stays, lating_none, lating_next, lating_done, look_out, look_free, look_searched, turning_none, turning_next, turning_back, turning_done, judge_lined)
