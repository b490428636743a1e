-- The tables of a model in its words, and what is handed out of them. Assumes nothing.
use Rattle.std.proofs.Common.{◌≡◌, ℕ, zero, suc, ◌+◌, ◌-◌, ◌<◌, ◌≤◌, true, false, not, ltb, List, [], ◌++◌, length, get_or, take, drop, refl, ap, ◌∙◌, append_assoc, append-nil, map-id, zero-add, add-one, arith, length-append, length-take, drop-drop, take_at, drop_at, rules, lt-ltb}
use lib.ListN.{length-map, get_or-map, get_or-eq_default}
use lib.Seq.{slice}
use Rattle.rules.specs.Lists.{is_zero}
use Rattle.rules.specs.Sizes.{most_jobs, most_owners, most_entries, routes_length}
use Rattle.rules.specs.Routes.{empty_route}
use Rattle.rules.proofs.Ranges.{count_le}
use Rattle.rules.proofs.Members.{once_count}
use Rattle.edges.specs.Raw.{mid}
use Rattle.edges.specs.Rows.{offs, flat, pad}
use Rattle.edges.proofs.Rows.{row_slice, offs_length, offs_at, offs_next, offs_in, offs_last, pad_length}
use Rattle.edges.proofs.Tabs.{At, at, part_read}
use Rattle.routes.specs.Stops.{words}
use Rattle.routes.specs.Store.{Model, Holds, Wf, route_at, row, rows, invalid_in, invalids, lay, waiters, encode, stops_at, invalid_at, violated_at, assigned_at, waiters_at, waiting_at}
use Rattle.routes.specs.Handing.{Stopped, Forced, Broken, Faults, Assigned, Waiting}
use Rattle.routes.proofs.Windows.{mid_long, part_is}
use Rattle.routes.proofs.Wellformed.{flat_long}

-- ── where the tables lie ──

pub record Sized (a b c d e f : List ℕ) : Type 0 where
  pub offsets : length a ≡ stops_at
  pub stops : length b ≡ most_entries
  pub invalid : length c ≡ most_owners
  pub violated : length d ≡ most_owners
  pub assigned : length e ≡ most_jobs
  pub waiting : length f ≡ stops_at

module _ {a b c d e f : List ℕ} (s : Sized a b c d e f) where
  abbrev all : List ℕ
  all = lay a b c d e f

  pub at_offsets : At (lay a b c d e f) 0 stops_at a (λ y. lay y b c d e f)
  unfolding lay
  at_offsets = at all [] a (b ++ (c ++ (d ++ (e ++ f)))) 0 stops_at _ refl refl s.offsets (λ y. refl)

  pub at_stops : At (lay a b c d e f) stops_at most_entries b (λ y. lay a y c d e f)
  unfolding lay
  at_stops = at all a b (c ++ (d ++ (e ++ f))) stops_at most_entries _ refl s.offsets s.stops (λ y. refl)

  pub at_invalid : At (lay a b c d e f) invalid_at most_owners c (λ y. lay a b y d e f)
  unfolding lay
  at_invalid = at all (a ++ b) c (d ++ (e ++ f)) invalid_at most_owners _ (simp append_assoc) (simp length-append (omega arith)) s.invalid
      (λ y. simp append_assoc)

  pub at_violated : At (lay a b c d e f) violated_at most_owners d (λ y. lay a b c y e f)
  unfolding lay
  at_violated = at all (a ++ b ++ c) d (e ++ f) violated_at most_owners _ (simp append_assoc) (simp length-append (omega arith)) s.violated
      (λ y. simp append_assoc)

  faults_read : mid invalid_at (most_owners + most_owners) (lay a b c d e f) ≡ c ++ d
  unfolding lay
  faults_read = part_read all (a ++ b) (c ++ d) (e ++ f) invalid_at (most_owners + most_owners) (simp append_assoc)
      (simp length-append (omega arith)) (length-append c d ∙ omega arith)

  pub at_assigned : At (lay a b c d e f) assigned_at most_jobs e (λ y. lay a b c d y f)
  unfolding lay
  at_assigned = at all (a ++ b ++ c ++ d) e f assigned_at most_jobs _ (simp append_assoc) (simp length-append (omega arith)) s.assigned
      (λ y. simp append_assoc)

  pub at_waiters : At (lay a b c d e f) waiters_at stops_at f (λ y. lay a b c d e y)
  unfolding lay
  at_waiters = at all (a ++ b ++ c ++ d ++ e) f [] waiters_at stops_at _ (simp (append_assoc, append-nil))
      (simp length-append (omega arith)) s.waiting (λ y. simp (append_assoc, append-nil))

  last_read : drop waiters_at (lay a b c d e f) ≡ f
  unfolding lay
  last_read = rw (← append_assoc d e f, ← append_assoc c (d ++ e) f, ← append_assoc b (c ++ (d ++ e)) f, ← append_assoc a (b ++ (c ++ (d ++ e))) f)
      (drop_at (a ++ (b ++ (c ++ (d ++ e)))) f waiters_at (simp length-append (omega arith)))

-- ── with another of them ──

pub with_waiting : {a b c d e f : List ℕ} → Sized a b c d e f → (y : List ℕ) → length y ≡ stops_at → Sized a b c d e y
with_waiting s y q = record {
  offsets = s.offsets;
  stops = s.stops;
  invalid = s.invalid;
  violated = s.violated;
  assigned = s.assigned;
  waiting = q;
}

pub with_stops : {a b c d e f : List ℕ} → Sized a b c d e f → (y : List ℕ) → length y ≡ most_entries → Sized a y c d e f
with_stops s y q = record {
  offsets = s.offsets;
  stops = q;
  invalid = s.invalid;
  violated = s.violated;
  assigned = s.assigned;
  waiting = s.waiting;
}

pub with_invalid : {a b c d e f : List ℕ} → Sized a b c d e f → (y : List ℕ) → length y ≡ most_owners → Sized a b y d e f
with_invalid s y q = record {
  offsets = s.offsets;
  stops = s.stops;
  invalid = q;
  violated = s.violated;
  assigned = s.assigned;
  waiting = s.waiting;
}

pub with_assigned : {a b c d e f : List ℕ} → Sized a b c d e f → (y : List ℕ) → length y ≡ most_jobs → Sized a b c d y f
with_assigned s y q = record {
  offsets = s.offsets;
  stops = s.stops;
  invalid = s.invalid;
  violated = s.violated;
  assigned = q;
  waiting = s.waiting;
}

-- ── in the words of a model ──

module _ (m : Model) (w : Wf m) where
  pub owners : length (rows m) ≡ most_owners
  owners = length-map m.routes row ∙ w.owners

  pub waits_few : length m.waiting ≤ most_owners
  waits_few = let a = once_count most_owners m.waiting (λ v. true) w.once (λ v e. (w.small v e, refl)) in
      omega (arith, count_le most_owners (λ v. true))

  pub sized : Sized (offs 0 (rows m)) (pad most_entries (flat (rows m))) (invalids m) m.violated m.assigned (waiters m.waiting)
  sized = record {
    offsets = offs_length 0 (rows m) ∙ (let a = owners in omega arith);
    stops = pad_length most_entries (flat (rows m)) w.room;
    invalid = length-map m.routes invalid_in ∙ w.owners;
    violated = w.violated;
    assigned = w.assigned;
    waiting = ap suc (pad_length most_owners m.waiting waits_few);
  }

  pub encode_long : length (encode m) ≡ routes_length
  unfolding encode lay
  encode_long = let s = sized in simp length-append (omega arith)

module _ {l : List ℕ} {m : Model} (h : Holds l m) where
  -- ── the offsets ──

  offset : (i : ℕ) → i < stops_at → get_or l i 0 ≡ get_or (offs 0 (rows m)) i 0
  unfolding encode
  offset i k = rw h.words (rw zero-add at ((at_offsets (sized m h.wf)).get i k))

  pub total : get_or l most_owners 0 ≡ length (flat (rows m))
  total = offset most_owners (omega arith) ∙ rw (← owners m h.wf) (offs_last (rows m))

  module _ (o : ℕ) (k : o < most_owners) where
    in_rows : o < length (rows m)
    in_rows = let a = owners m h.wf in omega arith

    pub starts : get_or l o 0 ≡ length (flat (take o (rows m)))
    starts = offset o (omega arith) ∙ offs_at 0 (rows m) o (let a = in_rows in omega arith) ∙ zero-add _

    pub ends : get_or l (o + 1) 0 ≡ get_or l o 0 + length (get_or (rows m) o [])
    ends = offset (o + 1) (omega arith) ∙ rw (add-one o, offset o (omega arith)) (offs_next 0 (rows m) o in_rows)

    pub within : get_or l (o + 1) 0 ≤ get_or l most_owners 0
    within = let a = in_rows in let b = offset (o + 1) (omega arith) in let c = total in let d = offs_in 0 (rows m) (o + 1) (omega arith) in omega arith

    pub row_is : get_or (rows m) o [] ≡ words (route_at m o).stops
    row_is = get_or-map row m.routes o empty_route

    pub stops_are : (f t : ℕ) → f ≡ get_or l o 0 → t ≡ get_or l (o + 1) 0 → slice f t (mid stops_at most_entries l) ≡ get_or (rows m) o []
    unfolding encode
    stops_are f t ef et = rw (h.words, (at_stops (sized m h.wf)).read)
        (simp map-id at (row_slice (λ (n : ℕ). n) most_entries (rows m) o in_rows f t (ef ∙ offset o (omega arith))
        (et ∙ offset (o + 1) (omega arith) ∙ rw (add-one o))))

  -- ── the rest ──

  pub waits_count : get_or l waiters_at 0 ≡ length m.waiting
  unfolding encode
  waits_count = rw h.words ((at_waiters (sized m h.wf)).get 0 (omega arith))

  waits_are : take (length m.waiting) (drop waiting_at l) ≡ m.waiting
  unfolding encode pad
  waits_are = rw (h.words, ← drop-drop 1 waiters_at (encode m), last_read (sized m h.wf)) (take_at m.waiting _ (length m.waiting) refl)

-- ── what is handed out ──

module _ {l : List ℕ} {o f t : ℕ} (ef : f ≡ get_or l o 0) (et : t ≡ get_or l (o + 1) 0) (k : o < most_owners) where
  pub stops_back : t < f → Stopped l o []
  stops_back q = record { short = omega arith; is = λ m h. let a = ends h o k in absurd (omega arith) }

  pub stops_far : most_entries < t → Stopped l o []
  stops_far q = record {
    short = omega arith;
    is = λ m h. let a = within h o k in let b = total h in let c = h.wf.room in absurd (omega arith);
  }

  pub stops_in_lem : f ≤ t → t ≤ most_entries → Stopped l o (take (stops_at + t - (stops_at + f)) (drop (stops_at + f) l))
  stops_in_lem a b = record {
    short = omega (arith, length-take (stops_at + t - (stops_at + f)) (drop (stops_at + f) l));
    is = λ m h. part_is stops_at most_entries f t l a b ∙ stops_are h o k f t ef et ∙ row_is h o k;
  }

pub stops_out : (l : List ℕ) (o : ℕ) → most_owners ≤ o → Stopped l o []
stops_out l o k = record {
  short = omega arith;
  is = λ m h. rw (get_or-eq_default m.routes empty_route {n = o} (let a = h.wf.owners in omega arith));
}

pub forced : {l : List ℕ} {n : ℕ} → n ≡ get_or l most_owners 0 → n ≤ 65535 → Forced l n
forced e k = record { small = k; is = λ m h. e ∙ total h ∙ flat_long m.routes }

pub broken_out : (l : List ℕ) (o : ℕ) → most_owners ≤ o → Broken l o false
broken_out l o k m h = rw (get_or-eq_default m.routes empty_route {n = o} (let a = h.wf.owners in omega arith))

pub broken_in : (l : List ℕ) (o : ℕ) → o < most_owners → Broken l o (ltb 0 (get_or l (invalid_at + o) 0))
unfolding encode
broken_in l o k m h = rw (h.words, (at_invalid (sized m h.wf)).get o k, get_or-map invalid_in m.routes o empty_route)
    (above (route_at m o).invalid)
  where
    above : (n : ℕ) → ltb 0 n ≡ not (is_zero n)
    above zero = refl
    above (suc n) = lt-ltb 0 (suc n) (omega arith)

pub faults_are : (l : List ℕ) → length l ≡ routes_length → Faults l (mid invalid_at (most_owners + most_owners) l)
unfolding encode
faults_are l k = record {
  long = mid_long invalid_at (most_owners + most_owners) l (omega arith);
  is = λ m h. rw h.words (faults_read (sized m h.wf));
}

pub assigned_is : (l : List ℕ) → length l ≡ routes_length → Assigned l (mid assigned_at most_jobs l)
unfolding encode
assigned_is l k = record { long = mid_long assigned_at most_jobs l (omega arith); is = λ m h. rw h.words (at_assigned (sized m h.wf)).read }

module _ {l : List ℕ} {k : ℕ} (e : k ≡ get_or l waiters_at 0) where
  pub waits_many : most_owners < k → Waiting l []
  waits_many q = record { short = omega arith; is = λ m h. let a = waits_count h in let b = waits_few m h.wf in absurd (omega arith) }

  pub waiting_is : k ≤ most_owners → Waiting l (take (waiting_at + k - waiting_at) (drop waiting_at l))
  waiting_is q = record {
    short = omega (arith, length-take (waiting_at + k - waiting_at) (drop waiting_at l));
    is = λ m h. let z : waiting_at + k - waiting_at ≡ length m.waiting = (let a = waits_count h in omega arith) in rw z (waits_are h);
  }

pub ruleset handing = (rules, stops_out, stops_back, stops_far, stops_in_lem, forced, broken_out, broken_in, faults_are, assigned_is, waits_many, waiting_is)
