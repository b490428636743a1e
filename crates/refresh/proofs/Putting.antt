-- A put: the words follow the plan, the scores stand around the change, and the call keeps its promise. Assumes nothing.
use Prim.Native.Nat.{ℕ, ◌≤◌, ◌<◌}
use native.Mathlib.Omega.{arith}
use mathlib.Core.Path.{◌≡◌, refl, sym, ap, subst, ◌∙◌}
use mathlib.Core.Bool.{Bool, true, false, cond}
use lib.Dec.{ltb, leb}
use mathlib.Core.Option.{none, some}
use mathlib.Core.Logic.{◌⊎◌, inl, inr, ⊎_elim}
use mathlib.Core.List.{List, [], ◌∷◌, ◌++◌, append_assoc}
use lib.ListN.{length, get_or, take, drop, length-append, length-map, take-append-drop}
use lib.Seq.{take_all, drop_at}
use borrow.Author.Tests.{lt-ltb, le-ltb}
use Rattle.rules.specs.declared.Plan.{Plan as Counts}
use Rattle.rules.specs.declared.Score.{Score}
use Rattle.rules.specs.declared.Report.{Report}
use Rattle.rules.specs.declared.Refusal.{Refusal}
use Rattle.rules.specs.declared.Refusal.TheVariants.{NoRoom, BadStore, NoSuchOwner, TooManyEntries}
use Rattle.rules.specs.Lists.{Pair, table, memb}
use Rattle.rules.specs.Sizes.{Base, expected_of, is_short, most_entries, most_fixed, most_jobs, nobodys, base_length, edges_length, routes_length, spans_length, times_length}
use Rattle.rules.specs.Routes.{Plan, put_plan, in_force}
use Rattle.rules.specs.Refusals.{Check, first_of, no_owner, too_many, no_room, number_of}
use Rattle.rules.specs.Scores.{invalid_fixed, score, minus_of}
use Rattle.rules.specs.Reports.{put_report}
use Rattle.rules.specs.Calls.{changed, refused, to_put, refusal, accepted}
use Rattle.rules.specs.Sound.{Loaded}
use Rattle.rules.proofs.Ranges.{lt_or_le}
use Rattle.rules.proofs.Refused.{accepted_step}
use Rattle.puts.specs.declared.put.Heads.{Heads}
use Rattle.routes.specs.Asks.{ask_of}
use Rattle.routes.specs.Snapped.{Stated}
use Rattle.puts.specs.Puts.{Asked, PutPromised}
use Rattle.routes.proofs.Asking.{refusal_of, ask_is, ask_owner, ask_many}
use Rattle.times.specs.Words.{span_words}
use Rattle.times.specs.Settles.{Refreshes, Refreshed}
use Rattle.refresh.specs.declared.put.Change.{Change}
use Rattle.std.specs.Prelude.{Result, Ok, Err}
use Rattle.stores.specs.Words.{base_words, padded, froms, tos, expected_at}
use Rattle.stores.specs.Headers.{open_of, counts_of}
use Rattle.stores.specs.Promise.{checks_by, Heeds, Slices, slices, lent_of, call_of, Held, holding, after, Decided, Promise}
use Rattle.stores.specs.Sums.{ScoredBy}
use Rattle.refresh.specs.Changes.{says_changed, Worded, Puts, Follows, Changes}
use Rattle.edges.proofs.Listing.{between}
use Rattle.rules.proofs.Tabled.{table_at}
use Rattle.stores.proofs.Laying.{padded_length}
use Rattle.stores.proofs.Promises.{closed_kept, opened_kept, decided_refused, refusal_long, held_same, heeds_first, heeds_later}
use Rattle.stores.proofs.Scores.{scored_held}

-- of two constructors that are said to be equal `cc` makes this
never : {A : Type 0} → ◌≡◌ {A = ℕ} 0 1 → A
never e = absurd (omega arith)

-- ── what the base states of the jobs' owners ──

module _ (b : Base) (few : length b.fixed ≤ most_fixed) where
  abbrev ahead : List ℕ
  ahead = 1 ∷ b.jobs ∷ b.owners ∷ length b.fixed ∷ invalid_fixed b ∷ (padded most_fixed (froms b) ++ padded most_fixed (tos b))

  ahead_length : length ahead ≡ expected_at
  ahead_length =
      let f = length-map b.fixed (λ (e : Pair). e.0) in
      let t = length-map b.fixed (λ (e : Pair). e.1) in
      let x = padded_length most_fixed (froms b) 0 (omega arith) in
      let y = padded_length most_fixed (tos b) 0 (omega arith) in
      let z = length-append (padded most_fixed (froms b)) (padded most_fixed (tos b)) in
      omega arith

  behind_ahead : drop expected_at (base_words b) ≡ table most_jobs (expected_of b)
  unfolding base_words
  behind_ahead =
      ap (λ (l : List ℕ). drop expected_at (1 ∷ b.jobs ∷ b.owners ∷ length b.fixed ∷ invalid_fixed b ∷ l))
      (sym (append_assoc (padded most_fixed (froms b)) (padded most_fixed (tos b)) (table most_jobs (expected_of b))))
      ∙ drop_at ahead (table most_jobs (expected_of b)) expected_at ahead_length

stated : (b : Base) (l : List ℕ) → Loaded b → take base_length l ≡ base_words b → Stated b.jobs (take most_jobs (drop expected_at l)) b
stated b l L e v h =
    ap (λ (x : List ℕ). get_or x v nobodys) (between expected_at base_length l (omega arith) ∙ ap (drop expected_at) e ∙ behind_ahead b L.fixed)
    ∙ table_at most_jobs (expected_of b) nobodys v (let x = L.jobs in omega arith)

-- a put leaves the base
put_base : (p : Plan) (o : ℕ) (l : List ℕ) → (put_plan p o l).base ≡ p.base
unfolding put_plan
put_base p o l = refl

-- ── the routes and the edges change, and the times follow ──

module _ {base sp e r ts e' r' came came' went went' gone gone' xs : List ℕ} {n o : ℕ} {l : List ℕ} {a : Result Heads Refusal}
    (P : PutPromised r e xs n o l r' e' came came' went went' gone gone' a) (X : xs ≡ take most_jobs (drop expected_at base)) where
  asked : (p : Plan) → Puts (slices base sp e r ts) n o l p → Asked r e p xs n o
  asked p A = record {
    desked = A.worded.desk;
    owner = A.owner;
    jobs = A.jobs;
    stated = rw X (subst (λ (k : ℕ). Stated k (take most_jobs (drop expected_at base)) p.base) (sym A.jobs)
        (stated p.base base A.worded.desk.sound.loaded A.worded.base));
  }

  -- a store that no calls could have left
  follow_bad : a ≡ Err BadStore → {s' : Slices} → Follows (slices base sp e r ts) s' n o l (Err BadStore)
  follow_bad q = record {
    done = λ p A h. let D = (P.done p (asked p A) h).answer in never cc;
    full = λ p A h. let D = (P.full p (asked p A) h).0 in never cc;
    stays = λ k e. inl cc;
  }

  follow_full : a ≡ Err NoRoom → Follows (slices base sp e r ts) (slices base sp e' r' ts) n o l (Err NoRoom)
  follow_full q = record {
    done = λ p A h. let D = (P.done p (asked p A) h).answer in never cc;
    full = λ p A h. let (x, y, z) = P.full p (asked p A) h in (refl, rw (y, z));
    stays = λ k e. inr (cc, let (y, z) = P.stays q in rw (y, z));
  }

  pub follow_refused : {k : Refusal} → a ≡ Err k → Follows (slices base sp e r ts) (slices base sp e' r' ts) n o l (Err k)
  follow_refused {k} q = elim (P.refuses k q) [
    | inl z ↦ rw z (follow_bad (q ∙ ap Err z))
    | inr z ↦ rw z (follow_full (q ∙ ap Err z))
  ]

  module _ {h : Heads} {m : ℕ} {x : Report} {ts' : List ℕ} (q : a ≡ Ok h)
      (R : Refreshes e' sp ts (take h.came came' ++ (take h.went went' ++ take h.gone gone')) (take h.came came') m x ts') (j : m ≡ n) where
    refreshed : (p : Plan) → Puts (slices base sp e r ts) n o l p → in_force (put_plan p o l).desk.routes ≤ most_entries
        → Refreshed p o l x ts'
    refreshed p A room =
        let D = P.done p (asked p A) room in
        let d = D.answer in
        let k : D.heads ≡ h = cc in
        R.is p o l (record {
          sound = A.worded.desk.sound;
          owner = A.owner;
          few = A.few;
          room = room;
          edges = D.desked.edges;
          spans = A.worded.spans;
          jobs = j ∙ A.jobs;
        }) A.worded.times (rw k at D.queued) (rw k at D.came_queued)

    no_full : (p : Plan) → Puts (slices base sp e r ts) n o l p → most_entries < in_force (put_plan p o l).desk.routes → ⊥
    no_full p A h = let d = (P.full p (asked p A) h).0 in never cc

    pub follow_done : Follows (slices base sp e r ts) (slices base sp e' r' ts') n o l (Ok x)
    follow_done = record {
      done = λ p A h. let R = refreshed p A h in record {
        reports = ap Ok R.report;
        worded = record {
          base = A.worded.base ∙ ap base_words (sym (put_base p o l));
          spans = A.worded.spans ∙ ap span_words (sym (put_base p o l));
          desk = (P.done p (asked p A) h).desked;
          times = R.times;
        };
      };
      full = λ p A h. absurd (no_full p A h);
      stays = λ k e. never cc;
    }

-- ── the scores around it ──

-- slices of the lengths that `rescore` asks for
abbrev pub Cut : Slices → Type 0
Cut s =
    (base_length ≤ length s.base) × (length s.spans ≡ spans_length) × (length s.edges ≡ edges_length) × (length s.routes ≡ routes_length)
    × (length s.times ≡ times_length)

module _ {s : Slices} (C : Cut s) where
  worded_held : (p : Plan) → Worded s p → Held s p
  worded_held p W = record {
    base = W.base;
    spans = take_all spans_length s.spans (let x = C.1 in omega arith) ∙ W.spans;
    desk = rw (
      take_all routes_length s.routes (let x = C.3 in omega arith),
      take_all edges_length s.edges (let x = C.2 in omega arith),
    ) W.desk;
    times = take_all times_length s.times (let x = C.4 in omega arith) ∙ W.times;
  }

  scored_worded : {n : ℕ} {a : Result Score Refusal} → ScoredBy s.base s.routes s.times n a → (p : Plan) → n ≡ p.base.jobs
      → Worded s p → a ≡ Ok (score p)
  scored_worded q p j W = scored_held s p (worded_held p W) q j

module _ {s : Slices} {n o : ℕ} {l : List ℕ} (C : Cut s) {a : Result Score Refusal} (q : ScoredBy s.base s.routes s.times n a) where
  before_is : (p : Plan) → Puts s n o l p → a ≡ Ok (score p)
  before_is p A = scored_worded C q p A.jobs A.worded

  pub rescore_bad : {r : Refusal} → a ≡ Err r → {s' : Slices} → Changes s s' n o l (Err r)
  rescore_bad {r} e = record {
    done = λ p A h. let b = before_is p A in never cc;
    full = λ p A h. let b = before_is p A in never cc;
    stays = λ k f. let z : r ≡ BadStore = q.twelve r e in inl cc;
  }

  module _ {s' : Slices} {f : Result Report Refusal} (F : Follows s s' n o l f) where
    pub rescore_refused : {r : Refusal} → f ≡ Err r → Changes s s' n o l (Err r)
    rescore_refused {r} e = record {
      done = λ p A h. let d = (F.done p A h).reports in never cc;
      full = λ p A h. let (d, k) = F.full p A h in let z : r ≡ NoRoom = cc in (ap Err z, k);
      stays = λ k f. let z : r ≡ k = cc in F.stays k (e ∙ ap Err z);
    }

    module _ (C' : Cut s') {b : Result Score Refusal} (q' : ScoredBy s'.base s'.routes s'.times n b) {report : Report}
        (e : f ≡ Ok report) where
      after_is : (p : Plan) → Puts s n o l p → in_force (put_plan p o l).desk.routes ≤ most_entries
          → b ≡ Ok (score (put_plan p o l))
      after_is p A h = scored_worded C' q' (put_plan p o l)
          (A.jobs ∙ ap (λ (x : Base). x.jobs) (sym (put_base p o l))) (F.done p A h).worded

      followed_full : (p : Plan) → Puts s n o l p → most_entries < in_force (put_plan p o l).desk.routes → ⊥
      followed_full p A h = let d = (F.full p A h).0 in never cc

      pub rescore_lost : {r : Refusal} → b ≡ Err r → Changes s s' n o l (Err r)
      rescore_lost {r} k = record {
        done = λ p A h. let d = after_is p A h in never cc;
        full = λ p A h. absurd (followed_full p A h);
        stays = λ j f. let z : r ≡ BadStore = q'.twelve r k in inl cc;
      }

      pub rescore_done : {x y z : Score} → a ≡ Ok x → b ≡ Ok y → z ≡ minus_of y x
          → Changes s s' n o l (Ok (record { score = z; report = report }))
      rescore_done {x} {y} {z} i k m = record {
        done = λ p A h.
            let D = F.done p A h in
            let t = D.reports in
            let u = before_is p A in
            let v = after_is p A h in
            let rx : x ≡ score p = cc in
            let ry : y ≡ score (put_plan p o l) = cc in
            let rr : report ≡ put_report p o l = cc in
            record { says = rw (m, rx, ry, rr); worded = D.worded };
        full = λ p A h. absurd (followed_full p A h);
        stays = λ j f. never cc;
      }

-- ── the call ──

-- a put that says a refusal is one
says_refused : (x : Result Change Refusal) (k : Refusal) → says_changed x ≡ refused k → x ≡ Err k
says_refused (Ok c) k e = never cc
says_refused (Err r) k e = cc

first_more : (l m : List Check) (r : Refusal) → first_of l ≡ some r → first_of (l ++ m) ≡ some r
first_more [] m r e = never cc
first_more ((q, true) ∷ l) m r e = e
first_more ((q, false) ∷ l) m r e = first_more l m r e

first_next : (l m : List Check) → first_of l ≡ none → first_of (l ++ m) ≡ first_of m
first_next [] m e = refl
first_next ((q, true) ∷ l) m e = never cc
first_next ((q, false) ∷ l) m e = first_next l m e

ask_fine_is : (n o k : ℕ) → Ok tt ≡ ask_of n o k → (o < n) × (k ≤ most_entries)
ask_fine_is n o k e = go (lt_or_le o n) (lt_or_le most_entries k)
  where
    go : (o < n) ⊎ (n ≤ o) → (most_entries < k) ⊎ (k ≤ most_entries) → (o < n) × (k ≤ most_entries)
    go (inl x) (inr y) = (x, y)
    go (inl x) (inl y) = let q = ask_many n o k refl (rw (lt-ltb o n x)) refl (lt-ltb most_entries k y) in never cc
    go (inr x) y = let q = ask_owner n o k refl (rw (le-ltb o n x)) in never cc

ask_counts : (a b : Bool) → refusal_of (cond a (Err NoSuchOwner) (cond b (Err TooManyEntries) (Ok tt)))
    ≡ first_of ((NoSuchOwner, a) ∷ (TooManyEntries, b) ∷ [])
ask_counts true b = refl
ask_counts false true = refl
ask_counts false false = refl

-- the slices cut to their constants
abbrev pub cut : Slices → Slices
cut s = slices s.base (take spans_length s.spans) (take edges_length s.edges) (take routes_length s.routes) (take times_length s.times)

-- the edges, routes and times of u in front, and what lay beyond the constants
abbrev pub glued : Slices → Slices → Slices
glued s u =
    slices s.base s.spans (u.edges ++ drop edges_length s.edges) (u.routes ++ drop routes_length s.routes) (u.times ++ drop times_length s.times)

glued_same : (s : Slices) → glued s (cut s) ≡ s
glued_same s = rw (take-append-drop edges_length s.edges, take-append-drop routes_length s.routes, take-append-drop times_length s.times)

module _ (s : Slices) (p : Plan) (H : Held s p) where
  held_base : base_words p.base ++ drop base_length s.base ≡ s.base
  unfolding holding
  held_base = ap (λ (x : Slices). x.base) (sym (held_same s p H))

  held_spans : span_words p.base ++ drop spans_length s.spans ≡ s.spans
  unfolding holding
  held_spans = ap (λ (x : Slices). x.spans) (sym (held_same s p H))

  glued_put : (o : ℕ) (l : List ℕ) (u : Slices) → Worded u (put_plan p o l) → glued s u ≡ holding (put_plan p o l) s
  unfolding holding
  glued_put o l u W = rw (W.desk.edges.words, W.desk.routes.words, W.times, put_base p o l, held_base, held_spans)

  worded_cut : Worded (cut s) p
  worded_cut = record { base = H.base; spans = H.spans; desk = H.desk; times = H.times }

module _ (s : Slices) (o : ℕ) (l : List ℕ) {h : Result Counts Refusal} (opens : h ≡ open_of (lent_of s) s.base) where
  pub put_closed : {r : Refusal} → h ≡ Err r → Promise (to_put o l) s s [] [] (refused r)
  put_closed = closed_kept (to_put o l) s opens [] refl

  module _ {plan : Counts} (is : h ≡ Ok plan) {a : Result (Unit {0}) Refusal} (asks : a ≡ ask_of plan.owners o (length l)) where
    -- 5, then 6
    asked_first : (p : Plan) → plan ≡ counts_of p.base → refusal_of a ≡ first_of (no_owner p o ∷ too_many l ∷ [])
    asked_first p q = ap refusal_of (asks ∙ ap (λ (c : Counts). ask_of c.owners o (length l)) q) ∙ ask_is p o l

    -- as the header's counts say
    asked_counts : refusal_of a ≡ first_of (checks_by plan (to_put o l))
    asked_counts = ap refusal_of asks ∙ ask_counts (leb plan.owners o) (ltb most_entries (length l))

    pub put_refused : {r : Refusal} → refusal_of a ≡ some r → Promise (to_put o l) s s [] [] (refused r)
    put_refused {r} e = opened_kept (to_put o l) s opens s [] [] (refused r) is (λ f p H q.
        decided_refused (some p) (to_put o l) s [] r
        (refusal_long (some p) (to_put o l) s f
        ∙ first_more (no_owner p o ∷ too_many l ∷ []) (no_room p o l ∷ []) r (sym (asked_first p q) ∙ e)))
        (heeds_first (to_put o l) s opens [] (rw is (sym asked_counts ∙ e)))

    module _ (fine : a ≡ Ok tt) {x : Result Change Refusal} {e r ts : List ℕ}
        (X : Changes (cut s) (slices s.base (take spans_length s.spans) e r ts) plan.jobs o l x) where
      abbrev left : Slices
      left = slices s.base (take spans_length s.spans) e r ts

      module _ (f : is_short (lent_of s) ≡ false) (p : Plan) (H : Held s p) (q : plan ≡ counts_of p.base) where
        -- 7 is left to ask
        room_asked : refusal (some p) (call_of (to_put o l) s) ≡ first_of (no_room p o l ∷ [])
        room_asked = refusal_long (some p) (to_put o l) s f
            ∙ first_next (no_owner p o ∷ too_many l ∷ []) (no_room p o l ∷ []) (sym (asked_first p q) ∙ ap refusal_of fine)

        may_put : Puts (cut s) plan.jobs o l p
        may_put =
            let (x, y) = ask_fine_is p.base.owners o (length l)
            (sym fine ∙ asks ∙ ap (λ (c : Counts). ask_of c.owners o (length l)) q) in
            record { worded = worded_cut s p H; jobs = ap (λ (c : Counts). c.jobs) q; owner = x; few = y }

        no_room_lem : most_entries < in_force (put_plan p o l).desk.routes → Decided (some p) (to_put o l) s (glued s left) [] [] (says_changed x)
        no_room_lem h =
            let (d, k) = X.full p may_put h in
            let g : glued s left ≡ s = ap (glued s) k ∙ glued_same s in
            rw (d, g) (decided_refused (some p) (to_put o l) s [] NoRoom (room_asked ∙ rw (lt-ltb most_entries _ h)))

        module _ (room : in_force (put_plan p o l).desk.routes ≤ most_entries) where
          accepts : refusal (some p) (call_of (to_put o l) s) ≡ none
          accepts = room_asked ∙ rw (le-ltb most_entries _ room)

          leaves : glued s left ≡ after (some p) (call_of (to_put o l) s) s
          unfolding after accepted
          leaves = rw (accepts, accepted_step (some p) (call_of (to_put o l) s) accepts)
              (glued_put s p H o l left (X.done p may_put room).worded)

          says : changed (minus_of (score (put_plan p o l)) (score p)) (put_report p o l) ≡ (accepted (some p) (to_put o l)).reply
          unfolding accepted
          says = refl

          with_room : Decided (some p) (to_put o l) s (glued s left) [] [] (says_changed x)
          with_room = record {
            says = rw (X.done p may_put room).says
                (says ∙ sym (ap (λ t. t.reply) (accepted_step (some p) (call_of (to_put o l) s) accepts)));
            leaves = leaves;
            answers = rw (X.done p may_put room).says;
          }

      -- 12, or 7 and nothing was written
      put_heeds : Heeds {A = ℕ} (to_put o l) s (glued s left) [] [] (says_changed x)
      put_heeds = heeds_later (to_put o l) s opens (rw is (sym asked_counts ∙ ap refusal_of fine))
          (λ k e. number k (X.stays k (says_refused x k e)))
          (λ k e n. (same k n (X.stays k (says_refused x k e)), refl))
        where
          number : (k : Refusal) → (k ≡ BadStore) ⊎ ((k ≡ NoRoom) × (left ≡ cut s)) → memb (number_of k) (12 ∷ 7 ∷ []) ≡ true
          number k (inl q) = rw q
          number k (inr (q, w)) = rw q

          same : (k : Refusal) → (k ≡ BadStore → ⊥) → (k ≡ BadStore) ⊎ ((k ≡ NoRoom) × (left ≡ cut s)) → glued s left ≡ s
          same k n (inl q) = absurd (n q)
          same k n (inr (q, w)) = ap (glued s) w ∙ glued_same s

      pub put_changed : Promise (to_put o l) s (glued s left) [] [] (says_changed x)
      put_changed = opened_kept (to_put o l) s opens (glued s left) [] [] (says_changed x) is (λ f p H q.
          ⊎_elim (no_room_lem f p H q) (with_room f p H q) (lt_or_le most_entries (in_force (put_plan p o l).desk.routes)))
          put_heeds
