-- Laws of the search, and of finding one block after the other. Assumes nothing.
use Rattle.std.proofs.Common.{◌≡◌, Result, Ok, Err, IfOk, ℕ, ◌+◌, ◌<◌, ◌≤◌, Bool, true, false, not, eqb, ltb, ◌⊎◌, List, [], ◌∷◌, length, get_or, take, drop, replicate, sym, refl, ap, ◌∙◌, inl, inr, arith, length-drop, drop_of_length-le, length-take, length-take-le, get_or-drop, drop-drop, rules, le-ltb}
use mathlib.Core.Option.{none, some}
use Rattle.rules.specs.declared.Block.{Block}
use Rattle.rules.specs.declared.Plan.{Plan as Header}
use Rattle.rules.specs.declared.Refusal.{Refusal}
use Rattle.rules.specs.declared.Refusal.TheVariants.{ShortAnswer}
use Rattle.rules.specs.Lists.{tick}
use Rattle.rules.specs.Sizes.{edges_length, is_short, most_jobs, routes_length, spans_length, times_length}
use Rattle.rules.specs.Routes.{Plan, State}
use Rattle.rules.specs.Scores.{is_cyclic}
use Rattle.rules.specs.Blocks.{blocks, no_block}
use Rattle.rules.specs.Calls.{accepted, blocked, refused, reply, to_blocks}
use Rattle.rules.proofs.Ranges.{Test, pass, fail, test, lt_or_le}
use Rattle.rules.proofs.Runs.{blocks_cyclic}
use Rattle.graphs.specs.Graph.{live}
use Rattle.routes.specs.Desks.{edges_of, routes_of}
use Rattle.times.specs.Words.{time_words, cyclic_in, makespan_in, starts_in}
use Rattle.stores.specs.Headers.{open_of, counts_of, Opened}
use Rattle.stores.specs.Promise.{Slices, lent_of, call_of, after, Held, StandsFor}
use Rattle.stores.proofs.Openings.{open_none, open_short, open_some}
use Rattle.stores.proofs.Readings.{times_starts}
use Rattle.stores.proofs.Scores.{timed}
use Rattle.stores.proofs.Promises.{closed_kept, decided_read, decided_refused, refusal_long}
use Rattle.blocks.specs.Latests.{Criticals}
use Rattle.blocks.specs.Arcs.{sight}
use Rattle.blocks.specs.Overs.{ahead, begun, fitting, Counted, Stepped}
use Rattle.blocks.specs.Searches.{Calm, ahead_of, tally, Refuses, Finds, Counts}
use Rattle.blocks.specs.Promise.{Leads, SearchDecided, SearchPromise, NextPromise}
use Rattle.blocks.specs.declared.blocks.Found.{Found}
use Rattle.blocks.specs.declared.blocks.Spot.{Spot}
use Rattle.blocks.proofs.Calming.{ahead_is, words_ahead}

-- ── `counted` ──

module _ {e sp st l os : List ℕ} {top n all room : ℕ} {c : List ℕ} {q : Result ℕ Refusal} (N : Counted e (sight sp st c n) l all os room q)
    (K : Criticals e sp st top n c) where
  count_is : (p : Plan) → Calm e sp st top n l all p → q ≡ fitting room (length (blocks p os))
  count_is p C =
      N.is (edges_of p) (routes_of p) C.desk.edges C.desk.routes
      ∙ ap (λ (bs : List Block). fitting room (length bs)) (words_ahead C K os)

  pub counted_none : {r : Refusal} → q ≡ Err r → Counts e sp st top n l all os room (Err r)
  counted_none {r} x = record {
    few = tt;
    refuses = rw x at N.fits;
    is = λ p C. record { answer = sym x ∙ count_is p C; leads = tt };
  }

  pub counted_all : {k : ℕ} {at : Spot} → q ≡ Ok k → at ≡ begun
      → Counts e sp st top n l all os room (Ok (record { crit = c; spot = at; count = k }))
  counted_all {k} {at} x y = record {
    few = rw x at N.fits;
    refuses = tt;
    is = λ p C. record { answer = sym x ∙ count_is p C; leads = λ z. rw y (ahead_is C K os) };
  }

-- ── `search` ──

-- what a store that opens says of lengths and counts
module _ (s : Slices) {plan : Header} (O : Opened (lent_of s) plan) where
  pub few_starts : {st : List ℕ} → st ≡ starts_in s.times → plan.jobs ≤ length st
  few_starts es = rw es (simp (length-take, length-drop) (omega (arith, O.jobs, O.long.times)))

  pub few_in : (x : List ℕ) → length x ≡ most_jobs → plan.jobs ≤ length x
  few_in x q = omega (arith, O.jobs)

mark_set : (b : Bool) → not (eqb (tick b 0) 0) ≡ b
mark_set true = refl
mark_set false = refl

-- the verdict of a plan whose times are held
cyclic_held : (l : List ℕ) (p : Plan) → take times_length l ≡ time_words p → cyclic_in l ≡ is_cyclic p
cyclic_held l p e = ap (λ (x : ℕ). not (eqb x 0)) (timed p l e).0 ∙ mark_set (is_cyclic p)

opens_not : {A : Type 0} {c : Header} {r : Refusal} → Ok c ≡ Err r → A
opens_not e = absurd (cc)

-- in the state t the rules refuse
decided_no : {t : State} {os : List ℕ} {room : ℕ} {s : Slices} {k : Refusal} → refused k ≡ reply t (call_of (to_blocks os room) s)
    → s ≡ after t (call_of (to_blocks os room) s) s → SearchDecided t os room s (Err k)
decided_no q l = record { answer = rw (← q); count = tt; leads = tt; leaves = l }

module _ (os : List ℕ) (room : ℕ) (s : Slices) {h : Result Header Refusal} (opens : h ≡ open_of (lent_of s) s.base) where
  pub searched_closed : {r : Refusal} → h ≡ Err r → SearchPromise os room s (Err r)
  searched_closed {r} e = record {
    decides = λ t k. let d = (closed_kept (to_blocks os room) s opens [] refl e).decides t k in decided_no d.says d.leaves;
    first = λ k q. let i : r ≡ k = cc in ap Err i;
    later = λ c q. opens_not (sym q ∙ sym opens ∙ e);
    few = tt;
  }

  module _ {plan : Header} (is : h ≡ Ok plan) {r : Result Found Refusal} where
    -- a store that opens stands for a plan, if it stands for anything
    opened : ((p : Plan) → is_short (lent_of s) ≡ false → Held s p → plan ≡ counts_of p.base → Finds p os room r) → Refuses r
        → IfOk r (λ f. f.count ≤ room) → SearchPromise os room s r
    unfolding accepted
    opened g R few = record {
      decides = λ t k. go t k (test (is_short (lent_of s)));
      first = λ k q. opens_not (sym is ∙ opens ∙ q);
      later = λ c x. R;
      few = few;
    }
      where
        found : (p : Plan) → is_short (lent_of s) ≡ false → Held s p → (x : Result Found Refusal) → Finds p os room x
            → Test (ltb room (length (blocks p os))) → SearchDecided (some p) os room s x
        found p x H (Err k) F (pass z) =
            let d = decided_refused (some p) (to_blocks os room) s [] ShortAnswer (refusal_long (some p) (to_blocks os room) s x ∙ rw z) in
            let e : k ≡ ShortAnswer = let a : tally (Err k) ≡ Err ShortAnswer = F.answer ∙ rw z in cc in
            rw e (decided_no d.says d.leaves)
        found p x H (Ok f) F (pass z) = absurd (let a : tally (Ok f) ≡ Err ShortAnswer = F.answer ∙ rw z in cc)
        found p x H (Err k) F (fail z) = absurd (let a : tally (Err k) ≡ Ok (length (blocks p os)) = F.answer ∙ rw z in cc)
        found p x H (Ok f) F (fail z) =
            let a : tally (Ok f) ≡ Ok (length (blocks p os)) = F.answer ∙ rw z in
            let n : f.count ≡ length (blocks p os) = cc in
            let d = decided_read p (to_blocks os room) s H (refusal_long (some p) (to_blocks os room) s x ∙ rw z) [] (blocked (blocks p os)) refl refl in
            let q = d.says in
            record {
              answer = rw (← q) a;
              count = rw (← q) n;
              leads = rw (← q) (λ y. record { plan = p; long = x; held = H; is = F.leads y });
              leaves = d.leaves;
            }

        go : (t : State) → StandsFor s t → Test (is_short (lent_of s)) → SearchDecided t os room s r
        go t k (pass x) = opens_not (sym is ∙ opens ∙ open_short s.base (lent_of s) x)
        go none k (fail x) = opens_not (sym is ∙ opens ∙ open_none s x (k x))
        go (some p) k (fail x) =
            let y = sym is ∙ opens ∙ open_some s x p (k x) in
            let q : plan ≡ counts_of p.base = cc in
            found p x (k x) r (g p x (k x) q) (test (ltb room (length (blocks p os))))

    pub searched_calm : {b : Bool} {st : List ℕ} {top n : ℕ}
        → Counts (take edges_length s.edges) (take spans_length s.spans) st top n (take routes_length s.routes) plan.owners os room r
        → st ≡ starts_in s.times → top ≡ makespan_in s.times → n ≡ plan.jobs → b ≡ cyclic_in s.times → b ≡ false → SearchPromise os room s r
    searched_calm K es et en eb q = opened (λ p y H z. K.is p (record {
      desk = H.desk;
      spans = H.spans;
      starts = es ∙ times_starts p s.times H.times;
      ends = et ∙ (timed p s.times H.times).1;
      jobs = en ∙ ap (λ (c : Header). c.jobs) z;
      owners = ap (λ (c : Header). c.owners) z;
      calm = sym (cyclic_held s.times p H.times) ∙ sym eb ∙ q;
    })) K.refuses K.few

  -- a cyclic plan has no blocks
  pub searched_cyclic : {plan : Header} {b : Bool} {f : Found} → h ≡ Ok plan → b ≡ cyclic_in s.times → b ≡ true → f.count ≡ 0
      → SearchPromise os room s (Ok f)
  searched_cyclic {f = f} is eb q z =
      opened is (λ p y H w. none_found p (sym (cyclic_held s.times p H.times) ∙ sym eb ∙ q)) tt (rw z (omega arith))
    where
      none_found : (p : Plan) → is_cyclic p ≡ true → Finds p os room (Ok f)
      none_found p y =
          let k = blocks_cyclic p os y in
          record { answer = rw (k, z, le-ltb room 0 (omega arith)); leads = λ w. absurd (omega arith) }

-- ── `next` ──

pub moved_closed : (os : List ℕ) (s : Slices) (f : Found) (at r : Spot) {h : Result Header Refusal} {k : Refusal} → h ≡ open_of (lent_of s) s.base → h ≡ Err k
    → NextPromise os s f at r
moved_closed os s f at r {h} {k} opens e = record { block = λ bs L. never L; leads = λ bs L. never L }
  where
    never : {A : Type 0} {bs : List Block} → Leads os s f at bs → A
    never L = opens_not (sym (open_some s L.long L.plan L.held) ∙ sym opens ∙ e)

module _ {os : List ℕ} {s : Slices} {f : Found} {at r : Spot} {h : Result Header Refusal} {plan : Header} {st : List ℕ} {n : ℕ}
    (N : Stepped (take edges_length s.edges) (sight (take spans_length s.spans) st f.crit n) (take routes_length s.routes) plan.owners
    os at r) (es : st ≡ starts_in s.times) (en : n ≡ plan.jobs) (is : h ≡ Ok plan) (opens : h ≡ open_of (lent_of s) s.base) where
  -- read off the plan
  module _ {bs : List Block} (L : Leads os s f at bs) where
    abbrev p : Plan
    p = L.plan

    counts : plan ≡ counts_of p.base
    counts = let y = sym is ∙ opens ∙ open_some s L.long p L.held in cc

    same : (x : Spot) → ahead (live (edges_of p)) (sight (take spans_length s.spans) st f.crit n) (routes_of p) plan.owners os x
        ≡ ahead_of p f.crit os x
    unfolding ahead_of
    same x = λ i. ahead (live (edges_of p)) (sight (L.held.spans i) ((es ∙ times_starts p s.times L.held.times) i) f.crit ((en ∙ ap (λ (c : Header). c.jobs) counts) i))
        (routes_of p) (counts i).owners os x

    abbrev Next : Type 0
    Next = (r.block ≡ get_or bs 0 no_block) × (ahead_of p f.crit os r ≡ drop 1 bs)

    go : (r.owner < length os) ⊎ (length os ≤ r.owner) → Next
    unfolding ahead ahead_of
    go (inl k) =
        let y = N.found (edges_of p) (routes_of p) L.held.desk.edges L.held.desk.routes k in
        let z : bs ≡ r.block ∷ ahead_of p f.crit os r = sym L.is ∙ sym (same at) ∙ y ∙ ap {B = List Block} (λ (l : List Block). r.block ∷ l) (same r) in
        (sym (ap (λ (l : List Block). get_or l 0 no_block) z), sym (ap (drop 1) z))
    go (inr k) =
        let y = N.done (edges_of p) (routes_of p) L.held.desk.edges L.held.desk.routes k in
        let z : bs ≡ [] = sym L.is ∙ sym (same at) ∙ y.0 in
        let w : ahead_of p f.crit os r ≡ [] = rw (drop_of_length-le os k) in
        (y.1 ∙ sym (ap (λ (l : List Block). get_or l 0 no_block) z), w ∙ sym (ap (drop 1) z))

    next_is : Next
    next_is = go (lt_or_le r.owner (length os))

  pub moved_on_lem : NextPromise os s f at r
  moved_on_lem = record {
    block = λ bs L. (next_is L).0;
    leads = λ bs L. record { plan = L.plan; long = L.long; held = L.held; is = (next_is L).1 };
  }

-- ── a caller's loop: after i calls of `next` the blocks from place i on are ahead ──

pub finding : {os : List ℕ} {s : Slices} {f : Found} {at r : Spot} (bs : List Block) (i : ℕ) → Leads os s f at (drop i bs) → NextPromise os s f at r
    → (r.block ≡ get_or bs i no_block) × Leads os s f r (drop (i + 1) bs)
finding bs i L N =
    let z : i + 0 ≡ i = omega arith in
    (N.block (drop i bs) L ∙ get_or-drop i bs 0 no_block ∙ ap (λ (k : ℕ). get_or bs k no_block) z, rw (← drop-drop 1 i bs) (N.leads (drop i bs) L))

-- what the functions of the search are proved by
pub ruleset searching = (rules, counted_none, counted_all, few_starts, few_in, length-take-le, searched_closed, searched_cyclic, searched_calm, moved_closed, moved_on_lem)
