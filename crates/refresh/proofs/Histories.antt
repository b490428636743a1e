-- Demand 3: what holds after any history of calls. `history` at the end is the theorem; all above it shows that one call keeps what the
-- store stands for. Assumes nothing.
use Prim.Native.Nat.{ℕ, ◌≤◌}
use native.Mathlib.Omega.{arith}
use mathlib.Core.Path.{◌≡◌, refl, sym, ap, subst, ◌∙◌}
use mathlib.Core.Bool.{false}
use mathlib.Core.Option.{Option, none, some}
use mathlib.Core.List.{List, [], ◌∷◌, ◌++◌}
use lib.ListN.{length, get_or, set, take, drop, take-append-drop, length-take, length-append}
use lib.Seq.{take-length, take-take, take-append-le, get_or-take}
use borrow.Author.Tests.{le-ltb}
use Rattle.rules.specs.declared.Refusal.{Refusal}
use Rattle.rules.specs.declared.Refusal.TheVariants.{ShortStore, BadStore}
use Rattle.rules.specs.Sizes.{Lent, Loading, is_short, base_length, edges_length, routes_length, spans_length, times_length}
use Rattle.rules.specs.Routes.{Plan, State}
use Rattle.rules.specs.Scores.{is_cyclic}
use Rattle.rules.specs.Shown.{shown_cycle, shown_line_up}
use Rattle.rules.specs.Calls.{Ask, Call, Reply, refused, to_load, to_reset, to_retract, to_put, to_score, to_verdict}
use Rattle.rules.specs.Calls.{to_starts, to_blocks, to_move, checks_of, refusal, accepted, step, reply, run, verdict_of}
use Rattle.rules.proofs.Ranges.{Test, pass, fail, test}
use Rattle.rules.proofs.Refused.{refused_stays, accepted_step, never_twelve}
use Rattle.rules.proofs.History.{Soundly, passed, step_sound}
use Rattle.rules.proofs.Plans.{no_shown_line_up}
use Rattle.rules.specs.Demands.{Standing}
use Rattle.rules.proofs.Demands.{history_stands}
use Rattle.edges.specs.Edges.{encode as edge_words}
use Rattle.routes.specs.Store.{encode as route_words}
use Rattle.routes.specs.Desks.{edges_of, routes_of}
use Rattle.times.specs.Words.{span_words, time_words}
use Rattle.stores.specs.Words.{base_words}
use Rattle.routes.proofs.Wellformed.{has_words}
use Rattle.stores.specs.Promise.{Slices, lent_of, call_of, Stands, StandsFor, holding, unmarked, leaving, after, Decided}
use Rattle.refresh.specs.History.{lent, back, Kept, Made, done, call, replies, Begins, zeroed, loaded, reset, Shows, a_cycle, a_line_up, Never, Answered}
use Rattle.stores.proofs.Openings.{long}
use Rattle.refresh.proofs.Lengths.{base_long, spans_long, times_long}
use Rattle.edges.proofs.Store.{encode_long as edges_long}
use Rattle.routes.proofs.Placing.{encode_long as routes_long}

-- ── the part of a slice that is lent ──

-- so many first words x, then what was lent behind them, then the rest
given_back : (n k : ℕ) (x l : List ℕ) → length x ≡ n → take n ((x ++ drop n (take k l)) ++ drop k l) ≡ x
given_back n k x l e =
    take-append-le n (x ++ drop n (take k l)) (drop k l) (let y = length-append x (drop n (take k l)) in omega arith)
    ∙ take-append-le n x (drop n (take k l)) (omega arith)
    ∙ ap (λ (i : ℕ). take i x) (sym e)
    ∙ take-length x

part_long : (n k : ℕ) (l : List ℕ) → n ≤ length (take k l) → (n ≤ k) × (n ≤ length l)
part_long n k l h = let e = simp length-take at h in (omega arith, omega arith)

marked_off : (x y : List ℕ) → 1 ≤ length x → get_or (set x 0 0 ++ y) 0 0 ≡ 0
marked_off [] y h = absurd (omega arith)
marked_off (a ∷ x) y h = refl

module _ (k : Lent) (s : Slices) where
  -- a store of which enough is lent is long enough, and so is what is lent
  record Enough : Type 0 where
    base : (base_length ≤ k.base) × (base_length ≤ length s.base)
    spans : (spans_length ≤ k.spans) × (spans_length ≤ length s.spans)
    edges : (edges_length ≤ k.edges) × (edges_length ≤ length s.edges)
    routes : (routes_length ≤ k.routes) × (routes_length ≤ length s.routes)
    times : (times_length ≤ k.times) × (times_length ≤ length s.times)

  enough : is_short (lent_of (lent k s)) ≡ false → Enough
  enough e = let L = long (lent_of (lent k s)) e in record {
    base = part_long base_length k.base s.base L.base;
    spans = part_long 512 k.spans s.spans L.spans;
    edges = part_long edges_length k.edges s.edges L.edges;
    routes = part_long routes_length k.routes s.routes L.routes;
    times = part_long times_length k.times s.times L.times;
  }

  not_short : Enough → is_short (lent_of s) ≡ false
  not_short E = rw (
    le-ltb (length s.base) base_length E.base.1,
    le-ltb (length s.spans) 512 E.spans.1,
    le-ltb (length s.edges) edges_length E.edges.1,
    le-ltb (length s.routes) routes_length E.routes.1,
    le-ltb (length s.times) times_length E.times.1,
  )

  -- what is lent stands for what the store stands for
  lent_as : (t : State) → Enough → Stands s t → Stands (lent k s) t
  lent_as none E S = get_or-take k.base s.base 0 0 (let x = E.base.0 in omega arith) ∙ S
  lent_as (some p) E H = record {
    base = take-take base_length k.base s.base E.base.0 ∙ H.base;
    spans = take-take 512 k.spans s.spans E.spans.0 ∙ H.spans;
    desk = rw (take-take routes_length k.routes s.routes E.routes.0, take-take edges_length k.edges s.edges E.edges.0) H.desk;
    times = take-take times_length k.times s.times E.times.0 ∙ H.times;
  }

  lent_stands : (t : State) → StandsFor s t → StandsFor (lent k s) t
  lent_stands t f e = lent_as t (enough e) (f (not_short (enough e)))

  -- what an accepted call leaves stands for the plan that it leaves
  left_stands : (u : State) → Soundly u → Enough → Stands (back k s (leaving u (lent k s))) u
  unfolding holding unmarked
  left_stands none S E = marked_off (take k.base s.base) (drop k.base s.base) (simp length-take (let x = E.base in omega arith))
  left_stands (some q) S E = let D = has_words q S in record {
    base = given_back base_length k.base (base_words q.base) s.base (base_long q.base S.loaded);
    spans = given_back 512 k.spans (span_words q.base) s.spans (spans_long q.base);
    desk = rw (
      given_back routes_length k.routes (route_words (routes_of q)) s.routes (routes_long (routes_of q) D.routes.wf),
      given_back edges_length k.edges (edge_words (edges_of q)) s.edges (edges_long (edges_of q) D.edges.wf),
    ) D;
    times = given_back times_length k.times (time_words q) s.times (times_long q);
  }

-- ── one call ──

pub stands_sound : (s : Slices) (t : State) → Stands s t → Soundly t
stands_sound s none S = tt
stands_sound s (some p) H = H.desk.sound

-- reply and store are the rules'
record Told (t : State) (a : Ask) (s s' : Slices) (r : Reply) : Type 0 where
  says : r ≡ reply t (call_of a s)
  leaves : s' ≡ after t (call_of a s) s

told : {t : State} {a : Ask} {s s' : Slices} {out out' : List ℕ} {r : Reply} → Decided t a s s' out out' r → Told t a s s' r
told d = record { says = d.says; leaves = d.leaves }

kept_told : (a : Ask) (out out' : List ℕ) {s s' : Slices} {r : Reply} (t : State) → StandsFor s t → Kept a s s' out out' r
    → Told t a s s' r
kept_told (to_load l) out out' t f K = told (K.decides t)
kept_told to_reset out out' t f K = told (K.decides t)
kept_told (to_retract o) out out' t f K = told (K.decides t f)
kept_told (to_put o l) out out' t f K = told (K.decides t f)
kept_told to_score out out' t f K = told (K.decides t f)
kept_told (to_verdict k) out out' t f K = told (K.decides t f)
kept_told (to_starts k) out out' t f K = told (K.decides t f)
kept_told (to_blocks os k) out out' t f K = told (K.decides t f)
kept_told (to_move o m k) out out' t f K = told (K.decides t f)

module _ (t : State) (k : Lent) (a : Ask) (s l' : Slices) (w : l' ≡ after t (call_of a (lent k s)) (lent k s)) where
  abbrev c : Call
  c = call_of a (lent k s)

  given_long : refusal t c ≡ none → is_short (lent_of (lent k s)) ≡ false
  unfolding refusal
  given_long e = (passed ((ShortStore, is_short (lent_of (lent k s))) ∷ checks_of t a) e).0

  accepted_stands : refusal t c ≡ none → Soundly t → StandsFor (back k s l') (step t c).state
  unfolding after
  accepted_stands e S x =
      let y : l' ≡ leaving (step t c).state (lent k s) = w ∙ rw e in
      rw y (left_stands k s (step t c).state (step_sound t c S) (enough k s (given_long e)))

  whole : back k s (lent k s) ≡ s
  whole = rw (
    take-append-drop k.base s.base,
    take-append-drop k.spans s.spans,
    take-append-drop k.edges s.edges,
    take-append-drop k.routes s.routes,
    take-append-drop k.times s.times,
  )

  refused_stands : (r : Refusal) → refusal t c ≡ some r → StandsFor s t → StandsFor (back k s l') (step t c).state
  unfolding after
  refused_stands r e f =
      let y : l' ≡ lent k s = w ∙ rw e in
      let same : s ≡ back k s l' = sym (ap (back k s) y ∙ whole) in
      subst (λ (x : Slices). StandsFor x (step t c).state) same
      (subst (λ (u : State). StandsFor s u) (sym (refused_stays t c r e).0) f)

  call_stands : StandsFor s t → StandsFor (back k s l') (step t c).state
  call_stands f = go (refusal t c) refl
    where
      go : (o : Option Refusal) → refusal t c ≡ o → StandsFor (back k s l') (step t c).state
      go none e = accepted_stands e (stands_sound s t (f (not_short k s (enough k s (given_long e)))))
      go (some r) e = refused_stands r e f

-- ── calls in any order and number ──

made_stands : {s s'' : Slices} {cs : List Call} {rs : List Reply} (t : State) → StandsFor s t → Made s cs rs s''
    → (rs ≡ replies t cs) × StandsFor s'' (run t cs)
made_stands t f done = (refl, f)
made_stands {s} t f (call k a l' out out' K M) =
    let T = kept_told a out out' t (lent_stands k s t f) K in
    let (q, g) = made_stands (step t (call_of a (lent k s))).state (call_stands t k a s l' T.leaves f) M in
    (rw (T.says, q), g)

-- a first call that is accepted whatever the store held
afresh : {s'' : Slices} {cs : List Call} {rs : List Reply} {r : Reply} (k : Lent) (a : Ask) (s l' : Slices) → Told none a (lent k s) l' r
    → refusal none (call_of a (lent k s)) ≡ none → Made (back k s l') cs rs s''
    → ((r ∷ rs) ≡ replies none (call_of a (lent k s) ∷ cs)) × StandsFor s'' (run none (call_of a (lent k s) ∷ cs))
afresh k a s l' T e M =
    let (q, g) = made_stands (step none (call_of a (lent k s))).state (accepted_stands none k a s l' T.leaves e tt) M in
    (rw (T.says, q), g)

load_told : {l : Loading} (a : Ask) (out out' : List ℕ) {s s' : Slices} {r : Reply} → a ≡ to_load l → Kept a s s' out out' r
    → Told none a s s' r
load_told a out out' {s} {s'} {r} q = subst (λ (x : Ask). Kept x s s' out out' r → Told none x s s' r) (sym q) (λ K. told (K.decides none))

reset_told : (a : Ask) (out out' : List ℕ) {s s' : Slices} {r : Reply} → a ≡ to_reset → Kept a s s' out out' r → Told none a s s' r
reset_told a out out' {s} {s'} {r} q = subst (λ (x : Ask). Kept x s s' out out' r → Told none x s s' r) (sym q) (λ K. told (K.decides none))

begun_stands : {s s'' : Slices} {cs : List Call} {rs : List Reply} → Begins s cs → Made s cs rs s''
    → (rs ≡ replies none cs) × StandsFor s'' (run none cs)
begun_stands (zeroed Z) M = made_stands none (λ e. Z.base 0) M
begun_stands {s} (loaded q e) (call k a l' out out' K M) = afresh k a s l' (load_told a out out' q K) e M
begun_stands {s} (reset q e) (call k a l' out out' K M) = afresh k a s l' (reset_told a out out' q K) e M

-- ── 12 is never given ──

abbrev Twelve : Reply → Type 0
Twelve r = r ≡ refused BadStore

unlike : ◌≡◌ {A = ℕ} 0 1 → ⊥
unlike e = omega arith

verdict_known : (x y : Option (List ℕ)) → Twelve (verdict_of x y) → ⊥
verdict_known (some l) y e = unlike cc
verdict_known none (some l) e = unlike cc
verdict_known none none e = unlike cc

accepted_known : (t : State) (a : Ask) → Twelve (accepted t a).reply → ⊥
unfolding accepted
accepted_known t (to_load l) e = unlike cc
accepted_known t to_reset e = unlike cc
accepted_known none (to_retract o) e = unlike cc
accepted_known none (to_put o l) e = unlike cc
accepted_known none to_score e = unlike cc
accepted_known none (to_verdict k) e = unlike cc
accepted_known none (to_starts k) e = unlike cc
accepted_known none (to_blocks os k) e = unlike cc
accepted_known none (to_move o m k) e = unlike cc
accepted_known (some p) (to_retract o) e = unlike cc
accepted_known (some p) (to_put o l) e = unlike cc
accepted_known (some p) to_score e = unlike cc
accepted_known (some p) (to_verdict k) e = verdict_known (shown_line_up p) (shown_cycle p) e
accepted_known (some p) (to_starts k) e = unlike cc
accepted_known (some p) (to_blocks os k) e = unlike cc
accepted_known (some p) (to_move o m k) e = unlike cc

never : (t : State) (c : Call) → Twelve (reply t c) → ⊥
never t c e = go (refusal t c) refl
  where
    go : (o : Option Refusal) → refusal t c ≡ o → ⊥
    go none q = accepted_known t c.asks (sym (ap (λ x. x.reply) (accepted_step t c q)) ∙ e)
    go (some r) q =
        let z = sym (refused_stays t c r q).1 ∙ e in
        let y : r ≡ BadStore = cc in
        never_twelve t c (q ∙ ap some y)

all_never : (t : State) (cs : List Call) → Never (replies t cs)
all_never t [] = tt
all_never t (c ∷ cs) = (never t c, all_never (step t c).state cs)

-- ── what is shown ──

-- the verdict on a plan that calls left is a cycle or a line_up, as the rules want them
pub shows : (p : Plan) → Standing p → Shows p (verdict_of (shown_line_up p) (shown_cycle p))
shows p S = go (test (is_cyclic p))
  where
    go : Test (is_cyclic p) → Shows p (verdict_of (shown_line_up p) (shown_cycle p))
    go (pass e) = let L = S.looped e in rw (no_shown_line_up p e, L.shown) (a_cycle e L.lowest)
    go (fail e) = let C = S.calm e in rw C.shown (a_line_up e C.lowest)

-- ── the theorem ──

pub history : {s s'' : Slices} {cs : List Call} {rs : List Reply} → Begins s cs → Made s cs rs s'' → Answered cs rs s''
history {cs = cs} B M =
    let (q, g) = begun_stands B M in
    record {
      replied = q;
      known = rw q (all_never none cs);
      stands = g;
      plan = λ p e. let S = history_stands cs p e in (S, shows p S);
    }
