-- The times that are set: stopped, gone on, all anew, mended; and the report of a put. Assumes nothing.
use Rattle.std.proofs.Common.{◌≡◌, ℕ, ◌+◌, ◌-◌, ◌<◌, ◌≤◌, max, Bool, true, false, not, ◌⊎◌, List, [], ◌∷◌, ◌++◌, map, length, get_or, take, drop, set, replicate, sym, refl, ap, ◌∙◌, inl, inr, append-nil, arith, length-append, length-drop, drop_of_length-le, length-take-le, take_all, take_at, drop_at, w32, Fits, rules, le-ltb}
use lib.ListN.{length-replicate, get_or-replicate, get_or-eq_default}
use Rattle.std.proofs.lemmas.List.{nil_from_length}
use Rattle.rules.specs.declared.Report.{Report}
use Rattle.rules.specs.declared.Report.TheVariants.{Skipped, Full, CycleFound, Incremental}
use Rattle.rules.specs.Lists.{memb, is_empty, table}
use Rattle.rules.specs.Sizes.{most_jobs, times_length}
use Rattle.rules.specs.Routes.{Plan, put_plan, own_stage}
use Rattle.rules.specs.Scores.{is_cyclic}
use Rattle.rules.specs.Reports.{head_of, push, seeds, put_report}
use Rattle.rules.proofs.Ranges.{lt_or_le, clash, greatest_more}
use Rattle.rules.proofs.Tabled.{table_at, table_length, table_past}
use Rattle.rules.proofs.Steps.{push_new}
use Rattle.edges.specs.Plans.{edges_of}
use Rattle.graphs.specs.Graph.{zeros}
use Rattle.graphs.proofs.Kahn.{memb_self}
use Rattle.starts.specs.Backs.{Judges}
use Rattle.starts.specs.Pulls.{Full as Fully}
use Rattle.starts.specs.Walks.{Walks}
use Rattle.starts.proofs.Walking.{tri_few}
use Rattle.times.specs.Words.{span_words, time_words, start_of, starts_in, cyclic_in, cyclic_place, makespan_place, starts_place}
use Rattle.times.specs.Settles.{end_of, latest_of, Given, Renews, Putting, Mends, Refreshes}
use Rattle.times.proofs.Graphing.{below, spans_short}
use Rattle.times.proofs.Timing.{looped_words, calm_words, cyclic_read, starts_read}
use Rattle.times.proofs.Judging.{judged, starts_are}
use Rattle.times.proofs.Mending.{after, skipped_words, verdict, walked_visits, walked_starts}

-- ── the latest end ──

pub latest_none : (sp st : List ℕ) → 0 ≡ latest_of sp st 0
unfolding latest_of
latest_none sp st = refl

pub latest_more : (sp st : List ℕ) (i : ℕ) {b x c : ℕ} → c ≡ max b x → x ≡ end_of sp st i → b ≡ latest_of sp st i → c ≡ latest_of sp st (i + 1)
unfolding latest_of
latest_more sp st i {b} {x} {c} q e p = greatest_more i (end_of sp st) p (q ∙ ap (max b) e)

pub latest_all : (sp st : List ℕ) {i n x : ℕ} → i ≤ n → n ≤ i → x ≡ latest_of sp st i → x ≡ latest_of sp st n
latest_all sp st {i} {n} a b e = let q : i ≡ n = omega arith in rw q at e

-- ── words ──

-- the starts are all that follows the first two words
starts_all : (ts : List ℕ) → length ts ≡ times_length → starts_in ts ≡ drop starts_place ts
starts_all ts h = let a = length-drop starts_place ts in take_all most_jobs (drop starts_place ts) (omega arith)

two_set : (a b : ℕ) (ts : List ℕ) → starts_place ≤ length ts → set (set ts cyclic_place a) makespan_place b ≡ a ∷ b ∷ drop starts_place ts
two_set a b [] h = let f : ⊥ = omega arith in absurd f
two_set a b (x ∷ []) h = let f : ⊥ = omega arith in absurd f
two_set a b (x ∷ y ∷ l) h = refl

pub go_is : (sp ts : List ℕ) (n : ℕ) {top : ℕ} → top ≡ latest_of sp (starts_in ts) n → length ts ≡ times_length
    → set (set ts cyclic_place 0) makespan_place top ≡ 0 ∷ latest_of sp (starts_in ts) n ∷ starts_in ts
go_is sp ts n {top} e h = two_set 0 top ts (omega arith) ∙ rw (e, starts_all ts h)

-- the slice after the starts were lent
abbrev lent : List ℕ → List ℕ → List ℕ
lent ts st = take starts_place ts ++ (st ++ drop most_jobs (drop starts_place ts))

starts_back : (ts st : List ℕ) → length ts ≡ times_length → length st ≡ length (starts_in ts) → starts_in (lent ts st) ≡ st
starts_back ts st h k =
    let a = length-drop starts_place ts in
    let b : length (starts_in ts) ≡ length (drop starts_place ts) = ap length (starts_all ts h) in
    ap (take most_jobs) (drop_at (take starts_place ts) (st ++ drop most_jobs (drop starts_place ts)) starts_place (length-take-le starts_place ts (omega arith)))
    ∙ take_at st (drop most_jobs (drop starts_place ts)) most_jobs (omega arith)

-- ── all anew ──

zero_at : (m v : ℕ) → get_or {A = ℕ} (replicate m 0) v 0 ≡ 0
zero_at m v = go (lt_or_le v m)
  where
    go : (v < m) ⊎ (m ≤ v) → get_or {A = ℕ} (replicate m 0) v 0 ≡ 0
    go (inl h) = get_or-replicate m v 0 0 h
    go (inr h) = get_or-eq_default (replicate m 0) 0 (let l = length-replicate {A = ℕ} m 0 in omega arith)

module _ {e sp st : List ℕ} {n : ℕ} {r : Bool} {st' : List ℕ} (F : Fully e sp zeros st n r st') where
  module _ (p : Plan) (G : Given p e sp n) where
    fully : Fully e (span_words p.base) zeros st p.base.jobs r st'
    fully = rw (G.spans, G.jobs) at F

    seen : is_cyclic p ≡ not r
    seen = judged p G.sound r (fully.verdict (edges_of p) G.edges (below p G.sound))

  pub renews_none : {ts' : List ℕ} → ts' ≡ 1 ∷ 0 ∷ replicate most_jobs 0 → r ≡ false → Renews e sp n Full ts'
  renews_none w q = record { is = λ p G. record { report = refl; times = w ∙ sym (looped_words p (rw q at (seen p G))) } }

  renews_calm : {ts' : List ℕ} → ts' ≡ 0 ∷ latest_of sp st' n ∷ st' → r ≡ true → length st' ≡ most_jobs → st ≡ replicate most_jobs 0
      → Renews e sp n Full ts'
  renews_calm {ts'} w q len z = record {
    is = λ p G.
        let w' : ts' ≡ 0 ∷ latest_of (span_words p.base) st' p.base.jobs ∷ st' = rw (G.spans, G.jobs) at w in
        let X = fully p G in
        record {
          report = refl;
          times = w' ∙ calm_words p G.sound (rw q at (seen p G)) st st' len
              (λ v h. X.starts q (edges_of p) G.edges (below p G.sound) (spans_short p G.sound) v h ∙ starts_are p G.sound v)
              X.beyond (λ v h. rw z (zero_at most_jobs v));
        };
  }

pub renews_all : {e sp : List ℕ} (ts : List ℕ) {n : ℕ} {r : Bool} {st st' ts' : List ℕ} → Fully e sp zeros st n r st'
    → ts' ≡ 0 ∷ latest_of sp (starts_in (lent ts st')) n ∷ starts_in (lent ts st') → r ≡ true → st ≡ replicate (length (starts_in ts)) 0
    → length ts ≡ times_length → length st' ≡ length st → Renews e sp n Full ts'
renews_all ts {st} {st'} F w q f h k =
    let a = length-drop starts_place ts in
    let i : length (starts_in ts) ≡ most_jobs = ap length (starts_all ts h) ∙ omega arith in
    let z : st ≡ replicate most_jobs 0 = rw i at f in
    let j : length st' ≡ most_jobs = k ∙ ap length z ∙ length-replicate {A = ℕ} most_jobs 0 in
    renews_calm F (rw (starts_back ts st' h (j ∙ sym i)) at w) q j z

-- ── mended ──

-- no job, no start
past_jobs : (p : Plan) (v : ℕ) → p.base.jobs ≤ v → get_or (table most_jobs (start_of p)) v 0 ≡ 0
past_jobs p v h = go (lt_or_le v most_jobs)
  where
    go : (v < most_jobs) ⊎ (most_jobs ≤ v) → get_or (table most_jobs (start_of p)) v 0 ≡ 0
    go (inl k) = table_at most_jobs (start_of p) 0 v k ∙ rw (le-ltb v p.base.jobs h)
    go (inr k) = table_past most_jobs (start_of p) 0 v k

-- so few visits are a number of 32 bits
pub visits_fit : {e sp : List ℕ} {f : ℕ → ℕ} {st vs : List ℕ} {n k : ℕ} {st' : List ℕ} → Walks e sp f st vs n k st' → n ≤ most_jobs → Fits w32 k
visits_fit {n} W h = record { fits = let a = W.few in let b = tri_few n h in omega arith }

pub mends_walked : {e sp : List ℕ} (ts : List ℕ) {vs : List ℕ} {n k : ℕ} {st' ts' : List ℕ} → Walks e sp zeros (starts_in ts) vs n k st'
    → ts' ≡ 0 ∷ latest_of sp (starts_in (lent ts st')) n ∷ starts_in (lent ts st') → length ts ≡ times_length
    → length st' ≡ length (starts_in ts) → Mends e sp ts vs n (Incremental k) ts'
unfolding put_report put_plan
mends_walked {e} {sp} ts {vs} {n} {k} {st'} {ts'} W w h len = record {
  is = λ p o l P t q ne calm calm'.
      let s : starts_in ts ≡ table most_jobs (start_of p) = ap starts_in t ∙ starts_read p in
      let W' : Walks e sp zeros (table most_jobs (start_of p)) vs n k st' = rw s at W in
      let w' : ts' ≡ 0 ∷ latest_of (span_words p.base) st' p.base.jobs ∷ st' = rw (starts_back ts st' h len, P.spans, P.jobs) at w in
      record {
        report = rw (ne, calm, calm') (ap Incremental (walked_visits P calm calm' W' q));
        times = w' ∙ calm_words (put_plan p o l) (after P).sound calm' (table most_jobs (start_of p)) st'
            (len ∙ ap length s ∙ table_length most_jobs (start_of p)) (walked_starts P calm calm' W' q) (rw P.jobs at W'.beyond) (past_jobs p);
      };
}

-- ── the put ──

in_some : (v : ℕ) (q : List ℕ) → memb v q ≡ true → is_empty q ≡ false
in_some v [] e = clash e refl
in_some v (a ∷ q) e = refl

pushed_some : (l : List ℕ) → 0 < length l → is_empty (push [] l) ≡ false
pushed_some [] h = let f : ⊥ = omega arith in absurd f
pushed_some (v ∷ l) h = in_some v (push [] (v ∷ l)) (push_new v [] (v ∷ l) (memb_self v l))

pub read_cyclic : {ts : List ℕ} {z b : Bool} → z ≡ cyclic_in ts → z ≡ b → (p : Plan) → ts ≡ time_words p → is_cyclic p ≡ b
read_cyclic y x p t = sym (cyclic_read p) ∙ ap cyclic_in (sym t) ∙ sym y ∙ x

some_heads : (a b d : List ℕ) → (length a + length b + length d ≡ 0 → ⊥) → {q : List ℕ} → push [] (a ++ (b ++ d)) ≡ q → is_empty q ≡ false
some_heads a b d h e = ap is_empty (sym e) ∙ pushed_some (a ++ (b ++ d)) (simp length-append (positive (length a + length b + length d) h))
  where
    positive : (x : ℕ) → (x ≡ 0 → ⊥) → 0 < length a + (length b + length d)
    positive x f = omega arith

module _ {e sp ts : List ℕ} {n : ℕ} (a b d : List ℕ) where
  pub refreshes_none : length a + length b + length d ≡ 0 → Refreshes e sp ts (a ++ (b ++ d)) a n Skipped ts
  unfolding put_report
  refreshes_none h = record {
    is = λ p o l P t q k.
        let z : is_empty (seeds p o l) ≡ true = ap is_empty (sym q ∙ ap (push []) none) in
        record { report = rw z; times = t ∙ sym (skipped_words P z) };
  }
    where
      none : a ++ (b ++ d) ≡ []
      none = rw (nil_from_length a (omega arith), nil_from_length b (omega arith), nil_from_length d (omega arith))

  module _ (h : length a + length b + length d ≡ 0 → ⊥) where
    pub refreshes_anew : {z : Bool} {r : Report} {ts' : List ℕ} → Renews e sp n r ts' → z ≡ cyclic_in ts → z ≡ true
        → Refreshes e sp ts (a ++ (b ++ d)) a n r ts'
    unfolding put_report
    refreshes_anew R y x = record {
      is = λ p o l P t q k.
          let X = R.is (put_plan p o l) (after P) in
          record { report = X.report ∙ rw (some_heads a b d h q, read_cyclic y x p t); times = X.times };
    }

    module _ {st : List ℕ} {z s : Bool} (X : Judges e st a n s) (i : st ≡ starts_in ts) (y : z ≡ cyclic_in ts) (x : z ≡ false) where
      told : (p : Plan) (o : ℕ) (l : List ℕ) (P : Putting p o l e sp n) → ts ≡ time_words p
          → push [] a ≡ push [] (map head_of (own_stage p o l).came) → is_cyclic (put_plan p o l) ≡ not s
      told p o l P t k =
          let X' : Judges e (table most_jobs (start_of p)) a n s = rw (i ∙ ap starts_in t ∙ starts_read p) at X in
          verdict P (read_cyclic y x p t) a k X'

      pub refreshes_found : {ts' : List ℕ} → ts' ≡ 1 ∷ 0 ∷ replicate most_jobs 0 → s ≡ false → Refreshes e sp ts (a ++ (b ++ d)) a n CycleFound ts'
      unfolding put_report
      refreshes_found u f = record {
        is = λ p o l P t q k.
            let j : is_cyclic (put_plan p o l) ≡ true = rw f at (told p o l P t k) in
            record { report = rw (some_heads a b d h q, read_cyclic y x p t, j); times = u ∙ sym (looped_words (put_plan p o l) j) };
      }

      pub refreshes_walked : {r : Report} {ts' : List ℕ} → Mends e sp ts (a ++ (b ++ d)) n r ts' → s ≡ true → Refreshes e sp ts (a ++ (b ++ d)) a n r ts'
      refreshes_walked M f = record {
        is = λ p o l P t q k. M.is p o l P t q (some_heads a b d h q) (read_cyclic y x p t) (rw f at (told p o l P t k));
      }

pub starts_long : (ts : List ℕ) {r : List ℕ} {n : ℕ} → r ≡ starts_in ts → length ts ≡ times_length → n ≤ most_jobs → n ≤ length r
starts_long ts e h k = rw (e, starts_all ts h) (let a = length-drop starts_place ts in omega arith)

-- what the functions of settle.rt are proved by
pub ruleset settling = (rules, length-take-le, starts_long, visits_fit, latest_none, latest_more, latest_all, go_is, renews_none, renews_all, mends_walked, refreshes_none, refreshes_anew, refreshes_found, refreshes_walked)
