-- What `show` prints is what the calls behind it reply. Assumes nothing.
use Prim.Native.Nat.{ℕ, ◌≤◌, ◌<◌, min, ◌+◌, ◌*◌}
use native.Mathlib.Omega.{arith}
use native.Mathlib.Nat.{not-suc-le-zero}
use mathlib.Core.Path.{◌≡◌, refl, sym, ap, subst, ◌∙◌}
use mathlib.Core.Bool.{Bool, true}
use mathlib.Core.Option.{Option, none, some}
use mathlib.Core.List.{List, ◌∷◌}
use borrow.Author.Tests.{ltb-false}
use borrow.Author.Rules.{rules}
use lib.ListN.{length, take, length-take}
use lib.Seq.{length-sets}
use Rattle.rules.specs.declared.Refusal.{Refusal}
use Rattle.rules.specs.declared.Refusal.TheVariants.{ShortStore}
use Rattle.rules.specs.declared.Score.{Score}
use Rattle.rules.specs.Lists.{less}
use Rattle.rules.specs.Sizes.{most_jobs, is_short}
use Rattle.rules.specs.Routes.{Plan, State, live}
use Rattle.rules.specs.Graphs.{LowestCycle, Trail, end, go}
use Rattle.rules.specs.Scores.{is_cyclic, reported_start}
use Rattle.rules.specs.Shown.{shown_line_up, shown_cycle}
use Rattle.rules.specs.Calls.{Ask, Reply, refused, lined_up, cycled, started, to_verdict, to_starts, checks_of, verdict_of, refusal, accepted, reply, to_score}
use Rattle.rules.proofs.Ranges.{Test, pass, fail, test, clash, count_all_lem, count_less, less_other}
use Rattle.rules.proofs.Members.{once_count}
use Rattle.rules.proofs.Tabled.{table_length}
use Rattle.rules.proofs.Orders.{lineup_length}
use Rattle.rules.proofs.Cycles.{simple}
use Rattle.rules.proofs.Plans.{shown_line_up_lem, shown_cycle_lem, no_shown_line_up}
use Rattle.rules.proofs.Refused.{refused_stays, accepted_step}
use Rattle.rules.proofs.History.{Passed, passed}
use Rattle.text.specs.Writes.{Fills}
use Rattle.text.specs.Answers.{Told, line_of, starts_word, order_word, cycle_word, score_word, score_line, no_line, line_length, score_length}
use Rattle.text.proofs.Pieces.{wrote_behind, told_is}
use Rattle.std.specs.Prelude.{Result, Ok, Err}
use Rattle.stores.specs.Promise.{Slices, lent_of, call_of, StandsFor, answer_of, Promise, Reads}
use Rattle.stores.specs.Says.{places, says_started, says_counted}
use Rattle.stores.proofs.Tabled.{places_take, places_length}
use Rattle.refresh.specs.declared.verdict.Judged.{Judged}
use Rattle.refresh.specs.declared.verdict.Judged.TheVariants.{LineUp, Cycle}
use Rattle.refresh.specs.Shows.{says_verdict}
use Rattle.lines.specs.Sizes.{long_line, longest_answer}
use Rattle.lines.specs.Answers.{whole_show, Answers}
use Rattle.lines.specs.Parts.{ShowsStarts, ShowsVerdict}

-- ── what a plan shows has at most as many entries as there are jobs ──

-- a shortest cycle meets no job twice
cycle_short : (n : ℕ) (E : ℕ → ℕ → Bool) {l : List ℕ} → LowestCycle n E l → length l ≤ n
cycle_short n E {l} L = round L.is.some L.is.closed
  where
    v : ℕ
    v = L.job

    round : {m : List ℕ} → 0 < length m → Trail n E v m v → length l ≤ n
    round z (end q) = absurd (not-suc-le-zero z)
    round z (go h e t) =
        let S = simple n E h t in
        let a = L.shortest (v ∷ S.list) (record { inside = L.is.inside; some = omega arith; closed = go h e S.is }) in
        let b = once_count n S.list (less (λ x. true) v) S.once
        (λ x y. (S.within x y, less_other (λ x. true) v x (λ q. clash y (rw q S.free)))) in
        let c = count_less n (λ x. true) v L.is.inside refl in
        let d = count_all_lem n in
        omega arith

shown_few : (p : Plan) → length (answer_of (verdict_of (shown_line_up p) (shown_cycle p))) ≤ p.base.jobs
shown_few p = by (test (is_cyclic p))
  where
    by : Test (is_cyclic p) → length (answer_of (verdict_of (shown_line_up p) (shown_cycle p))) ≤ p.base.jobs
    by (pass e) = let (l, q, L) = shown_cycle_lem p e in rw (no_shown_line_up p e, q) (cycle_short p.base.jobs (live p) L)
    by (fail e) =
        let (l, q, L) = shown_line_up_lem p e in
        let a = lineup_length p.base.jobs (live p) l L.is in
        rw q (omega arith)

-- ── a reply ──

module _ (t : State) (s : Slices) where
  -- a refusal, or what an accepted call answers, of which every check was passed
  pub replied : (a : Ask) (P : Reply → Type 0) → ((r : Refusal) → P (refused r)) → (Passed (checks_of t a) → P (accepted t a).reply)
      → P (reply t (call_of a s))
  unfolding refusal
  replied a P f g = by (refusal t (call_of a s)) refl
    where
      by : (o : Option Refusal) → refusal t (call_of a s) ≡ o → P (reply t (call_of a s))
      by none e =
          subst P (sym (ap (λ x. x.reply) (accepted_step t (call_of a s) e)))
          (g (passed ((ShortStore, is_short (lent_of s)) ∷ checks_of t a) e).1)
      by (some r) e = subst P (sym (refused_stays t (call_of a s) r e).1) (f r)

  verdict_few : (n : ℕ) → length (answer_of (reply t (call_of (to_verdict n) s))) ≤ n
  unfolding accepted
  verdict_few n = replied (to_verdict n) (λ r. length (answer_of r) ≤ n) (λ r. omega arith) (by t)
    where
      by : (u : State) → Passed (checks_of u (to_verdict n)) → length (answer_of (accepted u (to_verdict n)).reply) ≤ n
      by none h = omega arith
      by (some p) (h, x) = let a = ltb-false n p.base.jobs h in let b = shown_few p in omega arith

  starts_few : (n : ℕ) → length (answer_of (reply t (call_of (to_starts n) s))) ≤ n
  unfolding accepted
  starts_few n = replied (to_starts n) (λ r. length (answer_of r) ≤ n) (λ r. omega arith) (by t)
    where
      by : (u : State) → Passed (checks_of u (to_starts n)) → length (answer_of (accepted u (to_starts n)).reply) ≤ n
      by none h = omega arith
      by (some p) (h, x) =
          let a = ltb-false n p.base.jobs h in
          let b = table_length p.base.jobs (reported_start p) in
          omega arith

-- ── what stands in front of an answer buffer ──

-- so many places of a buffer with room for n are the first of it
front : (k n : ℕ) (l : List ℕ) → length l ≡ n → length (places k l) ≤ n → places k l ≡ take (min k n) l
front k n l e h =
    let a = places_length k l in
    let m : min k n ≡ k = omega arith in
    places_take k l (omega arith) ∙ rw m

-- what the calls answer, told by what stands in front of their buffers
abbrev pub verdict_in : List ℕ → Result Judged Refusal → Reply
verdict_in l (Ok (LineUp k)) = lined_up (take (min k most_jobs) l)
verdict_in l (Ok (Cycle k)) = cycled (take (min k most_jobs) l)
verdict_in l (Err r) = refused r

abbrev pub starts_in : List ℕ → Result ℕ Refusal → Reply
starts_in l (Ok k) = started (take (min k most_jobs) l)
starts_in l (Err r) = refused r

module _ {s : Slices} {out l : List ℕ} (room : length out ≡ most_jobs) where
  -- the reply of a call with room for so many jobs, and the buffer's length
  module _ (a : ℕ → Ask) {r : Reply} (P : Promise (a (length out)) s s out l r) (t : State) (f : StandsFor s t) where
    says_of : r ≡ reply t (call_of (a most_jobs) s)
    says_of = (P.decides t f).says ∙ ap (λ (k : ℕ). reply t (call_of (a k) s)) room

    long_of : length l ≡ most_jobs
    long_of = ap length (P.decides t f).answers ∙ length-sets out 0 (answer_of r) ∙ room

  pub verdict_is : (r : Result Judged Refusal) → Promise (to_verdict (length out)) s s out l (says_verdict l r) → (t : State) → StandsFor s t
      → reply t (call_of (to_verdict most_jobs) s) ≡ verdict_in l r
  verdict_is (Ok (LineUp k)) P t f =
      let e = says_of to_verdict P t f in
      sym e ∙ ap lined_up (front k most_jobs l (long_of to_verdict P t f) (rw (← e) at (verdict_few t s most_jobs)))
  verdict_is (Ok (Cycle k)) P t f =
      let e = says_of to_verdict P t f in
      sym e ∙ ap cycled (front k most_jobs l (long_of to_verdict P t f) (rw (← e) at (verdict_few t s most_jobs)))
  verdict_is (Err q) P t f = sym (says_of to_verdict P t f)

  pub starts_is : (r : Result ℕ Refusal) → Promise (to_starts (length out)) s s out l (says_started l r) → (t : State) → StandsFor s t
      → reply t (call_of (to_starts most_jobs) s) ≡ starts_in l r
  starts_is (Ok k) P t f =
      let e = says_of to_starts P t f in
      sym e ∙ ap started (front k most_jobs l (long_of to_starts P t f) (rw (← e) at (starts_few t s most_jobs)))
  starts_is (Err q) P t f = sym (says_of to_starts P t f)

-- of so many numbers
first_few : (n k : ℕ) (l : List ℕ) → n ≡ min k most_jobs → length (take n l) ≤ most_jobs
first_few n k l e = rw length-take (omega arith)

-- a part of an answer buffer is as long as it says, and so there is room for its line
pub first_long : (n k : ℕ) (l : List ℕ) → n ≡ min k most_jobs → length l ≡ most_jobs → length (take n l) ≡ n
first_long n k l e h = rw length-take (omega arith)

module _ (n k at : ℕ) (l out : List ℕ) (e : n ≡ min k most_jobs) where
  pub starts_room : at + long_line ≤ length out → at + line_length 6 (length (take n l)) ≤ length out
  starts_room h = let f = first_few n k l e in omega arith

  pub cycle_room : (o : List ℕ) → at + 2 * long_line ≤ length out → length o ≡ length out → at + line_length 5 (length (take n l)) ≤ length o
  cycle_room o h g = let f = first_few n k l e in omega arith

  pub order_room : {s : Slices} {p : ℕ} {o : List ℕ} → ShowsStarts s out at p o → at + 2 * long_line ≤ length out → length o ≡ length out
      → p + line_length 5 (length (take n l)) ≤ length o
  order_room S h g = let f = first_few n k l e in let i = S.few in omega arith

-- ── the starts ──

module _ {s : Slices} {out : List ℕ} {at p : ℕ} {out' before list : List ℕ} (room : length before ≡ most_jobs) where
  pub starts_no : {q : Refusal} → Fills out at (no_line q) (line_length 2 1) p out'
      → Promise (to_starts (length before)) s s before list (says_started list (Err q)) → ShowsStarts s out at p out'
  starts_no {q} W P =
      let i = W.few in
      record { few = omega arith; is = λ t f. rw (starts_is room (Err q) P t f) W.wrote }

  pub starts_all : (n k : ℕ) → Told (λ x y. y ≡ x) (take n list) (λ ns. Fills out at (line_of starts_word ns) (line_length 6 (length (take n list))) p out')
      → Promise (to_starts (length before)) s s before list (says_started list (Ok k)) → n ≡ min k most_jobs → ShowsStarts s out at p out'
  starts_all n k T P m =
      let W = told_is (take n list) (λ ns. Fills out at (line_of starts_word ns) (line_length 6 (length (take n list))) p out') T in
      let i = W.few in
      let j = first_few n k list m in
      record { few = omega arith; is = λ t f. rw (starts_is room (Ok k) P t f, ← m) W.wrote }

-- ── the verdict ──

module _ {s : Slices} {out : List ℕ} {at p : ℕ} {out' before list : List ℕ} (room : length before ≡ most_jobs) where
  pub verdict_no : {q : Refusal} → Fills out at (no_line q) (line_length 2 1) p out'
      → Promise (to_verdict (length before)) s s before list (says_verdict list (Err q)) → ShowsVerdict s out at p out'
  verdict_no {q} W P =
      let i = W.few in
      record { few = omega arith; is = λ t f. rw (verdict_is room (Err q) P t f) W.wrote }

  pub verdict_cycle : (n k : ℕ) {j : Judged}
      → Told (λ x y. y ≡ x) (take n list) (λ ns. Fills out at (line_of cycle_word ns) (line_length 5 (length (take n list))) p out') → j ≡ Cycle k
      → Promise (to_verdict (length before)) s s before list (says_verdict list (Ok j)) → n ≡ min k most_jobs → ShowsVerdict s out at p out'
  verdict_cycle n k T e P m =
      let W = told_is (take n list) (λ ns. Fills out at (line_of cycle_word ns) (line_length 5 (length (take n list))) p out') T in
      let i = W.few in
      let j = first_few n k list m in
      record { few = omega arith; is = λ t f. rw (verdict_is room (Ok (Cycle k)) (rw e at P) t f, ← m) W.wrote }

  -- the line_up behind the starts
  pub verdict_order : (n k : ℕ) {j : Judged} {q : ℕ} {o : List ℕ}
      → Told (λ x y. y ≡ x) (take n list) (λ ns. Fills o q (line_of order_word ns) (line_length 5 (length (take n list))) p out')
      → ShowsStarts s out at q o → j ≡ LineUp k → Promise (to_verdict (length before)) s s before list (says_verdict list (Ok j))
      → n ≡ min k most_jobs → ShowsVerdict s out at p out'
  verdict_order n k {q = q} {o = o} T S e P m =
      let W = told_is (take n list) (λ ns. Fills o q (line_of order_word ns) (line_length 5 (length (take n list))) p out') T in
      let i = W.few in
      let g = S.few in
      let j = first_few n k list m in
      record {
        few = omega arith;
        is = λ t f. rw (verdict_is room (Ok (LineUp k)) (rw e at P) t f, ← m) (wrote_behind (S.is t f) W.wrote);
      }

-- ── all of it ──

module _ {s : Slices} {out : List ℕ} {p : ℕ} {out' : List ℕ} (h : longest_answer ≤ length out) where
  -- a refusal of the score stands alone
  pub shows_no : {q : Refusal} → Fills out 0 (no_line q) (line_length 2 1) p out' → Reads to_score s (says_counted (Err q)) → Answers whole_show s s out p out'
  shows_no W P =
      let i = W.few in
      record { few = omega arith; decides = λ t f. let d = P.decides t f in record { text = rw (← d.says) W.wrote; leaves = d.leaves } }

  -- the verdict behind the score
  pub shows_score : {c : Score} {k q : ℕ} {o : List ℕ} → ShowsVerdict s o q p out' → Fills out 0 (score_line score_word c) (score_length 5) q o
      → Reads to_score s (says_counted (Ok (c, k))) → Answers whole_show s s out p out'
  shows_score J W P =
      let i = W.few in
      let j = J.few in
      record {
        few = omega arith;
        decides = λ t f. let d = P.decides t f in record { text = rw (← d.says) (wrote_behind W.wrote (J.is t f)); leaves = d.leaves };
      }

pub ruleset showing = (rules, first_long, starts_room, cycle_room, order_room)
