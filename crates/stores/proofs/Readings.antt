-- The calls that only read: score and starts keep their promises. Assumes nothing.
use Prim.Native.Nat.{ℕ, ◌≤◌, ◌<◌}
use native.Mathlib.Omega.{arith}
use mathlib.Core.Path.{◌≡◌, refl, sym, ap, ◌∙◌}
use mathlib.Core.Bool.{false}
use mathlib.Core.Option.{some}
use mathlib.Core.List.{List, []}
use lib.ListN.{length, take, drop, length-take, length-drop}
use lib.Seq.{sets, length-sets}
use borrow.Author.Tests.{lt-ltb, le-ltb}
use Rattle.rules.specs.declared.Plan.{Plan as Counts}
use Rattle.rules.specs.declared.Score.{Score}
use Rattle.rules.specs.declared.Refusal.{Refusal}
use Rattle.rules.specs.declared.Refusal.TheVariants.{ShortAnswer}
use Rattle.rules.specs.Lists.{table}
use Rattle.rules.specs.Sizes.{is_short, most_jobs, times_length}
use Rattle.rules.specs.Routes.{Plan}
use Rattle.rules.specs.Scores.{score, matches_of, reported_start}
use Rattle.rules.specs.Calls.{refused, counted, started, to_score, to_starts, accepted}
use Rattle.std.specs.Prelude.{Result, Ok, Err}
use Rattle.stores.specs.Headers.{open_of, counts_of}
use Rattle.stores.specs.Promise.{Slices, lent_of, Held, Decided, Promise, Reads}
use Rattle.stores.specs.Sums.{ScoredBy}
use Rattle.stores.specs.Says.{places}
use Rattle.times.specs.Words.{starts_in, starts_place, time_words, start_of}
use Rattle.stores.proofs.Promises.{closed_kept, opened_kept, decided_refused, decided_read, refusal_long, heeds_first, heeds_done, heeds_bad}
use Rattle.stores.proofs.Scores.{scored_held}
use Rattle.edges.proofs.Listing.{between}
use Rattle.rules.proofs.Tabled.{table_length, table_same}
use Rattle.stores.proofs.Tabled.{table_take, taken_sets, places_take}

-- ── score ──

unlike : {r : Refusal} {c : Score} → Ok c ≡ Err r → ⊥
unlike e = let z : ◌≡◌ {A = ℕ} 0 1 = cc in omega arith

module _ (s : Slices) {h : Result Counts Refusal} (opens : h ≡ open_of (lent_of s) s.base) where
  pub score_closed : {r : Refusal} → h ≡ Err r → Reads to_score s (refused r)
  score_closed = closed_kept to_score s opens [] refl

  module _ {plan : Counts} (is : h ≡ Ok plan) {x : Result Score Refusal} (tells : ScoredBy s.base s.routes s.times plan.jobs x) where
    scored_so : (p : Plan) → Held s p → plan ≡ counts_of p.base → x ≡ Ok (score p)
    scored_so p H q = scored_held s p H tells (ap (λ (c : Counts). c.jobs) q)

    pub score_bad : {r : Refusal} → x ≡ Err r → Reads to_score s (refused r)
    score_bad {r} e = opened_kept to_score s opens s [] [] (refused r) is
        (λ f p H q. absurd (unlike (sym (scored_so p H q) ∙ e)))
        (heeds_bad to_score s opens (rw is) (ap refused (tells.twelve r e)))

    some_score : is_short (lent_of s) ≡ false → (p : Plan) → Held s p
        → Decided (some p) to_score s s [] [] (counted (score p) (matches_of (score p)))
    unfolding accepted
    some_score e p H = decided_read p to_score s H (refusal_long (some p) to_score s e) [] _ refl refl

    pub score_is : {c : Score} {k : ℕ} → x ≡ Ok c → k ≡ matches_of c → Reads to_score s (counted c k)
    score_is {c} {k} e m = opened_kept to_score s opens s [] [] (counted c k) is (λ f p H q.
        let y = scored_so p H q in
        let z : c ≡ score p = cc in
        rw (m, z) (some_score f p H))
        (heeds_done to_score s opens (rw is) (λ k f. let z : ◌≡◌ {A = ℕ} 0 1 = cc in omega arith))

-- ── starts ──

-- the starts of a plan, as the times hold them
pub times_starts : (p : Plan) (l : List ℕ) → take times_length l ≡ time_words p → starts_in l ≡ table most_jobs (start_of p)
unfolding time_words
times_starts p l e = between starts_place times_length l (omega arith) ∙ ap (drop starts_place) e

starts_reported : (p : Plan) (l : List ℕ) → take times_length l ≡ time_words p → p.base.jobs ≤ most_jobs
    → take p.base.jobs (starts_in l) ≡ table p.base.jobs (reported_start p)
starts_reported p l e h =
    ap (take p.base.jobs) (times_starts p l e)
    ∙ table_take p.base.jobs most_jobs (start_of p) h
    ∙ table_same p.base.jobs (start_of p) (reported_start p) (λ v k. rw (lt-ltb v p.base.jobs k))

module _ (s : Slices) (out : List ℕ) {h : Result Counts Refusal} (opens : h ≡ open_of (lent_of s) s.base) where
  pub starts_closed : {r : Refusal} → h ≡ Err r → Promise (to_starts (length out)) s s out out (refused r)
  starts_closed = closed_kept (to_starts (length out)) s opens out refl

  module _ {plan : Counts} (is : h ≡ Ok plan) where
    pub starts_few : length out < plan.jobs → Promise (to_starts (length out)) s s out out (refused ShortAnswer)
    starts_few k = opened_kept (to_starts (length out)) s opens s out out (refused ShortAnswer) is (λ f p H q.
        decided_refused (some p) (to_starts (length out)) s out ShortAnswer
        (refusal_long (some p) (to_starts (length out)) s f ∙ rw (lt-ltb (length out) p.base.jobs (rw q at k))))
        (heeds_first (to_starts (length out)) s opens out (rw (is, lt-ltb (length out) plan.jobs k)))

    some_starts : is_short (lent_of s) ≡ false → (p : Plan) → Held s p → p.base.jobs ≤ length out
        → Decided (some p) (to_starts (length out)) s s out (sets out 0 (table p.base.jobs (reported_start p)))
        (started (table p.base.jobs (reported_start p)))
    unfolding accepted
    some_starts f p H k = decided_read p (to_starts (length out)) s H
        (refusal_long (some p) (to_starts (length out)) s f ∙ rw (le-ltb (length out) p.base.jobs k)) out _ refl refl

    pub starts_all : {n : ℕ} {out' : List ℕ} → n ≡ plan.jobs → n ≤ length out → out' ≡ sets out 0 (take n (starts_in s.times))
        → Promise (to_starts (length out)) s s out out' (started (places n out'))
    starts_all {n} {out'} m k w = opened_kept (to_starts (length out)) s opens s out out' (started (places n out')) is (λ f p H q.
        let m' : n ≡ p.base.jobs = m ∙ ap (λ (c : Counts). c.jobs) q in
        let t = starts_reported p s.times H.times H.desk.sound.loaded.jobs in
        let w' : out' ≡ sets out 0 (table p.base.jobs (reported_start p)) = w ∙ rw (m', t) in
        let l = table_length p.base.jobs (reported_start p) in
        let z : n ≤ length out' = rw (w, length-sets) k in
        let y : places n out' ≡ table p.base.jobs (reported_start p) =
        places_take n out' z ∙ rw w' (taken_sets out _ n (l ∙ sym m') k) in
        rw (y, w') (some_starts f p H (rw m' at k)))
        (heeds_done (to_starts (length out)) s opens (rw (is, le-ltb (length out) plan.jobs (rw m at k)))
        (λ k f. let z : ◌≡◌ {A = ℕ} 0 1 = cc in omega arith))

pub starts_long : (l : List ℕ) {r : List ℕ} → r ≡ starts_in l → times_length ≤ length l → length r ≡ most_jobs
starts_long l e h = rw e (simp (length-take, length-drop) (omega arith))
