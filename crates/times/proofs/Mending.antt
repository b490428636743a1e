-- The walk, from the words of a plan and of the put's edges, is the rules' walk of the put; and the put's verdict by the starts before. Assumes
-- nothing.
use Rattle.std.proofs.Common.{◌≡◌, ℕ, ◌<◌, Bool, true, false, not, List, [], ◌++◌, sym, refl, ap, ◌∙◌, arith}
use mathlib.Core.Path.{fun_ext}
use Rattle.rules.specs.Lists.{is_empty, memb, table}
use Rattle.rules.specs.Sizes.{duration, most_jobs}
use Rattle.rules.specs.Routes.{Plan, emptied, live, own_stage, put_plan}
use Rattle.rules.specs.Scores.{best, starts, floor_of, is_cyclic}
use Rattle.rules.specs.Reports.{push, walk, tri, seeds, put_walk, Outcome}
use Rattle.rules.proofs.Plans.{ranks_of, starts_solve}
use Rattle.rules.proofs.Starts.{best_edges}
use Rattle.rules.proofs.Puts.{put_sound, seeds_once, seeds_low, seeds_all, skipped_same, tips_append}
use Rattle.rules.proofs.Ranges.{Test, clash, fail, pass, test}
use Rattle.rules.proofs.Stages.{tips}
use Rattle.rules.proofs.Steps.{came_was, push_new}
use Rattle.rules.proofs.Walks.{single_in}
use Rattle.rules.proofs.Reported.{put_starts}
use Rattle.rules.proofs.Bounds.{finish_few}
use Rattle.edges.specs.Plans.{edges_of}
use Rattle.graphs.specs.Falls.{Steady}
use Rattle.graphs.specs.Graph.{out_of, at, zeros, live as live_in}
use Rattle.graphs.specs.Sound.{Seeded, Sound as Walkable}
use Rattle.graphs.proofs.Falls.{steady_of}
use Rattle.starts.specs.Backs.{headed, Judges}
use Rattle.starts.specs.Walks.{Walk, Walks}
use Rattle.times.specs.Settles.{Given, Putting}
use Rattle.times.specs.Words.{span_words, time_words, start_of}
use Rattle.times.proofs.Graphing.{out_fun, live_fun, below, span_fun, spans_short, start_fun}
use Rattle.times.proofs.Judging.{judged}
use Rattle.times.proofs.Timing.{same_words}

module _ {p : Plan} {o : ℕ} {l e sp : List ℕ} {n : ℕ} (P : Putting p o l e sp n) where
  abbrev p' : Plan
  p' = put_plan p o l

  abbrev jobs : ℕ
  jobs = p.base.jobs

  abbrev st : List ℕ
  st = table most_jobs (start_of p)

  abbrev came : List ℕ
  came = tips (own_stage p o l).came

  pub after : Given p' e sp n
  unfolding put_plan
  after = record {
    sound = put_sound p o l P.sound P.owner P.few P.room;
    edges = P.edges;
    spans = P.spans;
    jobs = P.jobs;
  }

  -- "skipped, if no edge appeared or vanished": the times stay
  pub skipped_words : is_empty (seeds p o l) ≡ true → time_words p' ≡ time_words p
  unfolding put_plan
  skipped_words z = same_words p' p refl (sym (fun_ext (λ u. fun_ext (λ v. skipped_same p o l P.sound P.owner P.few z u v))))

  module _ (calm : is_cyclic p ≡ false) where
    -- ── the verdict ──

    -- but for edges to what came, no start falls along an edge
    module _ (vs : List ℕ) (q : push [] vs ≡ push [] came) where
      out : (v : ℕ) → memb v vs ≡ false → memb v came ≡ false
      out v f = go (test (memb v came))
        where
          go : Test (memb v came) → memb v came ≡ false
          go (fail z) = z
          go (pass z) = clash (single_in vs v (ap (memb v) q ∙ push_new v [] came z)) f

      steady : (r : ℕ → ℕ) × Steady jobs (live_in (edges_of p')) (headed vs) (at st) r
      unfolding put_plan
      steady =
          let (r, R) = ranks_of p calm in (
            r,
            rw (live_fun p' after.sound, start_fun p P.sound calm)
                (steady_of jobs (live p) (live p') (headed vs) (floor_of p.base) (duration p.base) (starts p) r R.rises
                (starts_solve p calm) (λ u v hu hv z f. came_was p o l P.sound after.sound P.owner P.few u v (out v f) z)),
          )

      heads : (v : ℕ) → memb v vs ≡ true → v < jobs
      unfolding seeds
      heads v z =
          let a = single_in came v (sym (ap (memb v) q) ∙ push_new v [] vs z) in
          let b : memb v (tips ((own_stage p o l).came ++ ((own_stage p o l).went ++ (emptied p o).went))) ≡ true
          = tips_append v (own_stage p o l).came ((own_stage p o l).went ++ (emptied p o).went) ∙ rw a in
          seeds_low p o l P.sound P.owner P.few v (push_new v [] (tips ((own_stage p o l).came ++ ((own_stage p o l).went ++ (emptied p o).went))) b)

      pub verdict : {r : Bool} → Judges e st vs n r → is_cyclic p' ≡ not r
      unfolding put_plan
      verdict {r} X =
          let (rank, Z) = steady in
          let Y : Judges e st vs jobs r = rw P.jobs at X in
          judged p' after.sound r (Y.told (edges_of p') P.edges (below p' after.sound) heads rank Z)

    -- ── the walk ──

    seeded : Seeded jobs (edges_of p') zeros (span_words p.base) st (seeds p o l)
    unfolding put_plan
    seeded = record {
      once = seeds_once p o l P.sound P.owner P.few;
      low = seeds_low p o l P.sound P.owner P.few;
      calm = λ v k z.
          ap (λ (f : ℕ → ℕ). f v) (start_fun p P.sound calm)
          ∙ starts_solve p calm v k
          ∙ best_edges jobs (live p) (live p') (floor_of p.base) (duration p.base) (starts p) v
          (λ u i. seeds_all p o l P.sound P.owner P.few u v z)
          ∙ sym (λ i. best jobs (live_fun p' after.sound i) zeros (span_fun p P.sound i) (start_fun p P.sound calm i) v);
      small = λ v k.
          let a = finish_few p P.sound calm v k in let b = ap (λ (f : ℕ → ℕ). f v) (start_fun p P.sound calm) in omega arith;
    }

    module _ (calm' : is_cyclic p' ≡ false) where
      walkable : (r : ℕ → ℕ) × Walkable e (span_words p.base) zeros jobs (edges_of p') r
      unfolding put_plan
      walkable = let (r, R) = ranks_of p' calm' in (
        r,
        record {
          holds = P.edges;
          below = below p' after.sound;
          spans = spans_short p P.sound;
          floors = λ u. omega arith;
          ranks = rw (live_fun p' after.sound) R;
        },
      )

      walk_is : walk jobs (out_of (edges_of p')) zeros (at (span_words p.base)) (tri jobs) (seeds p o l) (at st) ≡ put_walk p o l
      unfolding put_walk put_plan
      walk_is = rw (out_fun p' after.sound, span_fun p P.sound, start_fun p P.sound calm)

      module _ {vs : List ℕ} {k : ℕ} {st' : List ℕ} (W : Walks e sp zeros st vs n k st') (q : push [] vs ≡ seeds p o l) where
        walked : Walk jobs (edges_of p') (span_words p.base) zeros st (seeds p o l) k st'
        walked =
            let (rank, R) = walkable in
            let W' : Walks e (span_words p.base) zeros st vs jobs k st' = rw (P.spans, P.jobs) at W in
            rw q at (W'.is (edges_of p') rank R (rw q seeded))

        pub walked_visits : k ≡ (put_walk p o l).visits
        walked_visits = walked.visits ∙ ap (λ (x : Outcome). x.visits) walk_is

        pub walked_starts : (v : ℕ) → v < jobs → at st' v ≡ starts p' v
        walked_starts v h = ap (λ (f : ℕ → ℕ). f v) (walked.starts ∙ ap (λ (x : Outcome). x.starts) walk_is)
            ∙ put_starts p o l P.sound P.owner P.few P.room calm calm' v h
