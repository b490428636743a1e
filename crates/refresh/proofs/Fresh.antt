-- A load that is not refused: the words that it writes are those of the plan that it leaves. Assumes nothing.
use Prim.Native.Nat.{ℕ, ◌≤◌}
use native.Mathlib.Omega.{arith}
use mathlib.Core.Path.{◌≡◌, refl, sym, ap, subst, ◌∙◌}
use mathlib.Core.Bool.{false}
use mathlib.Core.Option.{none}
use mathlib.Core.List.{List, ◌++◌}
use lib.Dec.{leb}
use lib.ListN.{length, take, drop, replicate, length-append, length-replicate, take-append-drop}
use lib.Seq.{sets, take-append_seam, drop-append_seam}
use Rattle.rules.specs.Lists.{any_of}
use Rattle.rules.specs.Sizes.{Base, Loading, base_of, bad_from, falls, base_length, edges_length, most_fixed, routes_length}
use Rattle.rules.specs.Refusals.{first_of, load_checks}
use Rattle.rules.specs.Routes.{fresh}
use Rattle.rules.specs.Sound.{Sound}
use Rattle.rules.proofs.Members.{or_false}
use Rattle.rules.proofs.History.{Passed, passed, load_loaded, fresh_sound}
use Rattle.routes.proofs.Freshly.{fresh_routes}
use Rattle.routes.proofs.Wellformed.{has_words}
use Rattle.edges.specs.Fixed.{Fixing, Written}
use Rattle.edges.proofs.Freshness.{fresh_held}
use Rattle.times.specs.Words.{span_words}
use Rattle.rules.specs.declared.Refusal.{Refusal}
use Rattle.rules.specs.declared.Score.{Score}
use Rattle.std.specs.Prelude.{Result}
use Rattle.stores.specs.Words.{padded, base_words, base_laid}
use Rattle.stores.specs.Promise.{Slices, slices, holding}
use Rattle.refresh.specs.Fills.{Over, Laid, Rated, Rates, Filled}
use Rattle.refresh.proofs.Checking.{Sized, sized}
use Rattle.stores.proofs.Laying.{base_laid_lem, spans_words, padded_length, in_front}

-- ── words in front of a slice ──

pub over : (k : ℕ) (w a : List ℕ) {a' : List ℕ} → length w ≡ k → a' ≡ w ++ drop k a → Over k w a a'
over k w a q e = record {
  front = ap (take k) e ∙ ap (λ (n : ℕ). take n (w ++ drop k a)) (sym q) ∙ take-append_seam w (drop k a);
  back = ap (drop k) e ∙ ap (λ (n : ℕ). drop n (w ++ drop k a)) (sym q) ∙ drop-append_seam w (drop k a);
}

over_whole : {k : ℕ} {w a a' : List ℕ} → Over k w a a' → a' ≡ w ++ drop k a
over_whole {k} {w} {a} {a'} O = sym (take-append-drop k a') ∙ rw (O.front, O.back)

-- the same words under another name
over_as : {k : ℕ} {w v a a' : List ℕ} → w ≡ v → Over k w a a' → Over k v a a'
over_as {k} {a = a} {a' = a'} q O = subst (λ (x : List ℕ). Over k x a a') q O

base_long : (jobs owners : ℕ) (expected from to : List ℕ) → length from ≤ most_fixed → length to ≡ length from → length expected ≤ 512
    → length (base_laid jobs owners expected from to) ≡ base_length
unfolding base_laid
base_long jobs owners expected from to f t x = simp (length-append, length-replicate) (omega arith)

fresh_base : (b : Base) → (fresh b).base ≡ b
unfolding fresh
fresh_base b = refl

fresh_jobs : (l : Loading) → l.jobs ≡ (fresh (base_of l)).base.jobs
unfolding fresh base_of
fresh_jobs l = refl

-- ── nothing is refused ──

module _ (l : Loading) (fine : first_of (load_checks l) ≡ none) where
  passes : Passed (load_checks l)
  passes = passed (load_checks l) fine

  pub sizes : Sized l
  sizes = let (a, b) = passes in sized l a

  sound : Sound (fresh (base_of l))
  sound = fresh_sound (base_of l) (load_loaded l passes)

  rises : (any_of (leb l.jobs) l.from ≡ false) × (falls 0 l.from ≡ false)
  unfolding bad_from
  rises = let (a, (b, (c, d))) = passes in or_false {a = any_of (leb l.jobs) l.from} c

  pub fixing : {e : List ℕ} → length e ≡ edges_length → Fixing e l.from l.to l.jobs
  fixing q = record {
    size = q;
    to_long = omega (arith, sizes.pairs);
    few = sizes.fixed;
    jobs = sizes.jobs;
    below = rises.0;
    rising = rises.1;
  }

  pub laid : {b s e r b' s' part r' : List ℕ} → routes_length ≤ length r
      → b' ≡ base_laid l.jobs l.owners l.expected l.from l.to ++ drop base_length b
      → s' ≡ padded 512 l.durations ++ drop 512 s
      → Written l.from l.to l.jobs part → length part ≡ edges_length
      → r' ≡ sets r 0 (replicate routes_length 0)
      → Laid (fresh (base_of l)) b s e r b' s' (part ++ drop edges_length e) r'
  unfolding base_of
  laid {b} {s} {e} {r} {part = part} h qb qs W long qr =
      let short : length l.expected ≤ 512 = omega (arith, sizes.expected, sizes.jobs) in
      let brief : length l.durations ≤ 512 = omega (arith, sizes.durations, sizes.jobs) in
      let zeros : length (replicate {A = ℕ} routes_length 0) ≡ routes_length = length-replicate {A = ℕ} routes_length 0 in
      let same : base_of l ≡ (fresh (base_of l)).base = sym (fresh_base (base_of l)) in
      record {
        base = over_as (base_laid_lem l sizes.pairs short ∙ ap base_words same)
            (over base_length _ b (base_long l.jobs l.owners l.expected l.from l.to sizes.fixed (sym sizes.pairs) short) qb);
        spans = over_as (spans_words l brief ∙ ap span_words same)
            (over 512 (padded 512 l.durations) s (padded_length 512 l.durations 0 brief) qs);
        edges = over_as (fresh_held (base_of l) l.from l.to part refl W).words (over edges_length part e long refl);
        routes = over_as (fresh_routes (base_of l)).words
            (over routes_length (replicate routes_length 0) r zeros (in_front r (replicate routes_length 0) routes_length qr zeros h));
      }

  -- the plan's words but for the times, then its times and its score
  pub filled : {s : Slices} {b' s' e' r' t' : List ℕ} {x : Result Score Refusal}
      → Laid (fresh (base_of l)) s.base s.spans s.edges s.routes b' s' e' r'
      → Rates b' s' e' r' s.times l.jobs x t'
      → Filled (fresh (base_of l)) s (slices b' s' e' r' t') x
  unfolding holding
  filled {s} {b'} {s'} {e'} {r'} {t'} {x} L R = record {
    says = told.says;
    leaves = rw (
      over_whole L.base,
      over_whole L.spans,
      over_whole L.edges,
      over_whole L.routes,
      over_whole told.times,
    );
  }
    where
      told : Rated (fresh (base_of l)) s.times x t'
      told = R.is (fresh (base_of l)) (record {
        base = L.base.front;
        spans = L.spans.front;
        desk = rw (L.routes.front, L.edges.front) (has_words (fresh (base_of l)) sound);
        jobs = fresh_jobs l;
      })
