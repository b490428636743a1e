-- How many edges lead to each job. Assumes nothing.
use Rattle.std.proofs.Common.{◌≡◌, ℕ, suc, ◌+◌, ◌%◌, ◌^◌, ◌<◌, ◌≤◌, Bool, true, false, eqb, ◌⊎◌, List, [], ◌∷◌, length, get_or, set, sym, refl, ap, ◌∙◌, inl, inr, mod-eq_of_lt, add-one, arith, get_or-set_other, get_or-set_same, rules, eq-eqb, ne_eqb}
use Rattle.rules.specs.Lists.{Once, memb, tick}
use Rattle.rules.specs.Scores.{times_in}
use Rattle.rules.specs.Sizes.{most_jobs}
use Rattle.rules.proofs.Ranges.{count_le, same}
use Rattle.edges.specs.Edges.{Model}
use Rattle.graphs.specs.Graph.{at}
use Rattle.probes.specs.Aheads.{Sees}
use Rattle.probes.specs.Fulls.{Bumps, OnGraph, Tallied, lead_to, on_outs}
use Rattle.probes.specs.declared.chain.Chain.{Chain}

-- ── one more edge to v ──

bumps_none : (d : List ℕ) → Bumps [] d d
bumps_none d = record { adds = λ w h l. omega arith }

bumps_then : {v : ℕ} {vs d d' d'' : List ℕ} → Bumps (v ∷ []) d d' → Bumps vs d' d'' → Bumps (v ∷ vs) d d''
bumps_then {v} {vs} {d} {d'} {d''} B C = record {
  adds = λ w h l.
      let a = B.adds w h (omega arith) in
      let b = C.adds w h (omega arith) in
      omega arith;
}

module _ (v k : ℕ) (d : List ℕ) (ek : k ≡ v) where
  pub bump_out : most_jobs ≤ k → Bumps (v ∷ []) d d
  bump_out h = record { adds = λ w l n. rw (ne_eqb w v (λ q. omega arith)) (omega arith) }

  pub bump_more : length d ≡ most_jobs → k < most_jobs → {x : ℕ} → x ≡ (get_or d k 0 + 1) % 2 ^ 16 → Bumps (v ∷ []) d (set d k x)
  bump_more ld hk {x} ex = record { adds = λ w h l. look w (same w v) h l }
    where
      look : (w : ℕ) → (w ≡ v) ⊎ (w ≡ v → ⊥) → w < most_jobs → at d w + (tick (eqb w v) 0 + 0) ≤ most_jobs
          → get_or (set d k x) w 0 ≡ at d w + (tick (eqb w v) 0 + 0)
      look w (inl e) h l =
          let q : w ≡ k = e ∙ sym ek in
          let b : at d k + 1 ≤ most_jobs = (let z : at d w + 1 ≤ most_jobs = rw (eq-eqb w v e) at l in rw q at z) in
          rw (eq-eqb w v e, q, get_or-set_same d k x 0 (omega arith)) (ex ∙ mod-eq_of_lt (omega arith))
      look w (inr e) h l = rw (ne_eqb w v e, get_or-set_other d k w x 0 (λ z. e (z ∙ ek))) (omega arith)

-- ── the heads of a job in turn ──

-- once those that are left are counted, all are
pub record Bumping (all d₀ left d : List ℕ) : Type 0 where
  pub rest : (d' : List ℕ) → Bumps left d d' → Bumps all d₀ d'

pub bumping_none : (l d : List ℕ) → Bumping l d l d
bumping_none l d = record { rest = λ d' B. B }

module _ {all d₀ left d : List ℕ} (L : Bumping all d₀ left d) where
  pub bumping_next : {v : ℕ} {left' d' : List ℕ} → left ≡ v ∷ left' → Bumps (v ∷ []) d d' → Bumping all d₀ left' d'
  bumping_next q B = record { rest = λ d' C. L.rest d' (rw q (bumps_then B C)) }

  pub bumping_done : left ≡ [] → Bumps all d₀ d
  bumping_done q = L.rest d (rw q (bumps_none d))

pub ruleset bumping = (rules, bump_out, bump_more, bumping_none, bumping_next, bumping_done)

-- ── job after job ──

once_times : (w : ℕ) (l : List ℕ) → Once l → times_in w l ≡ tick (memb w l) 0
once_times w [] o = refl
once_times w (v ∷ l) (a, o) = look (same w v) (once_times w l o)
  where
    look : (w ≡ v) ⊎ (w ≡ v → ⊥) → times_in w l ≡ tick (memb w l) 0 → times_in w (v ∷ l) ≡ tick (memb w (v ∷ l)) 0
    look (inl e) ih = let b : memb w l ≡ false = rw e a in let z : times_in w l ≡ 0 = rw b at ih in rw (eq-eqb w v e, z)
    look (inr e) ih = rw (ne_eqb w v e) (omega arith)

pub tallied_none : (e : List ℕ) (off plus : Chain) (n : ℕ) (d : List ℕ) → Tallied e off plus n 0 d d
tallied_none e off plus n d = record { is = λ m G z. z }

pub tallied_next : {e : List ℕ} {off plus : Chain} {n u : ℕ} {d₀ d l d' : List ℕ} → Bumps l d d' → Tallied e off plus n u d₀ d
    → Sees e off plus u l → u < n → n ≤ most_jobs → Tallied e off plus n (u + 1) d₀ d'
tallied_next {e} {off} {plus} {n} {u} {d₀} {d} {l} {d'} B T S hu hn = record { is = λ m G z w h. rw add-one (step m G z w h) }
  where
    step : (m : Model) → OnGraph e off plus n m → ((w : ℕ) → w < most_jobs → at d₀ w ≡ 0) → (w : ℕ) → w < most_jobs
        → at d' w ≡ lead_to (on_outs m off plus) (suc u) w
    step m G z w h =
        let out = on_outs m off plus in
        let s : times_in w l ≡ tick (memb w (out u)) 0 = ap (times_in w) (S.is m G.holds) ∙ once_times w (out u) (G.once u hu) in
        let a = T.is m G z w h in
        let c = count_le (suc u) (λ x. memb w (out x)) in
        let t : lead_to out (suc u) w ≡ lead_to out u w + tick (memb w (out u)) 0 = ticked (memb w (out u)) (lead_to out u w) in
        let b = B.adds w h (omega arith) in
        omega arith
      where
        ticked : (b : Bool) (k : ℕ) → tick b k ≡ k + tick b 0
        ticked true k = omega arith
        ticked false k = omega arith

pub tallied_all : {e : List ℕ} {off plus : Chain} {n u : ℕ} {d₀ d : List ℕ} → Tallied e off plus n u d₀ d → u ≤ n → n ≤ u → Tallied e off plus n n d₀ d
tallied_all {n = n} {u = u} T a b = let q : u ≡ n = omega arith in rw q at T

pub ruleset tallying = (rules, tallied_none, tallied_next, tallied_all)
