-- Both checks: what the code answers, by each way out. Assumes nothing.
use Rattle.std.proofs.Common.{◌≡◌, ℕ, ◌<◌, ◌≤◌, Bool, true, false, not, ltb, List, [], ◌∷◌, sym, refl, ap, ◌∙◌, arith, rules, ltb-true, lt-ltb}
use borrow.Author.Tests.{not-true}
use Rattle.rules.specs.Graphs.{Graph}
use Rattle.rules.specs.Lists.{Pair, all_below}
use Rattle.rules.specs.Moves.{full_check, neighbours, occurs, quick_check}
use Rattle.rules.specs.Sizes.{most_entries, most_jobs, pair_up}
use Rattle.rules.proofs.Ranges.{Test, and_true, clash, fail, pass, test}
use Rattle.edges.specs.Edges.{Holds, Model}
use Rattle.graphs.specs.Graph.{Below}
use Rattle.probes.specs.Chains.{Links, Rule, always, blank}
use Rattle.probes.specs.Fulls.{Lines, OnGraph, on_edge}
use Rattle.probes.specs.Gathered.{comes_on, goes_off}
use Rattle.probes.specs.Judges.{Both, Checks, on_for, stays_for, verdicts}
use Rattle.probes.specs.Pairs.{Rising}
use Rattle.probes.specs.Quicks.{Turns, turning}
use Rattle.probes.specs.declared.checks.Checked.{Checked}
use Rattle.probes.proofs.Chaining.{falls_blank}
use Rattle.probes.proofs.Weighed.{Given, full_is, on_graph, quick_is, quick_then_full}
use Rattle.probes.specs.declared.chain.Chain.{Chain}

-- ── with or without a line_up ──

module _ {e : List ℕ} {off plus : Chain} (jobs : List ℕ) {n : ℕ} (was : Bool) {l : Bool} (L : Lines e off plus n l) where
  full_of : {b : Bool} → l ≡ b → (m : Model) → OnGraph e off plus n m → full_check n (on_edge m off plus) ≡ not b
  full_of q m G = ap not (sym (L.is m G) ∙ q)

  pub both_lined : l ≡ true → Both e off plus jobs n was (verdicts false false)
  both_lined q = record {
    is = λ m G c d. rw (full_of q m G, calm (turning m off plus jobs n) (full_of q m G) d (test (turning m off plus jobs n)));
  }
    where
      calm : (t : Bool) {f : Bool} → f ≡ false → (t ≡ true → f ≡ true) → Test t → t ≡ false
      calm t f d (fail q) = q
      calm t f d (pass q) = clash (d q) f

  module _ (q : l ≡ false) where
    pub both_calm : not was ≡ true → Both e off plus jobs n was (verdicts true true)
    both_calm w = record { is = λ m G c d. rw (c (not-true was w), full_of q m G) }

    pub both_turns : {t : Bool} → Turns e off plus jobs n t → Both e off plus jobs n was (verdicts t true)
    both_turns T = record { is = λ m G c d. rw (full_of q m G, T.is m G) }

-- ── of a route ──

-- no job is beyond the most
pub low_more : (n : ℕ) (l : List ℕ) → n ≤ most_jobs → all_below n l ≡ true → all_below most_jobs l ≡ true
low_more n [] h e = refl
low_more n (v ∷ l) h e =
    let (a, b) = and_true {a = ltb v n} e in
    rw (lt-ltb v most_jobs (let x = ltb-true v n a in omega arith), low_more n l h b)

-- of sets that were empty
from_blank : {G : Type 0} {p : G → Rule} {l : List Pair} {k : ℕ} {c₀ c : Chain} → Links p l k c₀ c → c₀ ≡ blank → Links p l k blank c
from_blank L e = rw e at L

pub check_both : {from to e old new : List ℕ} {n : ℕ} {oc nc off plus oc₀ nc₀ off₀ plus₀ : Chain} {was : Bool} {r : Checked}
    → Both e off plus new n was r → Links (goes_off from to nc) (neighbours old) most_entries off₀ off → off₀ ≡ blank
    → Links (comes_on e oc) (neighbours new) most_entries plus₀ plus → plus₀ ≡ blank
    → Links always (neighbours old) most_entries oc₀ oc → oc₀ ≡ blank
    → Links always (neighbours new) most_entries nc₀ nc → nc₀ ≡ blank
    → n ≤ most_jobs → all_below n new ≡ true → Checks from to e old new n was r
check_both {from} {to} {e} {old} {new} {n} {oc} {nc} {off} {plus} B lo qo lp qp loc qoc lnc qnc hn low = record {
  is = λ m fix H b r f c.
      let G = given m H b r in
      let x = full_is G fix f in
      let y = quick_is G fix f in
      B.is m (on_graph G) (λ q. y ∙ c q ∙ sym x) (quick_then_full G fix f) ∙ rw (x, y);
}
  where
    given : (m : Model) → Holds e m → Below n m → Rising from → Given from to e old new n off plus m
    given m H b r = record {
      holds = H;
      below = b;
      jobs = hn;
      low = low;
      rising = r;
      olds = oc;
      olds_are = from_blank loc qoc;
      news = nc;
      news_are = from_blank lnc qnc;
      off_are = from_blank lo qo;
      plus_are = from_blank lp qp;
    }

-- two answers that keep the promise are one
pub check_once : {from to e old new : List ℕ} {n : ℕ} {was : Bool} {r₁ r₂ : Checked} → Checks from to e old new n was r₁
    → Checks from to e old new n was r₂ → (m : Model) (fix : Graph) → Holds e m → Below n m → Rising from
    → ((u v : ℕ) → u < n → v < n → fix u v ≡ occurs (pair_up from to) u v)
    → (was ≡ false → quick_check n (on_for old new m fix) (stays_for old new m fix) ≡ full_check n (on_for old new m fix)) → r₁ ≡ r₂
check_once A B m fix H b r f c = A.is m fix H b r f c ∙ sym (B.is m fix H b r f c)

pub ruleset judging = (rules, falls_blank, low_more, both_lined, both_calm, both_turns, check_both)
