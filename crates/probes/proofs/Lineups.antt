-- The line_up over what is on: by how many edges lead to each job. Assumes nothing.
use Rattle.std.proofs.Common.{◌≡◌, ℕ, suc, ◌+◌, ◌<◌, ◌≤◌, false, eqb, List, [], ◌∷◌, length, get_or, take, replicate, sym, ◌∙◌, append-nil, add-one, arith, length-take-le, get_or-take, rules, eqb-true}
use lib.ListN.{get_or-replicate}
use borrow.Author.Tests.{eqb-false}
use Rattle.rules.specs.Lists.{is_some, memb}
use Rattle.rules.specs.Shown.{order}
use Rattle.rules.specs.Sizes.{most_jobs}
use Rattle.rules.proofs.Orders.{lineup_answered}
use Rattle.rules.proofs.Ranges.{Test, count_le, fail, pass, test}
use Rattle.edges.specs.Edges.{Model}
use Rattle.graphs.specs.Degrees.{Kahn}
use Rattle.graphs.specs.Graph.{at}
use Rattle.graphs.proofs.Kahn as kahn
use Rattle.graphs.proofs.Linked.{Linked}
use Rattle.starts.specs.Lines.{Enters, Tells}
use Rattle.starts.proofs.Lining as lining
use Rattle.probes.specs.Aheads.{Sees}
use Rattle.probes.specs.Fulls.{Begins, Lines, OnGraph, Tallied, on_edge, on_outs, pres_of}
use Rattle.probes.proofs.Listing.{linked_pres, pres_length}
use Rattle.probes.specs.declared.chain.Chain.{Chain}

-- ── those to which none leads ──

pub begins_none : (c : List ℕ) (n : ℕ) (o d : List ℕ) → Begins c n 0 0 o d
begins_none c n o d = record { short = omega arith; keeps = λ out T. kahn.kahn_none (pres_of out n) (at d) }

module _ {c : List ℕ} {n v tail : ℕ} {o d : List ℕ} (B : Begins c n v tail o d) where
  module _ (hv : v < n) {k : ℕ} (ek : k ≡ get_or c v 0) where
    pub begins_next : {x : ℕ} {o' d' : List ℕ} → Enters v k tail o d x o' d' → Begins c n (v + 1) x o' d'
    begins_next E = record {
      short = E.short;
      keeps = λ out T. rw add-one (E.keeps (pres_of out n) (ek ∙ T v hv ∙ sym (pres_length out n v)) (B.keeps out T));
    }

    -- what no calls could have left
    pub begins_far : most_jobs < k → n ≤ most_jobs → Begins c n n tail o d
    begins_far h hn = record {
      short = let a = B.short in omega arith;
      keeps = λ out T. let a = T v hv in let b = count_le n (λ u. memb v (out u)) in absurd (let f : ⊥ = omega arith in f);
    }

  pub begins_all : v ≤ n → n ≤ v → Begins c n n tail o d
  begins_all a b = let q : v ≡ n = omega arith in rw q at B

pub ruleset beginning = (rules, begins_none, begins_next, begins_far, begins_all)

-- ── the heads in turn ──

-- once those that are left are told, all are
pub record Telling (all : List ℕ) (start : ℕ) (o₀ d₀ left : List ℕ) (tail : ℕ) (o d : List ℕ) : Type 0 where
  pub rest : (r : ℕ) (o' d' : List ℕ) → Tells left tail o d r o' d' → Tells all start o₀ d₀ r o' d'

pub telling_none : (l : List ℕ) (start : ℕ) (o d : List ℕ) → Telling l start o d l start o d
telling_none l start o d = record { rest = λ r o' d' T. T }

module _ {all : List ℕ} {start : ℕ} {o₀ d₀ left : List ℕ} {tail : ℕ} {o d : List ℕ} (L : Telling all start o₀ d₀ left tail o d) where
  pub telling_next : {v : ℕ} {left' : List ℕ} → left ≡ v ∷ left' → {t : ℕ} {o' d' : List ℕ} → Tells (v ∷ []) tail o d t o' d'
      → Telling all start o₀ d₀ left' t o' d'
  telling_next {v} {left'} q T = record {
    rest = λ r o' d' U. L.rest r o' d' (rw q
        ((lining.telling_next (lining.telling_none (v ∷ left') tail o d) (omega arith) T).rest r o' d' U));
  }

  pub telling_done : left ≡ [] → tail ≤ most_jobs → Tells all start o₀ d₀ tail o d
  telling_done q s = L.rest tail o d (rw q (lining.telling_done (lining.telling_none [] tail o d) (omega arith) s))

pub ruleset telling = (rules, telling_none, telling_next, telling_done)

-- ── the order is passed ──

-- `tail` jobs are placed, and the first h of them passed
pub record Lined (e : List ℕ) (off plus : Chain) (n h tail : ℕ) (o d : List ℕ) : Type 0 where
  pub short : tail ≤ most_jobs
  pub keeps : (m : Model) → OnGraph e off plus n m → Kahn (pres_of (on_outs m off plus) n) n (take tail o) h [] (at d)

pub lined_none : {e : List ℕ} {off plus : Chain} {c : List ℕ} {n tail : ℕ} {o d : List ℕ} → Begins c n n tail o d → Tallied e off plus n n (replicate most_jobs 0) c
    → n ≤ most_jobs → Lined e off plus n 0 tail o d
lined_none {off = off} {plus = plus} B T hn = record {
  short = let a = B.short in omega arith;
  keeps = λ m G. B.keeps (on_outs m off plus) (λ w h. T.is m G (λ x l. get_or-replicate {A = ℕ} most_jobs x 0 0 l) w (omega arith));
}

on_linked : {e : List ℕ} {off plus : Chain} {n : ℕ} {m : Model} → OnGraph e off plus n m → Linked n (on_outs m off plus) (pres_of (on_outs m off plus) n)
on_linked {n = n} G = linked_pres n _ G.once G.low

module _ {e : List ℕ} {off plus : Chain} {n head tail : ℕ} {o d : List ℕ} (L : Lined e off plus n head tail o d) (lo : length o ≡ most_jobs) where
  size : length (take tail o) ≡ tail
  size = length-take-le tail o (let a = L.short in omega arith)

  module _ (hh : head < tail) {u : ℕ} (eu : u ≡ get_or o head 0) where
    placed : u ≡ get_or (take tail o) head 0
    placed = eu ∙ sym (get_or-take tail o head 0 hh)

    long : head < length (take tail o)
    long = omega (arith, size)

    inside : (m : Model) → OnGraph e off plus n m → u < n
    inside m G = rw placed ((L.keeps m G).low (get_or (take tail o) head 0) (kahn.memb_get_or (take tail o) head long))

    -- what no calls could have left
    pub lined_out : n ≤ u → Lines e off plus n false
    lined_out h = record { is = λ m G. absurd (let f : ⊥ = (let a = inside m G in omega arith) in f) }

  module _ (hh : tail ≤ head) (m : Model) (G : OnGraph e off plus n m) where
    abbrev out : ℕ → List ℕ
    out = on_outs m off plus

    at_end : Kahn (pres_of out n) n (take tail o) (length (take tail o)) [] (at d)
    at_end = let K = L.keeps m G in let q : head ≡ length (take tail o) = (let a = K.head in omega (arith, size)) in rw q at K

    judged : Test (eqb tail n) → eqb tail n ≡ is_some (order n (on_edge m off plus))
    judged (pass q) =
        let (l, x, y) = lineup_answered n (on_edge m off plus) (take tail o)
        (kahn.kahn_all n out (pres_of out n) (on_linked G) (take tail o) (at d) at_end (size ∙ eqb-true tail n q)) in
        rw (q, x)
    judged (fail q) =
        let z = kahn.circuit_none n (on_edge m off plus) (kahn.kahn_stuck n out (pres_of out n) (on_linked G) (take tail o) (at d) at_end
        (let a = kahn.kahn_short n (pres_of out n) at_end in let s = size in omega (arith, eqb-false tail n q))) in
        rw (q, z)

  pub lined_done : tail ≤ head → Lines e off plus n (eqb tail n)
  lined_done hh = record { is = λ m G. judged hh m G (test (eqb tail n)) }

module _ {e : List ℕ} {off plus : Chain} {l : List ℕ} {n head tail u r : ℕ} {o d o' d' : List ℕ} (T : Tells l tail o d r o' d')
    (L : Lined e off plus n head tail o d) (S : Sees e off plus u l) (eu : u ≡ get_or o head 0) (hh : head < tail) (hn : n ≤ most_jobs)
    (lo : length o ≡ most_jobs) where
  step : (m : Model) → OnGraph e off plus n m → Kahn (pres_of (on_outs m off plus) n) n (take r o') (suc head) [] (at d')
  step m G =
      let out = on_outs m off plus in
      let N = on_linked G in
      let low = inside L lo hh eu m G in
      let K : Kahn (pres_of out n) n (take tail o) (suc head) (out u) (at d) = rw (placed L lo hh eu)
      (kahn.kahn_begin n out (pres_of out n) N (take tail o) head (at d) (L.keeps m G) (long L lo hh eu)) in
      let s : l ≡ out u = S.is m G.holds in
      T.keeps (pres_of out n) n (suc head) [] hn (rw (append-nil, s) (N.out_once u low)) (rw s (λ v x. N.out_low u v low x))
      (rw (append-nil, s) K)

  pub lined_next : Lined e off plus n (head + 1) r o' d'
  lined_next = record { short = T.short; keeps = λ m G. rw add-one (step m G) }

pub ruleset lining_up = (rules, lined_none, lined_out, lined_next, lined_done)
