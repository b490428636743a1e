-- Laws of latest starts and of critical jobs. Assumes nothing.
use Rattle.std.proofs.Common.{◌≡◌, ℕ, suc, ◌+◌, ◌-◌, ◌<◌, ◌≤◌, min, Bool, true, false, eqb, ◌⊎◌, List, [], ◌∷◌, length, get_or, take, drop, set, sym, refl, ap, ◌∙◌, inl, inr, arith, get_or-set_other, get_or-take, get_or-set_same, rules, eq-eqb, ne_eqb, le-leb}
use borrow.Author.Tests.{lt-leb}
use Rattle.rules.specs.Graphs.{Graph, LineUp}
use Rattle.rules.specs.Lists.{is_some, least, memb, tick}
use Rattle.rules.proofs.Latest.{latest_solves, least_list, least_same, least_of}
use Rattle.rules.proofs.Orders.{lineup_length, lineup_ranks, place_of}
use Rattle.rules.proofs.Ranges.{same}
use Rattle.rules.proofs.Verdicts.{no_order}
use Rattle.edges.specs.Edges.{Model, Holds}
use Rattle.edges.specs.Lists.{out_of, Successors}
use Rattle.graphs.specs.Graph.{at, live, Below}
use Rattle.graphs.proofs.Kahn.{memb_self, memb_later}
use Rattle.starts.specs.Lines.{Lines}
use Rattle.words.proofs.Rows.{row_cons, row_none}
use Rattle.blocks.specs.Latests.{lower_of, Late, latest_of, Latests, Criticals}

-- ── `lower` ──

module _ (late : List ℕ) (n b : ℕ) {w k : ℕ} (ek : k ≡ w) where
  pub lower_out : n ≤ k → b ≡ lower_of late n b w
  unfolding lower_of
  lower_out h = rw (← ek, le-leb n k h)

  pub lower_in : {x : ℕ} → k < n → x ≡ min (at late k) b → x ≡ lower_of late n b w
  unfolding lower_of
  lower_in h ex = rw (← ek, lt-leb n k h) ex

-- ── `latest`: what is found is what is left to find ──

-- the least latest start of the jobs l, and b if that is less
unfoldable pub lowest : List ℕ → ℕ → ℕ → List ℕ → ℕ
lowest late n b [] = b
lowest late n b (w ∷ l) = lowest late n (lower_of late n b w) l

pub lowest_next : (late row : List ℕ) (n w k b x : ℕ) → k < length row → x ≡ lower_of late n b (get_or row k 0)
    → lowest late n b (drop k row) ≡ w → lowest late n x (drop (k + 1) row) ≡ w
unfolding lowest
lowest_next late row n w k b x h ex i = rw ex (rw (row_cons row k h) at i)

lowest_all : (late row : List ℕ) (n w k b : ℕ) → length row ≤ k → lowest late n b (drop k row) ≡ w → b ≡ w
unfolding lowest
lowest_all late row n w k b h i = rw (row_none row k h) at i

least_min : (f : ℕ → ℕ) (x b : ℕ) (l : List ℕ) → least_of f (min x b) l ≡ min x (least_of f b l)
least_min f x b [] = refl
least_min f x b (v ∷ l) = let a = least_min f x b l in omega arith

-- good successors
lowest_good : (late : List ℕ) (n b : ℕ) (l : List ℕ) → ((w : ℕ) → memb w l ≡ true → w < n)
    → lowest late n b l ≡ least_of (at late) b l
unfolding lowest lower_of
lowest_good late n b [] f = refl
lowest_good late n b (w ∷ l) f =
    rw (lt-leb n w (f w (memb_self w l)))
    (lowest_good late n (min (at late w) b) l (λ u e. f u (memb_later u w l e)) ∙ least_min (at late) (at late w) b l)

pub latest_done : {e sp late row : List ℕ} {v n top k r : ℕ} (low : ℕ) → Successors e v row
    → lowest late n low (drop k row) ≡ lowest late n top row → length row ≤ k → r ≡ low - at sp v → Late e sp late v n top r
latest_done {e} {sp} {late} {row} {v} {n} {top} {k} low S i h er = record {
  is = λ m hm b.
      let q : low ≡ least n (live m v) (at late) top =
      lowest_all late row n _ k low h i ∙ ap (lowest late n top) (S.is m hm)
      ∙ lowest_good late n top (out_of m v) (λ u z. (b v u z).1)
      ∙ least_list n (live m v) (at late) top (out_of m v) (λ u z. ((b v u z).1, z)) (λ u y z. z) in
      er ∙ ap (λ (x : ℕ). x - at sp v) q;
}

-- ── `latests` ──

-- of the jobs from place i of the order on, the table t has what f says
abbrev Filled : (ℕ → ℕ) → List ℕ → ℕ → List ℕ → Type 0
Filled f o i t = (j : ℕ) → i ≤ j → j < length o → at t (get_or o j 0) ≡ f (get_or o j 0)

filled_next : {n : ℕ} {E : Graph} {o : List ℕ} → LineUp n E o → (f : ℕ → ℕ) (t : List ℕ) {i v x : ℕ} → i < length o → v ≡ get_or o i 0
    → v < length t → x ≡ f v → Filled f o (suc i) t → Filled f o i (set t v x)
filled_next {o = o} w f t {i} {v} {x} hi ev hv ex F j h k = go (same j i)
  where
    go : (j ≡ i) ⊎ (j ≡ i → ⊥) → at (set t v x) (get_or o j 0) ≡ f (get_or o j 0)
    go (inl z) = rw (z, ← ev) (get_or-set_same t v x 0 hv ∙ ex)
    go (inr z) = get_or-set_other t v (get_or o j 0) x 0 (λ y. z (w.once j i k hi (y ∙ ev))) ∙ F j (omega arith) k

filled_all : {n : ℕ} {E : Graph} {o : List ℕ} → LineUp n E o → (f : ℕ → ℕ) (t : List ℕ) → Filled f o 0 t → (v : ℕ) → v < n → at t v ≡ f v
filled_all w f t F v h = let (j, a, q) = w.all v h in rw q at (F j (omega arith) a)

abbrev mark_of : Model → List ℕ → List ℕ → ℕ → ℕ → ℕ → ℕ
mark_of m sp st n top v = tick (eqb (at st v) (latest_of m sp n top v)) 0

-- the jobs from place i of the order on have their latest starts and their marks
pub record Later (e sp st o : List ℕ) (n top i : ℕ) (late c : List ℕ) : Type 0 where
  pub starts : (m : Model) → Holds e m → Below n m → LineUp n (live m) (take n o) → Filled (latest_of m sp n top) (take n o) i late
  pub marks : (m : Model) → Holds e m → Below n m → LineUp n (live m) (take n o) → Filled (mark_of m sp st n top) (take n o) i c

pub later_none : (e sp st o : List ℕ) (n top : ℕ) (late c : List ℕ) → Later e sp st o n top n late c
later_none e sp st o n top late c = record {
  starts = λ m h b w j y k. let f : ⊥ = omega (arith, lineup_length n (live m) (take n o) w) in absurd f;
  marks = λ m h b w j y k. let f : ⊥ = omega (arith, lineup_length n (live m) (take n o) w) in absurd f;
}

module _ {e sp st o : List ℕ} {n top i : ℕ} {late c : List ℕ} (S : Later e sp st o n top i late c) where
  pub later_done : i ≤ 0 → Latests e sp st o n top c
  later_done z = record {
    are = λ m h b w. let q : i ≡ 0 = omega arith in filled_all w (mark_of m sp st n top) c (rw q at (S.marks m h b w));
  }

  module _ (hi : 0 < i) (hn : i ≤ n) {v : ℕ} (ev : v ≡ get_or o (i - 1) 0) where
    before : suc (i - 1) ≡ i
    before = omega arith

    here : v ≡ get_or (take n o) (i - 1) 0
    here = ev ∙ sym (get_or-take n o (i - 1) 0 (omega arith))

    module _ (m : Model) (h : Holds e m) (b : Below n m) (w : LineUp n (live m) (take n o)) where
      long : i - 1 < length (take n o)
      long = omega (arith, lineup_length n (live m) (take n o) w)

      inside : v < n
      inside = rw here (w.within (i - 1) long)

      -- a successor stands behind, and its latest start is there
      settled : (u : ℕ) → u < n → live m v u ≡ true → at late u ≡ latest_of m sp n top u
      settled u hu l =
          let (p, a, q) = w.all u hu in
          let y = w.forward (i - 1) p long a (rw (← here, q) l) in
          rw q at (S.starts m h b w p (omega arith) a)

      latest_is : {x : ℕ} → Late e sp late v n top x → x ≡ latest_of m sp n top v
      latest_is L =
          L.is m h b
          ∙ ap (λ (y : ℕ). y - at sp v) (least_same n (live m v) (at late) (latest_of m sp n top) top settled)
          ∙ sym (latest_solves n (live m) (at sp) top (place_of (take n o)) (lineup_ranks n (live m) (take n o) w) v inside)

    -- a job that is none: there is no such line_up
    pub later_out : n ≤ v → Latests e sp st o n top c
    later_out k = record { are = λ m h b w. let f : ⊥ = omega (arith, inside m h b w) in absurd f }

    pub later_next : {x y : ℕ} → Late e sp late v n top x → y ≡ tick (eqb (at st v) x) 0 → v < n → (late₀ c₀ : List ℕ)
        → length late ≡ length late₀ → n ≤ length late₀ → length c ≡ length c₀ → n ≤ length c₀
        → Later e sp st o n top (i - 1) (set late v x) (set c v y)
    later_next {x} {y} L ey hv late₀ c₀ kl hl kc hc = record {
      starts = λ m h b w. filled_next w (latest_of m sp n top) late (long m h b w) here (omega arith) (latest_is m h b w L)
          (rw (← before) at (S.starts m h b w));
      marks = λ m h b w. filled_next w (mark_of m sp st n top) c (long m h b w) here (omega arith)
          (ey ∙ ap (λ (z : ℕ). tick (eqb (at st v) z) 0) (latest_is m h b w L)) (rw (← before) at (S.marks m h b w));
    }

-- ── `critical` ──

pub critical_all : {e sp st o : List ℕ} {n top : ℕ} {c : List ℕ} {r : Bool} → Lines e n r o → Latests e sp st o n top c → r ≡ true
    → Criticals e sp st top n c
critical_all U A q = record { are = λ m h b l w. A.are m h b (rw q at (U.is m h b)) }

-- without a line_up there is nothing to say
pub critical_none : {e sp st o : List ℕ} {n top : ℕ} {c : List ℕ} {r : Bool} → Lines e n r o → r ≡ false → Criticals e sp st top n c
critical_none {n = n} U q = record {
  are = λ m h b l w. absurd ((no_order n (live m)).0 (ap is_some (rw q at (U.is m h b))) l w);
}

-- what the functions of critical jobs are proved by
pub ruleset settling = (rules, lower_out, lower_in, lowest_next, latest_done, later_none, later_out, later_next, later_done, critical_all, critical_none)
