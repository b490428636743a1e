-- Laws of pulled starts; f is each job's floor. Assumes nothing.
use Rattle.std.proofs.Common.{◌≡◌, ℕ, suc, ◌+◌, ◌%◌, ◌^◌, ◌<◌, ◌≤◌, max, Bool, true, false, List, [], ◌∷◌, length, get_or, take, drop, set, sym, refl, ap, ◌∙◌, mod-eq_of_lt, add-one, arith, get_or-set_other, length-take-le, get_or-set_same, drop-set-lt, rules, le-leb}
use borrow.Author.Tests.{lt-leb}
use Rattle.rules.specs.Graphs.{LineUp}
use Rattle.rules.specs.Lists.{memb}
use Rattle.rules.specs.Scores.{best}
use Rattle.rules.specs.Sizes.{longest, most_jobs}
use Rattle.rules.proofs.Members.{greatest_of}
use Rattle.rules.proofs.Ranges.{clash}
use Rattle.rules.proofs.Orders.{lineup_length, lineup_ranks, place_of}
use Rattle.edges.specs.Edges.{Model, Holds}
use Rattle.edges.specs.Lists.{out_of, pre_of, Predecessors}
use Rattle.graphs.specs.Graph.{at, zeros, live, Below}
use Rattle.graphs.specs.Sound.{ceiling}
use Rattle.graphs.proofs.Bridge.{linked}
use Rattle.graphs.proofs.Kahn.{memb_self, memb_later}
use Rattle.graphs.proofs.Linked.{best_list}
use Rattle.graphs.proofs.Settle as settle
use Rattle.starts.specs.Lines.{Lines}
use Rattle.starts.specs.Pulls.{reach_of, Low, Pulls, Settles, Full}
use Rattle.words.proofs.Rows.{row_cons, row_none}

-- ── reach ──

module _ (sp st : List ℕ) {n k u : ℕ} (b : ℕ) (ek : k ≡ u) where
  pub reach_out : n ≤ k → b ≡ reach_of sp st n b u
  reach_out h = rw (← ek, le-leb n k h)

  pub reach_in : {x : ℕ} → x ≡ max b ((get_or st k 0 + get_or sp k 0) % 2 ^ 64) → k < n → x ≡ reach_of sp st n b u
  reach_in e h = rw (← ek, lt-leb n k h, e)

-- ── earliest ──

-- the latest end of the jobs l, and b if that is later
unfoldable pub pulled : List ℕ → List ℕ → ℕ → ℕ → List ℕ → ℕ
pulled sp st n b [] = b
pulled sp st n b (u ∷ l) = pulled sp st n (reach_of sp st n b u) l

-- the loop: what is pulled is what is left to pull
pub pulled_next : (sp st row : List ℕ) (n w k b x : ℕ) → k < length row → x ≡ reach_of sp st n b (get_or row k 0)
    → pulled sp st n b (drop k row) ≡ w → pulled sp st n x (drop (k + 1) row) ≡ w
unfolding pulled
pulled_next sp st row n w k b x h ex i = rw ex (rw (row_cons row k h) at i)

pub pulled_done : (sp st row : List ℕ) (n w k b : ℕ) → length row ≤ k → pulled sp st n b (drop k row) ≡ w → b ≡ w
unfolding pulled
pulled_done sp st row n w k b h i = rw (row_none row k h) at i

-- good predecessors
pulled_good : (sp st : List ℕ) (n b : ℕ) (l : List ℕ) → ((u : ℕ) → memb u l ≡ true → (u < n) × (at st u ≤ ceiling) × (at sp u ≤ ceiling))
    → pulled sp st n b l ≡ max b (greatest_of (λ u. at st u + at sp u) l)
unfolding pulled
pulled_good sp st n b [] g = omega arith
pulled_good sp st n b (u ∷ l) g =
    let (x, y, z) = g u (memb_self u l) in
    let e : (at st u + at sp u) % 2 ^ 64 ≡ at st u + at sp u = mod-eq_of_lt (omega arith) in
    rw (lt-leb n u x, e) (pulled_good sp st n (max b (at st u + at sp u)) l (λ w e. g w (memb_later w u l e)) ∙ omega arith)

pub pulls_of : {e sp st row : List ℕ} {v n r : ℕ} (f : ℕ → ℕ) → n ≤ most_jobs → Predecessors e v row → r ≡ pulled sp st n (f v) row
    → Pulls e sp f st v n r
pulls_of {e} {sp} {st} {row} {v} {n} f hn P er = record {
  is = λ m h w hv low.
      let L = linked n m h.wf hn w in
      er ∙ ap (pulled sp st n (f v)) (P.is m h)
      ∙ pulled_good sp st n (f v) (pre_of m v) (λ u i. let k = L.pre_low u v hv i in let (x, y) = low u (L.both u v k hv ∙ i) in (k, x, y))
      ∙ best_list n (out_of m) (pre_of m) L f (at sp) (at st) v hv;
}

-- ── settle ──

pub zeros_low : (u : ℕ) → zeros u ≤ longest
zeros_low u = omega arith

-- the first i jobs of the order have their starts
pub record Sofar (e sp : List ℕ) (f : ℕ → ℕ) (o : List ℕ) (n i : ℕ) (s₀ s : List ℕ) : Type 0 where
  pub beyond : drop n s ≡ drop n s₀
  pub settled : (m : Model) → Holds e m → Below n m → ((u : ℕ) → u < n → at sp u ≤ longest) → LineUp n (live m) (take n o)
      → settle.Settled n (live m) f (at sp) longest longest (take n o) i (at s)

pub sofar_none : (e sp : List ℕ) (f : ℕ → ℕ) (o : List ℕ) (n : ℕ) (s : List ℕ) → Sofar e sp f o n 0 s s
sofar_none e sp f o n s = record {
  beyond = refl;
  settled = λ m h b d w. settle.settled_none n (live m) f (at sp) longest longest (take n o) (at s);
}

module _ {e sp : List ℕ} {f : ℕ → ℕ} {o : List ℕ} {n i : ℕ} {s₀ s : List ℕ} (S : Sofar e sp f o n i s₀ s) (floors : (u : ℕ) → f u ≤ longest)
    (hn : n ≤ most_jobs) where
  module _ (lo : n ≤ length o) (hj : i < length (take n o)) (ls : length s ≡ length s₀) (l₀ : n ≤ length s₀) (v : ℕ)
      (here : v ≡ get_or (take n o) i 0) where
    hi : i < n
    hi = let a = length-take-le n o lo in omega arith

    module _ (m : Model) (h : Holds e m) (b : Below n m) (d : (u : ℕ) → u < n → at sp u ≤ longest) (w : LineUp n (live m) (take n o)) where
      sofar_in : v < n
      sofar_in = rw here (w.within i (let z = hi in omega (arith, lineup_length n (live m) (take n o) w)))

      sofar_low : Low m sp s v
      sofar_low u e' =
          let hu = (b u v e').0 in
          let z = hi in
          let (p, k, l) = settle.settled_low n (live m) f (at sp) longest longest (take n o) w
          (lineup_length n (live m) (take n o) w) (λ u h. floors u) d i hi (at s) (S.settled m h b d w) u hu (rw (← here) e') in
          (omega arith, let x = d u hu in omega arith)

      next : (x : ℕ) → x ≡ best n (live m) f (at sp) (at s) v
          → settle.Settled n (live m) f (at sp) longest longest (take n o) (suc i) (at (set s v x))
      next x ex =
          settle.settled_next n (live m) f (at sp) longest longest (take n o) w (lineup_length n (live m) (take n o) w) (λ u h. floors u) d i hi
          (at s) (S.settled m h b d w) (at (set s v x))
          (rw (← here) (get_or-set_same s v x 0 (let a = sofar_in in omega arith) ∙ ex))
          (λ u k. get_or-set_other s v u x 0 (λ q. k (q ∙ here)))

    pub sofar_next : (x : ℕ) → v < n → Pulls e sp f s v n x → Sofar e sp f o n (i + 1) s₀ (set s v x)
    sofar_next x hv P = record {
      beyond = drop-set-lt n s v x hv ∙ S.beyond;
      settled = λ m h b d w. rw add-one (next m h b d w x (P.is m h b (sofar_in m h b d w) (sofar_low m h b d w)));
    }

    -- a job that is none: there is no such line_up
    pub sofar_out : n ≤ v → Settles e sp f s₀ o n s
    sofar_out k = record { beyond = S.beyond; solves = λ m h b d w. let a = sofar_in m h b d w in let z : ⊥ = omega arith in absurd z }

  pub sofar_done : n ≤ length o → i ≤ length (take n o) → length (take n o) ≤ i → Settles e sp f s₀ o n s
  sofar_done lo x y = record {
    beyond = S.beyond;
    solves = λ m h b d w.
        settle.settled_all n (live m) f (at sp) longest longest (take n o) w
        (lineup_length n (live m) (take n o) w) (λ u h. floors u) d (at s) (let a = length-take-le n o lo in let q : i ≡ n = omega arith in rw q at (S.settled m h b d w));
  }

-- ── full ──

module _ {e sp : List ℕ} {f : ℕ → ℕ} {st : List ℕ} {n : ℕ} {r : Bool} {o : List ℕ} (L : Lines e n r o) where
  pub full_none : r ≡ false → Full e sp f st n false st
  full_none q = record {
    beyond = refl;
    stays = λ z. refl;
    verdict = λ m H b. rw q at (L.is m H b);
    starts = λ z. clash z refl;
  }

  pub full_all : r ≡ true → {st' : List ℕ} → Settles e sp f st o n st' → Full e sp f st n true st'
  full_all q {st'} S = record {
    beyond = S.beyond;
    stays = λ z. clash refl z;
    verdict = λ m H b. (take n o, lined m H b);
    starts = λ z m H b d. settle.solved_start n (live m) f (at sp) (place_of (take n o)) (at st') (lineup_ranks n (live m) (take n o) (lined m H b))
        (S.solves m H b d (lined m H b));
  }
    where
      lined : (m : Model) → Holds e m → Below n m → LineUp n (live m) (take n o)
      lined m H b = rw q at (L.is m H b)

-- what the functions of lib.rt are proved by
pub ruleset pulling = (rules, reach_out, reach_in, pulled_next, pulled_done, pulls_of, sofar_none, sofar_out, sofar_next, sofar_done, zeros_low, full_all, full_none)
