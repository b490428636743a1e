-- Laws of the blocks of a list of owners. Assumes nothing.
use Rattle.std.proofs.Common.{◌≡◌, Some, None, Ok, Err, ℕ, suc, ◌+◌, ◌-◌, ◌<◌, ◌≤◌, List, [], ◌++◌, length, get_or, drop, refl, ap, ◌∙◌, add-one, arith, drop_of_length-le, drop-cons, rules, le-ltb, lt-ltb}
use Rattle.rules.specs.declared.Block.{Block}
use Rattle.rules.specs.declared.Refusal.TheVariants.{ShortAnswer}
use Rattle.rules.specs.Graphs.{Graph}
use Rattle.edges.specs.Edges.{Model, Holds as EdgesHold}
use Rattle.graphs.specs.Graph.{live}
use Rattle.routes.specs.Store.{Model as Routes, Holds}
use Rattle.routes.specs.Handing.{Stopped}
use Rattle.blocks.specs.Arcs.{Sight, sight, scan_from, block_of, Ended, Begins}
use Rattle.blocks.specs.Overs.{row_of, Rowed, over, ahead, left, Stepped, begun, Counted}
use Rattle.blocks.specs.declared.blocks.Spot.{Spot}

-- ── `row_of` ──

pub rowed_out : (l : List ℕ) {all o : ℕ} → all ≤ o → Rowed l all o []
unfolding row_of
rowed_out l {all} {o} h = record { short = omega arith; is = λ d H. rw (le-ltb o all h) }

pub rowed_in : {l r : List ℕ} {all o : ℕ} → Stopped l o r → o < all → Rowed l all o r
unfolding row_of
rowed_in {all = all} {o} S h = record { short = S.short; is = λ d H. S.is d H ∙ rw (lt-ltb o all h) }

-- ── `step`: from place q of the route of owner j of the list on, no block stands before place p of the route of owner i ──

pub record Going (e : List ℕ) (S : Sight) (l : List ℕ) (all : ℕ) (os : List ℕ) (j q i p : ℕ) : Type 0 where
  pub fewer : left os i p ≤ left os j q
  pub is : (m : Model) (d : Routes) → EdgesHold e m → Holds l d
      → over (live m) S d all q (drop j os) ≡ over (live m) S d all p (drop i os)

pub going_none : (e : List ℕ) (S : Sight) (l : List ℕ) (all : ℕ) (os : List ℕ) (j q : ℕ) → Going e S l all os j q j q
going_none e S l all os j q = record { fewer = omega arith; is = λ m d h k. refl }

pub going_done : {e : List ℕ} {S : Sight} {l : List ℕ} {all : ℕ} {os : List ℕ} (at : Spot) {i p : ℕ} {b : Spot}
    → Going e S l all os at.owner at.place i p → length os ≤ i → b ≡ begun
    → Stepped e S l all os at (record b { owner = length os })
unfolding ahead
going_done {os = os} at G h z = record {
  fewer = λ k. let f : ⊥ = omega arith in absurd f;
  found = λ m d x y k. let f : ⊥ = omega arith in absurd f;
  done = λ m d x y k. (G.is m d x y ∙ rw (drop_of_length-le os h), rw z);
}

opened : {l : List ℕ} {all : ℕ} (os : List ℕ) (i : ℕ) {row : List ℕ} → Rowed l all (get_or os i 0) row → i < length os → (E : Graph) (S : Sight)
    (d : Routes) → Holds l d → (x : ℕ) → over E S d all x (drop i os) ≡ scan_from E S (get_or os i 0) row x ++ over E S d all 0 (drop (suc i) os)
opened os i R h E S d y x = rw (drop-cons os i 0 h, R.is d y)

module _ {e sp st c : List ℕ} {n : ℕ} {l : List ℕ} {all : ℕ} {os : List ℕ} {i p : ℕ} {row : List ℕ}
    (R : Rowed l all (get_or os i 0) row) (h : i < length os) where
  pub going_next : {j q : ℕ} → Begins c n row p None → Going e (sight sp st c n) l all os j q i p → Going e (sight sp st c n) l all os j q (i + 1) 0
  going_next F G = record {
    fewer = let z = G.fewer in omega arith;
    is = λ m d x y. G.is m d x y ∙ opened os i R h (live m) (sight sp st c n) d y p ∙ rw (add-one, F (live m) sp st (get_or os i 0));
  }

  pub going_found : (at : Spot) {a b : ℕ} {k : Block} → Begins c n row p (Some a) → Going e (sight sp st c n) l all os at.owner at.place i p
      → Ended e (sight sp st c n) row a b → k ≡ block_of (get_or os i 0) (length row) a b
      → Stepped e (sight sp st c n) l all os at (record { block = k; owner = i; place = b + 1 })
  unfolding ahead
  going_found at {a} {b} {k} (ha, F) G N ek = record {
    fewer = λ z. omega (arith, G.fewer, F.rising, N.rising, N.inside, R.short);
    found = λ m d x y z. G.is m d x y ∙ opened os i R h (live m) (sight sp st c n) d y p
        ∙ rw (add-one, opened os i R h (live m) (sight sp st c n) d y (suc b), F.is (live m) sp st (get_or os i 0), N.is m x (F.marked ha) (get_or os i 0), ek);
    done = λ m d x y z. let f : ⊥ = omega arith in absurd f;
  }

-- ── `count`: k blocks are counted, and the last of them stands at the spot ──

pub record Counting (e : List ℕ) (S : Sight) (l : List ℕ) (all : ℕ) (os : List ℕ) (at : Spot) (k : ℕ) : Type 0 where
  pub is : (m : Model) (d : Routes) → EdgesHold e m → Holds l d
      → length (ahead (live m) S d all os begun) ≡ k + length (ahead (live m) S d all os at)

pub counting_none : (e : List ℕ) (S : Sight) (l : List ℕ) (all : ℕ) (os : List ℕ) {at : Spot} → at ≡ begun → Counting e S l all os at 0
counting_none e S l all os q = record { is = λ m d h k. rw q (omega arith) }

module _ {e : List ℕ} {S : Sight} {l : List ℕ} {all : ℕ} {os : List ℕ} {at r : Spot} {k : ℕ} (N : Stepped e S l all os at r)
    (C : Counting e S l all os at k) where
  pub counting_done : {room : ℕ} → length os ≤ r.owner → k ≤ room → Counted e S l all os room (Ok k)
  counting_done {room} h few = record {
    fits = few;
    is = λ m d x y.
        let q : length (ahead (live m) S d all os begun) ≡ k = omega (arith, C.is m d x y, ap length (N.done m d x y h).0) in
        rw (q, le-ltb room k few);
  }

  pub counting_next : r.owner < length os → Counting e S l all os r (k + 1)
  counting_next h = record { is = λ m d x y. omega (arith, C.is m d x y, ap length (N.found m d x y h)) }

-- more than `room`
pub counting_more : {e : List ℕ} {S : Sight} {l : List ℕ} {all : ℕ} {os : List ℕ} {room : ℕ} {at : Spot} {k : ℕ} → Counting e S l all os at k
    → room + 1 ≤ k → Counted e S l all os room (Err ShortAnswer)
counting_more {S = S} {all = all} {os = os} {room} C h = record {
  fits = refl;
  is = λ m d x y. rw (lt-ltb room (length (ahead (live m) S d all os begun)) (omega (arith, C.is m d x y)));
}

-- what the functions of a list of owners are proved by
pub ruleset stepping = (rules, rowed_out, rowed_in, going_none, going_found, going_next, going_done, counting_none, counting_done, counting_more, counting_next)
