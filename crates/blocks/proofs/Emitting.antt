-- The records are written one after the other, and the public call's promise is kept. Assumes nothing.
use Rattle.std.proofs.Common.{◌≡◌, Result, Ok, Err, ℕ, zero, suc, ◌+◌, ◌<◌, ◌≤◌, List, [], ◌∷◌, ◌++◌, length, get_or, take, drop, set, sym, refl, ap, ◌∙◌, not-suc-le-zero, add-one, arith, length-set, length-take-le, take-suc, take_at}
use mathlib.Core.Option.{Option, none, some}
use lib.Seq.{length-sets, sets, sets-eq, take-length}
use Rattle.rules.specs.declared.Block.{Block}
use Rattle.rules.specs.declared.Plan.{Plan as Header}
use Rattle.rules.specs.declared.Refusal.{Refusal}
use Rattle.rules.specs.Routes.{State}
use Rattle.rules.specs.Blocks.{no_block}
use Rattle.rules.specs.Calls.{Reply, accepted, blocked, decide, refusal, refused, reply, step, to_blocks}
use Rattle.stores.specs.Headers.{open_of}
use Rattle.stores.specs.Promise.{Slices, call_of, lent_of, Heeds}
use Rattle.stores.proofs.Promises.{heeds_first, heeds_later}
use Rattle.blocks.specs.Promise.{BlocksDecided, BlocksPromise, Leads, NextPromise, SearchDecided, SearchPromise, records, says_blocked}
use Rattle.blocks.specs.Searches.{tally}
use Rattle.blocks.specs.declared.blocks.Found.{Found}
use Rattle.blocks.specs.declared.blocks.Spot.{Spot}
use Rattle.blocks.proofs.Searching.{finding}

-- ── i records are written, and the search goes on at the spot ──

-- one more value behind those that are set
sets_snoc : {A : Type 0} (l : List A) (k : ℕ) (vs : List A) (x : A) → sets l k (vs ++ x ∷ []) ≡ set (sets l k vs) (k + length vs) x
sets_snoc l k [] x = let z : k ≡ k + 0 = omega arith in ap (λ (j : ℕ). set l j x) z
sets_snoc l k (v ∷ vs) x =
    let z : suc k + length vs ≡ k + suc (length vs) = omega arith in
    sets_snoc (set l k v) (suc k) vs x ∙ ap (λ (j : ℕ). set (sets (set l k v) (suc k) vs) j x) z

pub record Emitting (os : List ℕ) (s : Slices) (f : Found) (ys : List Block) (i : ℕ) (at : Spot) (zs : List Block) : Type 0 where
  pub long : length zs ≡ length ys
  pub none : i ≡ 0 → zs ≡ ys
  pub written : (bs : List Block) → Leads os s f f.spot bs → f.count ≤ length bs → zs ≡ sets ys 0 (take i bs)
  pub leads : (bs : List Block) → Leads os s f f.spot bs → f.count ≤ length bs → Leads os s f at (drop i bs)

pub emitting_none : (os : List ℕ) (s : Slices) (f : Found) (ys : List Block) → Emitting os s f ys 0 f.spot ys
emitting_none os s f ys = record { long = refl; none = λ z. refl; written = λ bs L h. refl; leads = λ bs L h. L }

pub emitting_next : {os : List ℕ} {s : Slices} {f : Found} {ys : List Block} {i : ℕ} {at r : Spot} {zs : List Block}
    → Emitting os s f ys i at zs → i < f.count → NextPromise os s f at r → Emitting os s f ys (suc i) r (set zs i r.block)
emitting_next {ys = ys} {i} {at} {r} {zs} S h N = record {
  long = length-set zs i r.block ∙ S.long;
  none = λ z. let f : ⊥ = omega arith in absurd f;
  written = λ bs L k.
      let b = (finding bs i (S.leads bs L k) N).0 in
      let n : 0 + length (take i bs) ≡ i = omega (arith, length-take-le i bs (omega arith)) in
      rw (take-suc bs i no_block (omega arith), sets_snoc ys 0 (take i bs) (get_or bs i no_block), n, ← S.written bs L k, ← b);
  leads = λ bs L k. rw (add-one i) at (finding bs i (S.leads bs L k) N).1;
}

-- ── the promise ──

-- the rules refuse, or answer blocks
data Replied : Reply → Type 0 where
  no : {r : Refusal} → Replied (refused r)
  are : {bs : List Block} → Replied (blocked bs)

replied : (t : State) (os : List ℕ) (room : ℕ) (s : Slices) → Replied (reply t (call_of (to_blocks os room) s))
unfolding step accepted
replied t os room s = go (refusal t (call_of (to_blocks os room) s)) t
  where
    go : (o : Option Refusal) (t : State) → Replied (decide o t (accepted t (to_blocks os room))).reply
    go (some r) t = no
    go none none = no
    go none (some p) = are

-- the first records of a buffer that has them
records_take : (n : ℕ) (l : List Block) → n ≤ length l → records n l ≡ take n l
unfolding records
records_take zero l h = refl
records_take (suc n) [] h = absurd (not-suc-le-zero h)
records_take (suc n) (x ∷ l) h = ap {B = List Block} (λ (k : List Block). x ∷ k) (records_take n l (omega arith))

records_set : (ys bs : List Block) → length bs ≤ length ys → records (length bs) (sets ys 0 bs) ≡ bs
records_set ys bs h =
    records_take (length bs) (sets ys 0 bs) (rw (length-sets ys 0 bs) h)
    ∙ ap (take (length bs)) (sets-eq bs ys 0 (omega arith)) ∙ take_at bs _ (length bs) refl

-- a refused search writes nothing
pub kept_refused : {os : List ℕ} {s : Slices} {k : Refusal} (ys : List Block) → SearchPromise os (length ys) s (Err k)
    → BlocksPromise os s s ys ys (refused k)
kept_refused {os} {s} {k} ys P = record {
  decides = λ t h. decided t (replied t os (length ys) s) (P.decides t h) refl;
  heeds = heeding (open_of (lent_of s) s.base) refl;
}
  where
    decided : (t : State) {y : Reply} → Replied y → SearchDecided t os (length ys) s (Err k) → y ≡ reply t (call_of (to_blocks os (length ys)) s)
        → BlocksDecided t os s s ys ys (refused k)
    decided t (no {r}) D e =
        let a : Err k ≡ Err r = D.answer ∙ rw (← e) in
        let q : k ≡ r = cc in
        rw q (record { says = e; leaves = D.leaves; answers = refl })
    decided t (are {bs}) D e = absurd (let a : tally (Err k) ≡ Ok (length bs) = D.answer ∙ rw (← e) in cc)

    heeding : (h : Result Header Refusal) → h ≡ open_of (lent_of s) s.base → Heeds (to_blocks os (length ys)) s s ys ys (refused k)
    heeding (Err r) e =
        let a = P.first r (sym e) in
        let q : k ≡ r = cc in
        rw q (heeds_first (to_blocks os (length ys)) s e ys refl)
    heeding (Ok c) e = heeds_later (to_blocks os (length ys)) s e refl
        (λ j q. let i : k ≡ j = cc in rw (← i, P.later c (sym e)))
        (λ j q n. (refl, refl))

module _ {os : List ℕ} {s : Slices} {f : Found} {ys : List Block} (P : SearchPromise os (length ys) s (Ok f)) {i : ℕ} {at : Spot} {zs : List Block}
    (E : Emitting os s f ys i at zs) (full : i ≡ f.count) where
  written : (bs : List Block) → f.count ≡ length bs → (0 < f.count → Leads os s f f.spot bs) → zs ≡ sets ys 0 bs
  written [] z g = E.none (full ∙ z)
  written (b ∷ bs) z g =
      let q : i ≡ length (b ∷ bs) = full ∙ z in
      E.written (b ∷ bs) (g (omega arith)) (omega arith) ∙ rw (q, take-length (b ∷ bs))

  decided : (t : State) {y : Reply} → Replied y → SearchDecided t os (length ys) s (Ok f) → y ≡ reply t (call_of (to_blocks os (length ys)) s)
      → BlocksDecided t os s s ys zs (says_blocked zs (Ok f.count))
  decided t (no {r}) D e = absurd (let a : tally (Ok f) ≡ Err r = D.answer ∙ rw (← e) in cc)
  decided t (are {bs}) D e =
      let c : f.count ≡ length bs = D.count ∙ rw (← e) in
      let w : zs ≡ sets ys 0 bs = written bs c (λ h. rw (← e) at (D.leads h)) in
      let y : records (length bs) zs ≡ bs = ap (records (length bs)) w ∙ records_set ys bs (omega (arith, P.few)) in
      rw (c, y) (record { says = e; leaves = D.leaves; answers = w })

  says_not : (k : Refusal) → says_blocked zs (Ok f.count) ≡ refused k → ⊥
  says_not k e = let y : ◌≡◌ {A = ℕ} 0 1 = cc in omega arith

  -- of any contents
  heeding : (h : Result Header Refusal) → h ≡ open_of (lent_of s) s.base → Heeds (to_blocks os (length ys)) s s ys zs (says_blocked zs (Ok f.count))
  heeding (Err r) e = absurd (let a = P.first r (sym e) in cc)
  heeding (Ok c) e = heeds_later (to_blocks os (length ys)) s e refl (λ k q. absurd (says_not k q)) (λ k q n. absurd (says_not k q))

  pub kept : BlocksPromise os s s ys zs (says_blocked zs (Ok f.count))
  kept = record {
    decides = λ t h. decided t (replied t os (length ys) s) (P.decides t h) refl;
    heeds = heeding (open_of (lent_of s) s.base) refl;
  }
