-- Blocks against their sentence. The answered blocks tile the places of a route: at a place either a block begins, a longest run or a
-- critical place alone, and the tiling goes on behind its last place; or the place is on no arc and not critical, and is left out.
-- From that follow: each answered block is one by the sentence, each by the sentence is answered, each place lies in at most one, and they
-- come in rising order. Assumes nothing.
use Prim.Native.Nat.{ℕ, zero, suc, ◌+◌, ◌≤◌, ◌<◌}
use mathlib.Core.Path.{◌≡◌, refl, sym, ap, subst, ◌∙◌}
use mathlib.Core.Bool.{Bool, true, false}
use mathlib.Core.Logic.{◌⊎◌, inl, inr, ⊎_elim}
use mathlib.Core.List.{List, [], ◌∷◌, ◌++◌, append-nil}
use native.Mathlib.Omega.{arith}
use native.Mathlib.Nat.{not-suc-le-zero}
use lib.Dec.{ltb}
use lib.ListN.{length, get_or, drop, length-drop}
use lib.Seq.{get_or-drop, drop-drop}
use borrow.Author.Tests.{ltb-true, ltb-false, lt-ltb, le-ltb}
use Rattle.rules.specs.declared.Block.{Block}
use Rattle.rules.specs.Blocks.{IsBlock, PlanBlock, Run, arc, arc_at, blocks, blocks_of, blocks_over, critical, ends, no_block, plan_block, scan}
use Rattle.rules.specs.Graphs.{Graph}
use Rattle.rules.specs.Lists.{first}
use Rattle.rules.specs.Routes.{Plan, jobs_of, live, route_of}
use Rattle.rules.specs.Scores.{is_cyclic}
use Rattle.rules.proofs.Ranges.{Test, and_true, below, clash, fail, lt_or_le, pass, same, test}

-- ── runs in a list ──

module _ (arcs : Graph) (l : List ℕ) where
  -- two longest runs that share a place are one
  run_last : {a b c d i : ℕ} → Run arcs l a b → Run arcs l c d → a ≤ i → i ≤ b → c ≤ i → i ≤ d → b ≤ d
  run_last {a} {b} {c} {d} {i} R S h j k m = ⊎_elim
      (λ (x : d < b). clash (R.whole d (omega arith) x) S.ceases) (λ (x : b ≤ d). x) (lt_or_le d b)

  run_first : {a b c d i : ℕ} → Run arcs l a b → Run arcs l c d → a ≤ i → i ≤ b → c ≤ i → i ≤ d → a ≤ c
  run_first {a} {b} {c} {d} {i} R S h j k m = look a refl
    where
      look : (x : ℕ) → a ≡ x → a ≤ c
      look zero q = omega arith
      look (suc x) q = ⊎_elim
          (λ (y : c < a). clash (S.whole x (omega arith) (omega arith)) (R.begins x (sym q))) (λ (y : a ≤ c). y) (lt_or_le c a)

  pub run_same : {a b c d : ℕ} (i : ℕ) → Run arcs l a b → Run arcs l c d → a ≤ i → i ≤ b → c ≤ i → i ≤ d → (a ≡ c) × (b ≡ d)
  run_same i R S h j k m =
      let p = run_first R S h j k m in
      let q = run_first S R k m h j in
      let r = run_last R S h j k m in
      let s = run_last S R k m h j in
      (omega arith, omega arith)

-- ── the scan ──

drop_in : (l : List ℕ) (now a : ℕ) (m : List ℕ) → drop now l ≡ a ∷ m
    → (now < length l) × (get_or l now 0 ≡ a) × (drop (suc now) l ≡ m) × (length l ≡ now + suc (length m))
drop_in l now a m e =
    let n = ap length e in
    let d = length-drop now l in
    let z : now + 0 ≡ now = omega arith in
    let y : now + 1 ≡ suc now = omega arith in (
      omega arith,
      ap (λ (i : ℕ). get_or l i 0) (sym z) ∙ sym (get_or-drop now l 0 0) ∙ ap (λ (x : List ℕ). get_or x 0 0) e,
      ap (λ (i : ℕ). drop i l) (sym y) ∙ sym (drop-drop 1 now l) ∙ ap (drop 1) e,
      omega arith,
    )

arc_here : (arcs : Graph) (l : List ℕ) (now : ℕ) {a b : ℕ} → suc now < length l → get_or l now 0 ≡ a → get_or l (suc now) 0 ≡ b
    → arc_at arcs l now ≡ arcs a b
arc_here arcs l now h p q = rw (lt-ltb (suc now) (length l) h, p, q)

arc_last : (arcs : Graph) (l : List ℕ) (now : ℕ) → length l ≤ suc now → arc_at arcs l now ≡ false
arc_last arcs l now h = rw (le-ltb (suc now) (length l) h)

-- place x lies in one of the blocks
pub record Covered (bs : List Block) (x : ℕ) : Type 0 where
  pub number : ℕ
  pub in_list : number < length bs
  pub from : (get_or bs number no_block).first ≤ x
  pub to : x ≤ (get_or bs number no_block).last

covered_later : {bs : List Block} {x : ℕ} (b : Block) → Covered bs x → Covered (b ∷ bs) x
covered_later b C = record { number = suc C.number; in_list = let a = C.in_list in omega arith; from = C.from; to = C.to }

module _ (crit : ℕ → Bool) (arcs : Graph) (l : List ℕ) where
  -- a place on no run whose job is not critical: in no block
  pub record Bare (i : ℕ) : Type 0 where
    pub run : Run arcs l i i
    pub idle : crit (get_or l i 0) ≡ false

  module _ (o size : ℕ) where
    abbrev pub block_of : ℕ → ℕ → Block
    block_of first last = record { owner = o; first = first; last = last; length = size }

    -- the blocks of the places from i on
    pub data Tiled : ℕ → List Block → Type 0 where
      tiled_end : {i : ℕ} → length l ≡ i → Tiled i []
      tiled_block : {i j : ℕ} {bs : List Block} → IsBlock crit arcs l i j → Tiled (suc j) bs → Tiled i (block_of i j ∷ bs)
      tiled_bare : {i : ℕ} {bs : List Block} → Bare i → Tiled (suc i) bs → Tiled i bs

    -- the run from `from` has come as far as `now`
    record Open (from now : ℕ) : Type 0 where
      rising : from ≤ now
      whole : (i : ℕ) → from ≤ i → i < now → arc_at arcs l i ≡ true
      begins : (i : ℕ) → suc i ≡ from → arc_at arcs l i ≡ false

    -- and ends there
    close : {from now : ℕ} {bs : List Block} (a : ℕ) → now < length l → get_or l now 0 ≡ a → arc_at arcs l now ≡ false → Open from now
        → Tiled (suc now) bs → Tiled from (ends crit o size from now a ++ bs)
    close {from} {now} {bs} a h e f O T = look (test (ltb from now)) (test (crit a))
      where
        R : Run arcs l from now
        R = record { rising = O.rising; within = h; whole = O.whole; begins = O.begins; ceases = f }

        look : Test (ltb from now) → Test (crit a) → Tiled from (ends crit o size from now a ++ bs)
        look (pass x) y =
            rw x (tiled_block (record { run = R; alone = λ q. let z = ltb-true from now x in let k : ⊥ = omega arith in absurd k }) T)
        look (fail x) (pass y) = rw (x, y) (tiled_block (record { run = R; alone = λ q. rw (q, e) y }) T)
        look (fail x) (fail y) =
            let q : now ≡ from = (let z = ltb-false from now x in let w = O.rising in omega arith) in
            let B : Bare from = record { run = subst (λ (i : ℕ). Run arcs l from i) q R; idle = rw (← q, e) y } in
            rw (x, y) (tiled_bare B (subst (λ (i : ℕ). Tiled (suc i) bs) q T))

    tile : (from now a : ℕ) (m : List ℕ) → drop now l ≡ a ∷ m → Open from now → Tiled from (scan crit arcs o size from now (a ∷ m))
    tile from now a [] e O =
        let (h, b, c, n) = drop_in l now a [] e in
        subst (Tiled from) (append-nil (ends crit o size from now a))
        (close a h b (arc_last arcs l now (omega arith)) O (tiled_end (omega arith)))
    tile from now a (b ∷ m) e O =
        let (h, f, c, n) = drop_in l now a (b ∷ m) e in
        let (i, g, d, k) = drop_in l (suc now) b m c in
        look h f i g (test (arcs a b)) (λ P. tile from (suc now) b m c P) (λ P. tile (suc now) (suc now) b m c P)
      where
        look : now < length l → get_or l now 0 ≡ a → suc now < length l → get_or l (suc now) 0 ≡ b → Test (arcs a b)
            → (Open from (suc now) → Tiled from (scan crit arcs o size from (suc now) (b ∷ m)))
            → (Open (suc now) (suc now) → Tiled (suc now) (scan crit arcs o size (suc now) (suc now) (b ∷ m)))
            → Tiled from (scan crit arcs o size from now (a ∷ b ∷ m))
        look h f i g (pass x) same_run next_run = rw x (same_run (record {
          rising = let w = O.rising in omega arith;
          whole = λ j u v. ⊎_elim (λ (w : j < now). O.whole j u w) (λ (q : j ≡ now). rw q (arc_here arcs l now i f g ∙ x)) (below v);
          begins = O.begins;
        }))
        look h f i g (fail x) same_run next_run = rw x (close a h f (arc_here arcs l now i f g ∙ x) O (next_run (record {
          rising = omega arith;
          whole = λ j u v. let k : ⊥ = omega arith in absurd k;
          begins = λ j q. (let r : j ≡ now = omega arith in rw r (arc_here arcs l now i f g ∙ x));
        })))

    pub scan_tiled : Tiled 0 (scan crit arcs o size 0 0 l)
    scan_tiled = look l refl
      where
        look : (k : List ℕ) → l ≡ k → Tiled 0 (scan crit arcs o size 0 0 k)
        look [] e = tiled_end (ap length e)
        look (a ∷ m) e = tile 0 0 a m e (record {
          rising = omega arith;
          whole = λ i u v. absurd (not-suc-le-zero v);
          begins = λ i q. let k : ⊥ = omega arith in absurd k;
        })

    apart : {i j : ℕ} → IsBlock crit arcs l i j → Bare i → ⊥
    apart {i} {j} B C =
        let (p, q) = run_same arcs l i B.run C.run (omega arith) B.run.rising (omega arith) (omega arith) in
        clash (B.alone (sym q)) C.idle

    ended : {i j : ℕ} → length l ≡ i → Run arcs l i j → ⊥
    ended e R = let a = R.rising in let b = R.within in omega arith

    -- the tiling is the only one
    pub tiled_only : {i : ℕ} {bs cs : List Block} → Tiled i bs → Tiled i cs → bs ≡ cs
    tiled_only (tiled_end e) (tiled_end f) = refl
    tiled_only (tiled_end e) (tiled_block B T) = absurd (ended e B.run)
    tiled_only (tiled_end e) (tiled_bare B T) = absurd (ended e B.run)
    tiled_only (tiled_block B S) (tiled_end e) = absurd (ended e B.run)
    tiled_only {i} (tiled_block {j = j} {bs = bs} B S) (tiled_block {j = k} {bs = cs} C T) =
        let (p, q) = run_same arcs l i B.run C.run (omega arith) B.run.rising (omega arith) C.run.rising in
        ap {B = List Block} (λ (x : ℕ). block_of i x ∷ bs) q
        ∙ ap {B = List Block} (λ (x : List Block). block_of i k ∷ x) (tiled_only S (subst (λ (x : ℕ). Tiled (suc x) cs) (sym q) T))
    tiled_only (tiled_block B S) (tiled_bare C T) = absurd (apart B C)
    tiled_only (tiled_bare B S) (tiled_end e) = absurd (ended e B.run)
    tiled_only (tiled_bare B S) (tiled_block C T) = absurd (apart C B)
    tiled_only (tiled_bare B S) (tiled_bare C T) = tiled_only S T

    -- ── what a tiling tells of its blocks ──

    record Good (i : ℕ) (b : Block) : Type 0 where
      behind : i ≤ b.first
      is : IsBlock crit arcs l b.first b.last
      names : b ≡ block_of b.first b.last

    good_later : {i j : ℕ} {b : Block} → i ≤ j → Good j b → Good i b
    good_later h G = record { behind = let a = G.behind in omega arith; is = G.is; names = G.names }

    tiled_sound : {i : ℕ} {bs : List Block} → Tiled i bs → (k : ℕ) → k < length bs → Good i (get_or bs k no_block)
    tiled_sound (tiled_end e) k h = absurd (not-suc-le-zero h)
    tiled_sound (tiled_block B T) zero h = record { behind = omega arith; is = B; names = refl }
    tiled_sound (tiled_block B T) (suc k) h = let a = B.run.rising in good_later (omega arith) (tiled_sound T k (omega arith))
    tiled_sound (tiled_bare B T) k h = good_later (omega arith) (tiled_sound T k h)

    tiled_rising : {i : ℕ} {bs : List Block} → Tiled i bs → (j k : ℕ) → j < k → k < length bs
        → (get_or bs j no_block).last < (get_or bs k no_block).first
    tiled_rising (tiled_end e) j k h m = absurd (not-suc-le-zero m)
    tiled_rising (tiled_block B T) j zero h m = absurd (not-suc-le-zero h)
    tiled_rising (tiled_block B T) zero (suc k) h m = (tiled_sound T k (omega arith)).behind
    tiled_rising (tiled_block B T) (suc j) (suc k) h m = tiled_rising T j k (omega arith) (omega arith)
    tiled_rising (tiled_bare B T) j k h m = tiled_rising T j k h m

    tiled_places : {i : ℕ} {bs : List Block} → Tiled i bs → (x : ℕ) → i ≤ x → x < length l → Covered bs x ⊎ Bare x
    tiled_places (tiled_end e) x h m = let k : ⊥ = omega arith in absurd k
    tiled_places (tiled_block {i = i} {j = j} {bs = bs} B T) x h m = look (lt_or_le j x) (λ k. tiled_places T x k m)
      where
        look : (j < x) ⊎ (x ≤ j) → (suc j ≤ x → Covered bs x ⊎ Bare x) → Covered (block_of i j ∷ bs) x ⊎ Bare x
        look (inl k) ih = ⊎_elim (λ (C : Covered bs x). inl (covered_later (block_of i j) C)) (λ (C : Bare x). inr C) (ih k)
        look (inr k) ih = inl (record { number = 0; in_list = omega arith; from = h; to = k })
    tiled_places {bs = bs} (tiled_bare {i = i} B T) x h m = look (same x i) (λ k. tiled_places T x k m)
      where
        look : (x ≡ i) ⊎ (x ≡ i → ⊥) → (suc i ≤ x → Covered bs x ⊎ Bare x) → Covered bs x ⊎ Bare x
        look (inl q) ih = inr (rw q B)
        look (inr q) ih = ih (omega arith)

    -- ── the scan against the sentence ──

    abbrev pub answered : List Block
    answered = scan crit arcs o size 0 0 l

    abbrev pub nth : ℕ → Block
    nth k = get_or answered k no_block

    -- every answered block is a longest run, or a critical place on no run
    pub scan_sound : (k : ℕ) → k < length answered
        → IsBlock crit arcs l (nth k).first (nth k).last × (nth k ≡ block_of (nth k).first (nth k).last)
    scan_sound k h = let G = tiled_sound scan_tiled k h in (G.is, G.names)

    -- they come in rising order
    pub scan_rising : (j k : ℕ) → j < k → k < length answered → (nth j).last < (nth k).first
    scan_rising = tiled_rising scan_tiled

    -- so a place lies in at most one
    pub scan_once : {x : ℕ} (C D : Covered answered x) → C.number ≡ D.number
    scan_once {x} C D =
        let p = upward C D in
        let q = upward D C in
        omega arith
      where
        upward : (A B : Covered answered x) → B.number ≤ A.number
        upward A B = ⊎_elim apart_now (λ (h : B.number ≤ A.number). h) (lt_or_le A.number B.number)
          where
            apart_now : A.number < B.number → B.number ≤ A.number
            apart_now h =
                let a = scan_rising A.number B.number h B.in_list in
                let b = A.to in
                let c = B.from in
                let k : ⊥ = omega arith in
                absurd k

    -- each place lies in one, or it is on no arc and its job is not critical
    pub scan_places : (x : ℕ) → x < length l → Covered answered x ⊎ Bare x
    scan_places x h = tiled_places scan_tiled x (omega arith) h

    -- and not both
    pub scan_bare : (x : ℕ) → Bare x → Covered answered x → ⊥
    scan_bare x B C =
        let D = (scan_sound C.number C.in_list).0 in
        let (p, q) = run_same arcs l x D.run B.run C.from C.to (omega arith) (omega arith) in
        clash (D.alone (p ∙ sym q)) (rw p B.idle)

    -- every block by the sentence is answered
    pub scan_complete : {i j : ℕ} → IsBlock crit arcs l i j → (k : ℕ) × (k < length answered) × (nth k ≡ block_of i j)
    scan_complete {i} {j} B =
        let a = B.run.rising in
        let b = B.run.within in
        ⊎_elim found (λ (C : Bare i). absurd (apart B C)) (scan_places i (omega arith))
      where
        found : Covered answered i → (k : ℕ) × (k < length answered) × (nth k ≡ block_of i j)
        found C =
            let (D, e) = scan_sound C.number C.in_list in
            let (p, q) = run_same arcs l i D.run B.run C.from C.to (omega arith) B.run.rising in (
              C.number,
              C.in_list,
              e ∙ ap {B = Block} (λ (x : ℕ). block_of x (nth C.number).last) p ∙ ap {B = Block} (block_of i) q,
            )

    -- both places of an arc lie in the same block
    pub scan_arc : (x : ℕ) → arc_at arcs l x ≡ true → (C : Covered answered x) × (suc x ≤ (nth C.number).last)
    scan_arc x e =
        let a = ltb-true (suc x) (length l) (and_true {a = ltb (suc x) (length l)} e).0 in
        ⊎_elim found (λ (B : Bare x). clash e B.run.ceases) (scan_places x (omega arith))
      where
        found : Covered answered x → (C : Covered answered x) × (suc x ≤ (nth C.number).last)
        found C = (C, ⊎_elim (λ (h : x < (nth C.number).last). h) stop (lt_or_le x (nth C.number).last))
          where
            stop : (nth C.number).last ≤ x → suc x ≤ (nth C.number).last
            stop h =
                let q : (nth C.number).last ≡ x = (let a = C.to in omega arith) in
                clash e (subst (λ (i : ℕ). arc_at arcs l i ≡ false) q (scan_sound C.number C.in_list).0.run.ceases)

    -- "a place on no run whose job is critical is a block alone"
    pub scan_alone : (x : ℕ) → x < length l → ((i : ℕ) → suc i ≡ x → arc_at arcs l i ≡ false) → arc_at arcs l x ≡ false
        → crit (get_or l x 0) ≡ true → (k : ℕ) × (k < length answered) × (nth k ≡ block_of x x)
    scan_alone x h f g e = scan_complete (record {
      run = record { rising = omega arith; within = h; whole = λ i u v. (let k : ⊥ = omega arith in absurd k); begins = f; ceases = g };
      alone = λ q. e;
    })

  -- where an arc asks that both its ends are critical, every place of a block is
  pub block_critical : ((u v : ℕ) → arcs u v ≡ true → (crit u ≡ true) × (crit v ≡ true))
      → {i j : ℕ} → IsBlock crit arcs l i j → (x : ℕ) → i ≤ x → x ≤ j → crit (get_or l x 0) ≡ true
  block_critical f {i} {j} B x h k = look (lt_or_le x j) (lt_or_le i x)
    where
      look : (x < j) ⊎ (j ≤ x) → (i < x) ⊎ (x ≤ i) → crit (get_or l x 0) ≡ true
      look (inl a) b = (f (get_or l x 0) (get_or l (suc x) 0) (and_true {a = ltb (suc x) (length l)} (B.run.whole x h a)).1).0
      look (inr a) (inl b) = back x refl
        where
          back : (y : ℕ) → x ≡ y → crit (get_or l x 0) ≡ true
          back zero q = let z : ⊥ = omega arith in absurd z
          back (suc y) q = rw q (f (get_or l y 0) (get_or l (suc y) 0)
              (and_true {a = ltb (suc y) (length l)} (B.run.whole y (omega arith) (omega arith))).1).1
      look (inr a) (inr b) =
          let p : i ≡ j = omega arith in
          let q : x ≡ i = omega arith in
          rw q (B.alone p)

-- ── of a plan ──

-- "Critical arc: live edge, both ends critical, finish of the first equals start of the second."
pub arc_critical : (p : Plan) (u v : ℕ) → arc p u v ≡ true → (critical p u ≡ true) × (critical p v ≡ true)
unfolding arc
arc_critical p u v e =
    let (a, b) = and_true {a = live p u v} e in
    let (c, d) = and_true {a = critical p u} b in
    (c, (and_true {a = critical p v} d).0)

module _ (p : Plan) (o : ℕ) where
  pub blocks_sound : (k : ℕ) → k < length (blocks_of p o)
      → PlanBlock p o (get_or (blocks_of p o) k no_block).first (get_or (blocks_of p o) k no_block).last
      × (get_or (blocks_of p o) k no_block ≡ plan_block p o (get_or (blocks_of p o) k no_block).first (get_or (blocks_of p o) k no_block).last)
  unfolding blocks_of
  blocks_sound = scan_sound (critical p) (arc p) (jobs_of (route_of p o)) o (length (jobs_of (route_of p o)))

  pub blocks_complete : {i j : ℕ} → PlanBlock p o i j
      → (k : ℕ) × (k < length (blocks_of p o)) × (get_or (blocks_of p o) k no_block ≡ plan_block p o i j)
  unfolding blocks_of
  blocks_complete = scan_complete (critical p) (arc p) (jobs_of (route_of p o)) o (length (jobs_of (route_of p o)))

  pub blocks_rising : (j k : ℕ) → j < k → k < length (blocks_of p o)
      → (get_or (blocks_of p o) j no_block).last < (get_or (blocks_of p o) k no_block).first
  unfolding blocks_of
  blocks_rising = scan_rising (critical p) (arc p) (jobs_of (route_of p o)) o (length (jobs_of (route_of p o)))

  -- every place of a block has a critical job
  pub blocks_critical : {i j : ℕ} → PlanBlock p o i j → (x : ℕ) → i ≤ x → x ≤ j → critical p (get_or (jobs_of (route_of p o)) x 0) ≡ true
  blocks_critical = block_critical (critical p) (arc p) (jobs_of (route_of p o)) (arc_critical p)

-- "Cyclic: none."
pub blocks_cyclic : (p : Plan) (os : List ℕ) → is_cyclic p ≡ true → blocks p os ≡ []
unfolding blocks
blocks_cyclic p os e = rw e

-- "For each owner in the given list (out of range skipped, repeats answered again)"
pub blocks_calm : (p : Plan) (os : List ℕ) → is_cyclic p ≡ false → blocks p os ≡ blocks_over p os
unfolding blocks
blocks_calm p os e = rw e
