-- Each call keeps a plan sound: the stored lists are those of the counts, the routes are such as can be put. So a put's walk starts where it
-- has to: the edges of the new plan differ only at heads that it queues. Assumes nothing.
use Prim.Native.Nat.{ℕ, ◌≤◌, ◌<◌}
use mathlib.Core.Path.{◌≡◌, refl, sym, ◌∙◌}
use mathlib.Core.Bool.{Bool, true, false, cond, ◌||◌}
use mathlib.Core.Logic.{⊎_elim}
use mathlib.Core.List.{List, [], ◌∷◌, ◌++◌}
use native.Mathlib.Omega.{arith}
use lib.Dec.{eqb}
use lib.ListN.{length, length-set}
use borrow.Author.Tests.{eq-eqb}
use Rattle.rules.specs.Lists.{Once, Pair, is_empty, memb}
use Rattle.rules.specs.Reports.{seeds}
use Rattle.rules.specs.Routes.{Emptied, Heads, Plan, emptied, empty, empty_route, exchange, holders, in_force, is_held, live, outs, own_stage, put_plan, read, staged, turned, without}
use Rattle.rules.specs.Sizes.{Base, most_entries}
use Rattle.rules.specs.Sound.{Inside, Kept, Read, Reads, Sound}
use Rattle.rules.proofs.Members.{or_false}
use Rattle.rules.proofs.Ranges.{clash}
use Rattle.rules.proofs.Stages.{empty_read, held_inside, inside_tips, read_read, reads_set, staged_inside, staged_kept, staged_same, staged_tails, tips}
use Rattle.rules.proofs.Walks.{or_right, single_in, single_once, single_out}

-- live edges lead between jobs below n
pub live_inside : (p : Plan) → Sound p → (u v : ℕ) → live p u v ≡ true → (u < p.base.jobs) × (v < p.base.jobs)
live_inside p S u v e =
    ⊎_elim (λ (z : holders p.base p.desk.routes (u, v) ≡ 0). clash e (S.kept.held u v ∙ rw z)) (λ x. x)
    (held_inside p.base p.desk.routes S.reads S.loaded.inside u v)

-- "An edge is live while its count is above 0": the stored lists say the same
pub live_held : (p : Plan) → Sound p → (u v : ℕ) → live p u v ≡ is_held p (u, v)
live_held p S u v = S.kept.held u v

-- ── emptying the waiting owners ──

pub tips_append : (v : ℕ) (a b : List Pair) → memb v (tips (a ++ b)) ≡ memb v (tips a) || memb v (tips b)
tips_append v [] b = refl
tips_append v (e ∷ a) b = go (eqb v e.1) (tips_append v a b)
  where
    go : (x : Bool) → memb v (tips (a ++ b)) ≡ memb v (tips a) || memb v (tips b)
        → x || memb v (tips (a ++ b)) ≡ (x || memb v (tips a)) || memb v (tips b)
    go true q = refl
    go false q = q

inside_append : (n : ℕ) (a b : List Pair) → Inside n a → Inside n b → Inside n (a ++ b)
inside_append n [] b h k = k
inside_append n (e ∷ a) b (x, y, h) k = (x, y, inside_append n a b h k)

-- after some waiting owners were emptied; t are the stored lists before
pub record Along (b : Base) (t : Heads) (x : Emptied) : Type 0 where
  pub kept : Kept b.jobs (holders b x.routes) x.heads
  pub kept_tails : Kept b.jobs (λ e. holders b x.routes (turned e)) x.tails
  pub rows : length x.routes ≡ b.owners
  pub reads : Reads b.jobs x.routes
  pub same : (u v : ℕ) → memb v (tips x.went) ≡ false → memb v (outs t u) ≡ memb v (outs x.heads u)
  pub inside : Inside b.jobs x.went

nothing_came : (b : Base) (x : Emptied) (w v : ℕ) → memb v (tips (staged b x.routes x.heads x.tails w empty_route).came) ≡ false
unfolding staged exchange
nothing_came b x w v = refl

without_along : (b : Base) (t : Heads) (w : ℕ) (x : Emptied) → w < b.owners → Along b t x → Along b t (without b w x)
unfolding without
without_along b t w x h A = record {
  kept = staged_kept b x.routes x.heads x.tails w empty_route k A.reads i A.kept;
  kept_tails = staged_tails b x.routes x.heads x.tails w empty_route k A.reads i A.kept_tails;
  rows = length-set x.routes w empty_route ∙ A.rows;
  reads = reads_set b.jobs x.routes w empty_route A.reads i k;
  same = λ u v m.
      let (p, q) = or_false {a = memb v (tips x.went)} (sym (tips_append v x.went gone) ∙ m) in
      A.same u v p ∙ staged_same b x.routes x.heads x.tails w empty_route k A.reads i A.kept u v (nothing_came b x w v) q;
  inside = inside_append b.jobs x.went gone A.inside (staged_inside b x.routes x.heads x.tails w empty_route k A.reads i).1;
}
  where
    gone : List Pair
    gone = (staged b x.routes x.heads x.tails w empty_route).went

    i : Read b.jobs empty_route
    i = empty_read b.jobs

    k : w < length x.routes
    k = let a = A.rows in omega arith

empty_along : (b : Base) (t : Heads) (o : ℕ) (ws : List ℕ) (x : Emptied) → ((w : ℕ) → memb w ws ≡ true → w < b.owners)
    → Along b t x → Along b t (empty b o ws x)
unfolding empty
empty_along b t o [] x h A = A
empty_along b t o (w ∷ ws) x h A =
    empty_along b t o ws (cond (eqb w o) x (without b w x)) (λ w' m. h w' (or_right (eqb w' w) m)) (go (eqb w o))
  where
    go : (y : Bool) → Along b t (cond y x (without b w x))
    go true = A
    go false = without_along b t w x (h w (rw (eq-eqb w w refl))) A

pub emptied_along : (p : Plan) (o : ℕ) → Sound p → Along p.base p.desk.heads (emptied p o)
unfolding emptied
emptied_along p o S = empty_along p.base p.desk.heads o p.desk.waiting _ S.waits (record {
  kept = S.kept;
  kept_tails = S.kept_tails;
  rows = S.rows;
  reads = S.reads;
  same = λ u v m. refl;
  inside = tt;
})

-- ── a put ──

module _ (p : Plan) (o : ℕ) (l : List ℕ) (S : Sound p) (h : o < p.base.owners) (few : length l ≤ most_entries) where
  along : Along p.base p.desk.heads (emptied p o)
  along = emptied_along p o S

  inside_owner : o < length (emptied p o).routes
  inside_owner = let a = along.rows in omega arith

  is_read : Read p.base.jobs (read p.base.jobs l)
  is_read = read_read p.base.jobs l few

  pub put_sound : in_force (put_plan p o l).desk.routes ≤ most_entries → Sound (put_plan p o l)
  unfolding put_plan own_stage
  put_sound room = record {
    loaded = S.loaded;
    kept = staged_kept p.base (emptied p o).routes (emptied p o).heads (emptied p o).tails o (read p.base.jobs l) inside_owner
        along.reads is_read along.kept;
    kept_tails = staged_tails p.base (emptied p o).routes (emptied p o).heads (emptied p o).tails o (read p.base.jobs l) inside_owner
        along.reads is_read along.kept_tails;
    rows = length-set (emptied p o).routes o (read p.base.jobs l) ∙ along.rows;
    reads = reads_set p.base.jobs (emptied p o).routes o (read p.base.jobs l) along.reads is_read inside_owner;
    room = room;
    waits = λ w m. clash m refl;
    once = tt;
  }

  -- all edges that came or went, in the order of the seeds
  abbrev moves : List Pair
  moves = (own_stage p o l).came ++ ((own_stage p o l).went ++ (emptied p o).went)

  -- the edges of the new plan differ only at heads that the put queues
  pub put_same : (u v : ℕ) → memb v (tips moves) ≡ false → live p u v ≡ live (put_plan p o l) u v
  unfolding put_plan own_stage
  put_same u v m =
      let (a, b) = or_false {a = memb v (tips (own_stage p o l).came)}
      (sym (tips_append v (own_stage p o l).came ((own_stage p o l).went ++ (emptied p o).went)) ∙ m) in
      let (c, d) = or_false {a = memb v (tips (own_stage p o l).went)}
      (sym (tips_append v (own_stage p o l).went (emptied p o).went) ∙ b) in
      along.same u v d
      ∙ staged_same p.base (emptied p o).routes (emptied p o).heads (emptied p o).tails o (read p.base.jobs l) inside_owner along.reads is_read
      along.kept u v a c

  put_inside : Inside p.base.jobs moves
  unfolding own_stage
  put_inside =
      let (a, b) = staged_inside p.base (emptied p o).routes (emptied p o).heads (emptied p o).tails o (read p.base.jobs l) inside_owner
      along.reads is_read in
      inside_append p.base.jobs (own_stage p o l).came ((own_stage p o l).went ++ (emptied p o).went) a
      (inside_append p.base.jobs (own_stage p o l).went (emptied p o).went b along.inside)

  -- no job is queued twice, and all are below n
  pub seeds_once : Once (seeds p o l)
  unfolding seeds
  seeds_once = single_once (tips moves)

  pub seeds_low : (v : ℕ) → memb v (seeds p o l) ≡ true → v < p.base.jobs
  unfolding seeds
  seeds_low v e = inside_tips p.base.jobs moves put_inside v (single_in (tips moves) v e)

  pub seeds_all : (u v : ℕ) → memb v (seeds p o l) ≡ false → live p u v ≡ live (put_plan p o l) u v
  unfolding seeds
  seeds_all u v e = put_same u v (single_out (tips moves) v e)

  -- "skipped, if no edge appeared or vanished": then the live edges are what they were
  pub skipped_same : is_empty (seeds p o l) ≡ true → (u v : ℕ) → live p u v ≡ live (put_plan p o l) u v
  skipped_same e u v = seeds_all u v (go (seeds p o l) e)
    where
      go : (q : List ℕ) → is_empty q ≡ true → memb v q ≡ false
      go [] e = refl
      go (w ∷ q) e = clash e refl
