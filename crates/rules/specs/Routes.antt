-- "Routes and the history": routes in force, waiting owners, counted edges and the stored lists, and what load, retract and put make of them.
use Rattle.std.specs.Prelude.{ℕ, ◌+◌, Bool, true, false, not, cond, ◌&&◌, List, [], ◌∷◌, ◌++◌, map, eqb, ltb, length, get_or, set, replicate}
use Rattle.std.proofs.Math.Option.{Option}
use Rattle.rules.specs.Lists.{is_zero, tick, keep, sum_of, memb, Pair, times}
use Rattle.rules.specs.Graphs.{Graph}
use Rattle.rules.specs.Sizes.{Base, nobodys, expected_of, valid_fixed}

-- ── a route in force ──

-- a stored entry: a valid job, and whether the entry before it was valid too
abbrev pub Stop : Type 0
Stop = ℕ × Bool

-- "A route in force is its stored entries, the breaks between them and its invalid count."
pub record Route : Type 0 where
  pub stops : List Stop
  pub invalid : ℕ

abbrev pub empty_route : Route
empty_route = record { stops = []; invalid = 0 }

-- "An entry of n or more is invalid: counted, not stored, and it breaks the chain."
abbrev pub stops_of : ℕ → Bool → List ℕ → List Stop
stops_of n joined [] = []
stops_of n joined (v ∷ l) = cond (ltb v n) ((v, joined) ∷ stops_of n true l) (stops_of n false l)

abbrev pub invalid_of : ℕ → List ℕ → ℕ
invalid_of n [] = 0
invalid_of n (v ∷ l) = tick (not (ltb v n)) (invalid_of n l)

unfoldable pub read : ℕ → List ℕ → Route
read n l = record { stops = stops_of n false l; invalid = invalid_of n l }

abbrev pub jobs_of : Route → List ℕ
jobs_of r = map (λ (s : Stop). s.0) r.stops

-- "Each two neighbouring valid entries, unbroken, give an edge."
abbrev pub links : List Stop → List Pair
links [] = []
links (a ∷ []) = []
links (a ∷ b ∷ l) = cond b.1 ((a.0, b.0) ∷ links (b ∷ l)) (links (b ∷ l))

abbrev pub links_of : Route → List Pair
links_of r = links r.stops

-- "A valid entry whose stated expected owner is another number counts one violation."
abbrev pub violates : Base → ℕ → ℕ → Bool
violates b o v = not (eqb (expected_of b v) nobodys) && not (eqb (expected_of b v) o)

abbrev pub violations_of : Base → ℕ → Route → ℕ
violations_of b o r = sum_of (λ v. tick (violates b o v) 0) (jobs_of r)

-- how many hold an edge: "Each fixed pair with `to` below n gives one", and neighbours in the routes
unfoldable pub holders : Base → List Route → Pair → ℕ
holders b l e = times e (valid_fixed b) + sum_of (λ r. times e (links_of r)) l

-- ── the stored lists ──

-- for each job the heads of its live edges, in stored order
abbrev pub Heads : Type 0
Heads = List (List ℕ)

abbrev pub outs : Heads → ℕ → List ℕ
outs t u = get_or t u []

-- "Stored order: a new head joins at the end"
abbrev pub appear : ℕ → List ℕ → List ℕ
appear v l = cond (memb v l) l (l ++ v ∷ [])

-- "a vanished one is replaced by the last of its list"
abbrev pub last_of : ℕ → List ℕ → ℕ
last_of h [] = h
last_of h (k ∷ l) = last_of k l

abbrev pub but_last : ℕ → List ℕ → List ℕ
but_last h [] = []
but_last h (k ∷ l) = h ∷ but_last k l

abbrev pub last_first : List ℕ → List ℕ
last_first [] = []
last_first (h ∷ l) = last_of h l ∷ but_last h l

abbrev pub vanish : ℕ → List ℕ → List ℕ
vanish v [] = []
vanish v (w ∷ l) = cond (eqb v w) (last_first l) (w ∷ vanish v l)

abbrev pub alter : (ℕ → List ℕ → List ℕ) → Heads → Pair → Heads
alter f t e = set t e.0 (f e.1 (outs t e.0))

-- one edge after the other
abbrev pub each : (Pair → Heads → Heads) → Heads → List Pair → Heads
each f t [] = t
each f t (e ∷ es) = each f (f e t) es

-- those of a list that pass c vanish
abbrev pub drops : (Pair → Bool) → Heads → List Pair → Heads
drops c = each (λ e t. cond (c e) (alter vanish t e) t)

-- those of a list are there
abbrev pub adds : Heads → List Pair → Heads
adds = each (λ e t. alter appear t e)

-- the edges `old` give way to `new`: "takes vanishing edges before appearing ones", each by its first place; gone: nobody holds it any more
abbrev pub relist : Heads → (Pair → Bool) → List Pair → List Pair → Heads
relist t gone old new = adds (drops gone t old) new

-- an edge the other way round
abbrev pub turned : Pair → Pair
turned e = (e.1, e.0)

-- an owner's edges `old` give way to `new`, where the counts were `before` and are `after`
pub record Stage : Type 0 where
  pub heads : Heads
  pub tails : Heads
  pub came : List Pair
  pub went : List Pair

unfoldable pub exchange : Heads → Heads → (Pair → ℕ) → (Pair → ℕ) → List Pair → List Pair → Stage
exchange t s before after old new = record {
  heads = relist t (λ e. is_zero (after e)) old new;
  tails = relist s (λ e. is_zero (after (turned e))) (map turned old) (map turned new);
  came = keep (λ e. is_zero (before e)) new;
  went = keep (λ e. is_zero (after e)) old;
}

-- ── what a history leaves ──

-- what belongs to one desk: routes in force, who waits, the stored lists; and the same lists the other way round, for each job the tails of
-- the live edges to it (no rule reads them: with them a plan decides every word of its store)
pub record Desk : Type 0 where
  pub routes : List Route
  pub waiting : List ℕ
  pub heads : Heads
  pub tails : Heads

pub record Plan : Type 0 where
  pub base : Base
  pub desk : Desk

-- a store is not loaded, or stands for a plan
abbrev pub State : Type 0
State = Option Plan

abbrev pub route_of : Plan → ℕ → Route
route_of p o = get_or p.desk.routes o empty_route

-- "An edge is live while its count is above 0."
abbrev pub is_held : Plan → Pair → Bool
is_held p e = not (is_zero (holders p.base p.desk.routes e))

-- the same, read off the stored lists
abbrev pub edge : (ℕ → List ℕ) → Graph
edge out u v = memb v (out u)

abbrev pub live : Plan → Graph
live p = edge (outs p.desk.heads)

-- "Load: every route empty, none waiting; returns the score." "An accepted load replaces what was there." "Load adds the fixed list in order."
unfoldable pub fresh : Base → Plan
fresh b = record {
  base = b;
  desk = record {
    routes = replicate b.owners empty_route;
    waiting = [];
    heads = adds (replicate b.jobs []) (valid_fixed b);
    tails = adds (replicate b.jobs []) (map turned (valid_fixed b));
  };
}

-- "Retract(owner): accepted, score change 0, the owner waits. A second one changes nothing. Routes in force stay."
unfoldable pub wait : ℕ → Plan → Plan
wait o p = cond (memb o p.desk.waiting) p (record {
  base = p.base;
  desk = record { routes = p.desk.routes; waiting = p.desk.waiting ++ o ∷ []; heads = p.desk.heads; tails = p.desk.tails };
})

-- owner o's route becomes r
unfoldable pub staged : Base → List Route → Heads → Heads → ℕ → Route → Stage
staged b l t s o r = exchange t s (holders b l) (holders b (set l o r)) (links_of (get_or l o empty_route)) (links_of r)

-- "waiting owners other than this one get empty routes, in the order they began to wait": "A put empties each waiting owner in turn, then for its
-- own owner takes vanishing edges before appearing ones, each in the order just named."
pub record Emptied : Type 0 where
  pub routes : List Route
  pub heads : Heads
  pub tails : Heads
  pub went : List Pair

unfoldable pub without : Base → ℕ → Emptied → Emptied
without b w x =
    let s : Stage = staged b x.routes x.heads x.tails w empty_route in
    record { routes = set x.routes w empty_route; heads = s.heads; tails = s.tails; went = x.went ++ s.went }

unfoldable pub empty : Base → ℕ → List ℕ → Emptied → Emptied
empty b o [] x = x
empty b o (w ∷ ws) x = empty b o ws (cond (eqb w o) x (without b w x))

unfoldable pub emptied : Plan → ℕ → Emptied
emptied p o = empty p.base o p.desk.waiting
    (record { routes = p.desk.routes; heads = p.desk.heads; tails = p.desk.tails; went = [] })

-- "then this owner's route is the new one"
unfoldable pub own_stage : Plan → ℕ → List ℕ → Stage
own_stage p o l = staged p.base (emptied p o).routes (emptied p o).heads (emptied p o).tails o (read p.base.jobs l)

-- "nobody waits any more"
unfoldable pub put_plan : Plan → ℕ → List ℕ → Plan
put_plan p o l = record {
  base = p.base;
  desk = record {
    routes = set (emptied p o).routes o (read p.base.jobs l);
    waiting = [];
    heads = (own_stage p o l).heads;
    tails = (own_stage p o l).tails;
  };
}

-- "Valid entries in force over all owners"
abbrev pub in_force : List Route → ℕ
in_force l = sum_of (λ (r : Route). length r.stops) l
