-- "Moves": the four route moves and both move checks. "A move answers the new route and both verdicts; the store stays." "The probe looks
-- through a view of the live lists and copies none." (That is the code's; here `live` is the lists.)
use Rattle.std.specs.Prelude.{ℕ, suc, ◌-◌, ◌≡◌, Bool, true, false, not, cond, ◌&&◌, ◌||◌, List, [], ◌∷◌, ◌++◌, map, eqb, ltb, leb, length, get_or, take, drop}
use Rattle.rules.specs.Lists.{is_zero, is_some, distinct, all_below, nobody, Pair, times}
use Rattle.rules.specs.Graphs.{Cycle, Graph}
use Rattle.rules.specs.Sizes.{valid_fixed}
use Rattle.rules.specs.Routes.{Plan, live, jobs_of, route_of}
use Rattle.rules.specs.Shown.{order, reach}

pub data Move : Type 0 where
  list_change : (source dest : ℕ) → Move
  sublist_change : (start end dest : ℕ) → Move
  sublist_swap : (start end start' end' : ℕ) → Move
  permutation : (start end : ℕ) (list : List ℕ) → Move

-- ── positions ──

-- "left is the one with the lower start, the first on a tie": left a to b, right c to d, in a route of n
abbrev pub swap_fits : ℕ → ℕ → ℕ → ℕ → ℕ → Bool
swap_fits n a b c d = cond (leb a c) (leb b c && leb d n) (leb d a && leb b n)

-- 8 is given unless the positions are good, in a route of n
unfoldable pub good_positions : ℕ → Move → Bool
-- "8 if source is not below the length, or dest is above it"
good_positions n (list_change s d) = ltb s n && leb d n
-- "8 unless start <= end <= length and dest <= length - (end - start)"
good_positions n (sublist_change a b d) = leb a b && (leb b n && leb d (n - (b - a)))
-- "8 if a range starts after its end, or .. left end > right start, or right end > length"
good_positions n (sublist_swap a b c d) = (leb a b && leb c d) && swap_fits n a b c d
-- "8 unless start <= end <= length and the list is a permutation of 0 to end - start - 1"
good_positions n (permutation a b π) = leb a b && (leb b n && (eqb (length π) (b - a) && (all_below (b - a) π && distinct π)))

-- ── the new route ──

-- places a up to, not including, b
abbrev pub slice : ℕ → ℕ → List ℕ → List ℕ
slice a b l = take (b - a) (drop a l)

abbrev pub insert_at : ℕ → List ℕ → List ℕ → List ℕ
insert_at i x l = take i l ++ (x ++ drop i l)

abbrev pub remove : ℕ → ℕ → List ℕ → List ℕ
remove a b l = take a l ++ drop b l

abbrev pub swapped : ℕ → ℕ → ℕ → ℕ → List ℕ → List ℕ
swapped a b c d l = take a l ++ (slice c d l ++ (slice b c l ++ (slice a b l ++ drop d l)))

unfoldable pub moved : Move → List ℕ → List ℕ
-- "Remove, then insert at dest - 1 if dest > source, else at dest."
moved (list_change s d) l = insert_at (cond (ltb s d) (d - 1) d) (slice s (suc s) l) (remove s (suc s) l)
-- "dest counts after removal"
moved (sublist_change a b d) l = insert_at d (slice a b l) (remove a b l)
moved (sublist_swap a b c d) l = cond (leb a c) (swapped a b c d l) (swapped c d a b l)
moved (permutation a b π) l = take a l ++ (map (λ i. get_or (slice a b l) i 0) π ++ drop b l)

-- ── the checks ──

abbrev pub neighbours : List ℕ → List Pair
neighbours [] = []
neighbours (a ∷ []) = []
neighbours (a ∷ b ∷ l) = (a, b) ∷ neighbours (b ∷ l)

abbrev pub occurs : List Pair → Graph
occurs l u v = not (is_zero (times (u, v) l))

-- old and new neighbour edges, what is live and what is fixed
module _ (old new : List Pair) (alive fixed : Graph) where
  -- "Removed: old neighbour edges that occur nowhere among the new."
  abbrev pub removed : Graph
  removed u v = occurs old u v && not (occurs new u v)

  -- "Added: the reverse." "Both are sets."
  abbrev pub added : Graph
  added u v = occurs new u v && not (occurs old u v)

  -- "live and either not removed or fixed"
  abbrev pub stays : Graph
  stays u v = alive u v && (not (removed u v) || fixed u v)

  -- "An edge is on if added, or live and either not removed or fixed."
  abbrev pub on : Graph
  on u v = added u v || stays u v

-- "Full check: cyclic exactly if the edges that are on hold a cycle."
abbrev pub full_check : ℕ → Graph → Bool
full_check n E = not (is_some (order n E))

-- "They agree if the live edges, less the removed unfixed ones, hold no cycle.": a theorem, in proofs/Checks

-- some walk leads from v to u
abbrev pub leads : ℕ → Graph → ℕ → ℕ → Bool
leads n E v u = not (nobody n (λ k. reach n E k v u))

-- "Quick check: yes exactly if some cycle of them uses an added edge that was not already on": of E an edge that is not of S
abbrev pub quick_check : ℕ → Graph → Graph → Bool
quick_check n E S = not (nobody n (λ u. not (nobody n (λ v. (E u v && not (S u v)) && leads n E v u))))

-- ── of a plan ──

unfoldable pub is_fixed : Plan → Graph
is_fixed p = occurs (valid_fixed p.base)

unfoldable pub new_route : Plan → ℕ → Move → List ℕ
new_route p o m = moved m (jobs_of (route_of p o))

unfoldable pub moved_stays : Plan → ℕ → Move → Graph
moved_stays p o m = stays (neighbours (jobs_of (route_of p o))) (neighbours (new_route p o m)) (live p) (is_fixed p)

unfoldable pub moved_on : Plan → ℕ → Move → Graph
moved_on p o m = on (neighbours (jobs_of (route_of p o))) (neighbours (new_route p o m)) (live p) (is_fixed p)

unfoldable pub is_moved_cyclic : Plan → ℕ → Move → Bool
is_moved_cyclic p o m = full_check p.base.jobs (moved_on p o m)

unfoldable pub is_moved_quick : Plan → ℕ → Move → Bool
is_moved_quick p o m = quick_check p.base.jobs (moved_on p o m) (moved_stays p o m)

-- ── when the quick check says yes, by its sentence (proofs/Checks: `quick_check_lem`; the full one: `full_check_lem`) ──

-- of the cycle that l lists from v: from each job to the next, and from the last back to v
abbrev pub steps_of : ℕ → List ℕ → List Pair
steps_of v l = neighbours (l ++ v ∷ [])

-- "Added: the reverse."
abbrev pub moved_added : Plan → ℕ → Move → Graph
moved_added p o m = added (neighbours (jobs_of (route_of p o))) (neighbours (new_route p o m)) (live p) (is_fixed p)

-- some cycle of the edges that are on uses an added edge that was not already on
pub record AddedCycle (p : Plan) (o : ℕ) (m : Move) : Type 0 where
  pub job : ℕ
  pub list : List ℕ
  pub is : Cycle p.base.jobs (moved_on p o m) job list
  pub tail : ℕ
  pub head : ℕ
  pub step : occurs (steps_of job list) tail head ≡ true
  pub joins : moved_added p o m tail head ≡ true
  pub was_off : moved_stays p o m tail head ≡ false
