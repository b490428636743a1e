-- `fits`, `put_route`: an owner's route becomes another in the words, and they stand for the next plan. Assumes nothing.
use Rattle.std.proofs.Common.{◌≡◌, ℕ, zero, suc, ◌+◌, ◌-◌, ◌<◌, ◌≤◌, Bool, true, false, cond, eqb, leb, ◌⊎◌, List, [], ◌∷◌, ◌++◌, length, get_or, take, drop, set, replicate, sym, refl, ap, ◌∙◌, ⊎_elim, append_assoc, add-one, arith, length-append, length-set, get_or-set_other, get_or-set_same, take_at, drop_at, rules, eq-eqb, ne_eqb, leb-false, leb-true}
use lib.ListN.{length-map}
use lib.Seq.{slice, take-append-add}
use Rattle.rules.specs.Lists.{table}
use Rattle.rules.specs.Sizes.{most_jobs, most_owners, most_entries, routes_length}
use Rattle.rules.specs.Routes.{Plan, Route, Stop, empty_route, route_of, jobs_of, violations_of, in_force}
use Rattle.rules.specs.Scores.{assigned, times_in}
use Rattle.rules.specs.Sound.{Sound}
use Rattle.rules.specs.Steps.{turning}
use Rattle.rules.proofs.Ranges.{pass, fail, test, same}
use Rattle.rules.proofs.Tabled.{table_length, table_at, table_same, table_set, list_table}
use Rattle.rules.proofs.Stages.{sum_set, sum_at}
use Rattle.words.specs.Words.{map_from}
use Rattle.edges.specs.Raw.{mid, put}
use Rattle.edges.specs.Rows.{offs, flat, pad}
use Rattle.edges.proofs.Rows.{offs_length, flat_split, flat_set, pad_length}
use Rattle.routes.specs.Stops.{words}
use Rattle.routes.specs.Store.{Model, Holds, row, rows, invalid_in, invalids, lay, waiters, encode, stops_at, invalid_at, violated_at, assigned_at}
use Rattle.routes.specs.Counting.{count_all, stops_in, recount_in}
use Rattle.routes.specs.Raw.{splice, shifted, shift_of, Lies, splice_in, shift_in, settled}
use Rattle.routes.specs.Desks.{routes_of}
use Rattle.routes.specs.Promises.{Gives, Fits, RoutesTurn}
use Rattle.routes.proofs.Lists.{map_set, times_few}
use Rattle.routes.proofs.Tallying.{count_long, counted_less, counted_more}
use Rattle.routes.proofs.Placing.{Sized, sized, with_stops, with_invalid, with_assigned, at_offsets, at_stops, at_invalid, at_violated, at_assigned, owners, total, starts, ends, within, row_is, stops_are}
use Rattle.routes.proofs.Wellformed.{route_at_lem, routes_force, flat_long, routes_wf}
use Rattle.routes.proofs.Exchanging.{gives_sound}

-- ── is there room ──

room_is : {l : List ℕ} {m : Model} → Holds l m → (o : ℕ) → o < most_owners → (s : List ℕ)
    → length (flat (set (rows m) o s)) ≡ get_or l most_owners 0 - (get_or l (o + 1) 0 - get_or l o 0) + length s
room_is {m = m} h o k s =
    let i : o < length (rows m) = (let a = owners m h.wf in omega arith) in
    let a = simp length-append at (ap length (flat_set (rows m) o s i)) in
    let b = simp length-append at (ap length (flat_split (rows m) o i)) in
    let c = total h in
    let d = ends h o k in
    omega arith

-- ── the steps, in the words ──

shift_step : (by from : ℕ) (l y : List ℕ) → y ≡ map_from (shifted by) from (take stops_at l) → y ++ drop stops_at l ≡ shift_in by from l
unfolding shift_in
shift_step by from l y e = rw e

splice_step : (f t n : ℕ) (s l y : List ℕ) → y ≡ splice f t n s (mid stops_at most_entries l) → put stops_at most_entries l y ≡ splice_in f t n s l
unfolding splice_in
splice_step f t n s l y e = rw e

count_step : (b : Bool) (s l y : List ℕ) → y ≡ count_all b (mid assigned_at most_jobs l) s → put assigned_at most_jobs l y ≡ recount_in b s l
unfolding recount_in
count_step b s l y e = rw e

pub settled_by : (o f t n by : ℕ) (s r r₁ y₂ y₃ y₄ : List ℕ)
    → y₄ ≡ map_from (shifted by) (o + 1) (take stops_at (put stops_at most_entries (put assigned_at most_jobs r₁ y₂) y₃))
    → y₃ ≡ splice f t n s (mid stops_at most_entries (put assigned_at most_jobs r₁ y₂))
    → y₂ ≡ count_all true (mid assigned_at most_jobs r₁) s → r₁ ≡ recount_in false (stops_in r f t) r
    → by ≡ shift_of (t - f) (length s) → f ≡ get_or r o 0 → t ≡ get_or r (o + 1) 0 → n ≡ get_or r most_owners 0
    → y₄ ++ drop stops_at (put stops_at most_entries (put assigned_at most_jobs r₁ y₂) y₃) ≡ settled o s r
settled_by o f t n by s r r₁ y₂ y₃ y₄ e₄ e₃ e₂ e₁ eb ef et en =
    shift_step by (o + 1) (put stops_at most_entries (put assigned_at most_jobs r₁ y₂) y₃) y₄ e₄
    ∙ ap (shift_in by (o + 1)) (splice_step f t n s (put assigned_at most_jobs r₁ y₂) y₃ e₃
    ∙ ap (splice_in f t n s) (count_step true s r₁ y₂ e₂ ∙ ap (recount_in true s) e₁))
    ∙ rw (eb, ef, et, en)

-- ── the rows ──

take_zeros : (i j : ℕ) → i ≤ j → take {A = ℕ} i (replicate j 0) ≡ replicate i 0
take_zeros zero j k = refl
take_zeros (suc i) zero k = absurd (omega arith)
take_zeros (suc i) (suc j) k = rw (take_zeros i j (omega arith))

pad_take : (i j : ℕ) (q : List ℕ) → length q ≤ i → i ≤ j → take i (pad j q) ≡ q ++ replicate (i - length q) 0
unfolding pad
pad_take i j q h k =
    let e : i ≡ length q + (i - length q) = omega arith in
    ap (λ (n : ℕ). take n (q ++ replicate (j - length q) 0)) e ∙ take-append-add q (replicate (j - length q) 0) (i - length q)
    ∙ rw (take_zeros (i - length q) (j - length q) (omega arith))

module _ (R : List (List ℕ)) (o : ℕ) (s : List ℕ) (i : o < length R) (room : length (flat R) ≤ most_entries)
    (room₂ : length (flat (set R o s)) ≤ most_entries) where
  abbrev front : List ℕ
  front = flat (take o R)

  abbrev behind : List ℕ
  behind = flat (drop (suc o) R)

  pub splice_rows : {f t n : ℕ} → f ≡ length front → t ≡ f + length (get_or R o []) → n ≡ length (flat R)
      → splice f t n s (pad most_entries (flat R)) ≡ pad most_entries (flat (set R o s))
  unfolding splice pad
  splice_rows {f} {t} {n} ef et en =
      let r : List ℕ = get_or R o [] in
      let a : flat R ≡ front ++ (r ++ behind) = flat_split R o i in
      let b : flat (set R o s) ≡ front ++ (s ++ behind) = flat_set R o s i in
      let la = simp length-append at (ap length a) in
      let lb = simp length-append at (ap length b) in
      let z : List ℕ = replicate (most_entries - length (flat R)) 0 in
      let whole : flat R ++ z ≡ front ++ (r ++ (behind ++ z)) = rw a (simp append_assoc) in
      let p : take f (flat R ++ z) ≡ front = ap (take f) whole ∙ take_at front (r ++ (behind ++ z)) f (sym ef) in
      let q : slice t n (flat R ++ z) ≡ behind = ap (drop t) (take_at (flat R) z n (sym en)) ∙ rw (a, ← append_assoc front r behind)
      (drop_at (front ++ r) behind t (length-append front r ∙ omega arith)) in
      let j : ℕ = most_entries - (f + length s) in
      let k : j - length behind ≡ most_entries - length (front ++ (s ++ behind)) = simp length-append (omega arith) in
      rw (p, q, pad_take j most_entries behind (omega arith) (omega arith), b, k) (simp append_assoc)

  -- offsets behind `out` stops that give way to `new`
  offs_all : (out new c : ℕ) (rs : List (List ℕ)) → out ≤ c → c + length (flat rs) ≤ most_entries → c - out + new + length (flat rs) ≤ most_entries
      → map_from (shifted (shift_of out new)) 0 (offs c rs) ≡ offs (c - out + new) rs
  unfolding offs flat map_from shift_of
  offs_all out new c [] h j k = ap (λ (x : ℕ). x ∷ []) (omega arith)
  offs_all out new c (r ∷ rs) h j k =
      let l = length-append r (flat rs) in
      let e : c + length r - out + new ≡ c - out + new + length r = omega arith in
      let a : shifted (shift_of out new) c ≡ c - out + new = omega arith in
      rw (a, offs_all out new (c + length r) rs (omega arith) (omega arith) (omega arith), e)

  offs_shift : (b i : ℕ) (rs : List (List ℕ)) → i < length rs → b + length (flat rs) ≤ most_entries → b + length (flat (set rs i s)) ≤ most_entries
      → map_from (shifted (shift_of (length (get_or rs i [])) (length s))) (suc i) (offs b rs) ≡ offs b (set rs i s)
  unfolding offs flat map_from
  offs_shift b i [] h j k = absurd (omega arith)
  offs_shift b zero (r ∷ rs) h j k =
      let l = length-append r (flat rs) in
      let m = length-append s (flat rs) in
      let e : b + length r - length r + length s ≡ b + length s = omega arith in
      ap (λ (z : List ℕ). b ∷ z) (offs_all (length r) (length s) (b + length r) rs (omega arith) (omega arith) (omega arith) ∙ rw e)
  offs_shift b (suc i) (r ∷ rs) h j k =
      let l = length-append r (flat rs) in
      let m = length-append r (flat (set rs i s)) in
      ap (λ (z : List ℕ). b ∷ z) (offs_shift (b + length r) i rs (omega arith) (omega arith) (omega arith))

  pub shift_rows : map_from (shifted (shift_of (length (get_or R o [])) (length s))) (o + 1) (offs 0 R) ≡ offs 0 (set R o s)
  shift_rows = rw (add-one o) (offs_shift 0 o R i (omega arith) (omega arith))

-- ── the words ──

module _ {a b c d e f : List ℕ} (S : Sized a b c d e f) where
  recounts : (x : Bool) (w : List ℕ) → (recount_in x w (lay a b c d e f) ≡ lay a b c d (count_all x e w) f) × Sized a b c d (count_all x e w) f
  unfolding recount_in
  recounts x w = (rw (at_assigned S).read ((at_assigned S).write (count_all x e w)), with_assigned S (count_all x e w) (count_long x e w ∙ S.assigned))

  splices : (i t n : ℕ) (s y : List ℕ) → splice i t n s b ≡ y → length y ≡ most_entries
      → (splice_in i t n s (lay a b c d e f) ≡ lay a y c d e f) × Sized a y c d e f
  unfolding splice_in
  splices i t n s y q k = (rw ((at_stops S).read, q) ((at_stops S).write y), with_stops S y k)

  shifts : (by from : ℕ) (y : List ℕ) → map_from (shifted by) from a ≡ y → shift_in by from (lay a b c d e f) ≡ lay y b c d e f
  unfolding shift_in
  shifts by from y q = rw ((at_offsets S).read, q) ((at_offsets S).write y)

module _ {l : List ℕ} {m : Model} (h : Holds l m) (o : ℕ) (s : List ℕ) (low : o < most_owners) (L : Lies l o (length s)) where
  abbrev next : List (List ℕ)
  next = set (rows m) o s

  -- how often each job is in force then
  abbrev recounted : List ℕ
  recounted = count_all true (count_all false m.assigned (get_or (rows m) o [])) s

  in_rows : o < length (rows m)
  in_rows = let a = owners m h.wf in omega arith

  room : length (flat next) ≤ most_entries
  room = let a = room_is h o low s in let b = L.room in omega arith

  after : Sized (offs 0 next) (pad most_entries (flat next)) (invalids m) m.violated recounted (waiters m.waiting)
  after = let S = sized m h.wf in record {
    offsets = offs_length 0 next ∙ rw length-set (let a = owners m h.wf in omega arith);
    stops = pad_length most_entries (flat next) room;
    invalid = S.invalid;
    violated = S.violated;
    assigned = count_long true (count_all false m.assigned (get_or (rows m) o [])) s ∙ count_long false m.assigned (get_or (rows m) o []) ∙ S.assigned;
    waiting = S.waiting;
  }

  settled_words : settled o s l ≡ lay (offs 0 next) (pad most_entries (flat next)) (invalids m) m.violated recounted (waiters m.waiting)
  unfolding encode
  settled_words =
      let f : ℕ = get_or l o 0 in
      let t : ℕ = get_or l (o + 1) 0 in
      let n : ℕ = get_or l most_owners 0 in
      let (p, S₁) = recounts (sized m h.wf) false (get_or (rows m) o []) in
      let (q, S₂) = recounts S₁ true s in
      let g = ends h o low in
      let z : t - f ≡ length (get_or (rows m) o []) = omega arith in
      let a : recount_in true s (recount_in false (stops_in l f t) l) ≡ _ =
      ap (recount_in true s) (rw (stops_are h o low f t refl refl, h.words) p) ∙ q in
      let (b, S₃) = splices S₂ f t n s (pad most_entries (flat next)) (splice_rows (rows m) o s in_rows h.wf.room room (starts h o low) g (total h))
      (pad_length most_entries (flat next) room) in
      ap (shift_in (shift_of (t - f) (length s)) (o + 1)) (ap (splice_in f t n s) a ∙ b)
      ∙ shifts S₃ (shift_of (t - f) (length s)) (o + 1) (offs 0 next) (rw z (shift_rows (rows m) o s in_rows h.wf.room room))

-- ── the next plan ──

assigned_few : (v : ℕ) (l : List Route) → assigned l v ≤ in_force l
assigned_few v [] = omega arith
assigned_few v (x ∷ l) =
    let a = times_few v (jobs_of x) in let b = length-map x.stops (λ (s : Stop). s.0) in let c = assigned_few v l in omega arith

module _ {p : Plan} {o : ℕ} {s : List ℕ} {x : Route} (S : Sound p) (G : Gives p o s x) where
  abbrev m : Model
  m = routes_of p

  there : o < length p.desk.routes
  there = let a = S.rows in let b = G.owner in omega arith

  known : o < most_owners
  known = let a = G.owner in let b = S.loaded.owners in omega arith

  -- there is room for it
  pub force_is : length (flat (set (rows (routes_of p)) o s)) ≤ most_entries
  force_is =
      let i : o < length (routes_of p).routes = (let a = (routes_wf p S).owners in let b = known in omega arith) in
      let a = flat_long (set (routes_of p).routes o x) in
      let b = sum_set (λ (r : Route). length r.stops) empty_route (routes_of p).routes o x i in
      let c = sum_set (λ (r : Route). length r.stops) empty_route p.desk.routes o x there in
      let d = ap (λ (r : Route). length r.stops) (route_at_lem p S o) in
      let e = routes_force p S in
      let f = G.room in
      rw (G.stops, ← map_set row (routes_of p).routes o x) (omega arith)

  route_next : (w : ℕ) → route_of (turning p o x) w ≡ cond (eqb w o) x (route_of p w)
  unfolding turning
  route_next w = ⊎_elim (λ (q : w ≡ o). rw (eq-eqb w o q, q) (get_or-set_same p.desk.routes o x empty_route there))
      (λ (q : w ≡ o → ⊥). rw (ne_eqb w o q) (get_or-set_other p.desk.routes o w x empty_route q)) (same w o)

  recount_at : (v : ℕ) → v < most_jobs
      → get_or (count_all true (count_all false (routes_of p).assigned (words (route_of p o).stops)) (words x.stops)) v 0
      ≡ assigned (turning p o x).desk.routes v
  unfolding routes_of turning
  recount_at v h =
      let a₀ : List ℕ = table most_jobs (assigned p.desk.routes) in
      let a₁ : List ℕ = count_all false a₀ (words (route_of p o).stops) in
      let n = table_length most_jobs (assigned p.desk.routes) in
      let n₁ = count_long false a₀ (words (route_of p o).stops) in
      let a = table_at most_jobs (assigned p.desk.routes) 0 v h in
      let b = assigned_few v p.desk.routes in
      let c = counted_less (route_of p o).stops a₀ v (omega arith) in
      let d = times_few v (jobs_of x) in
      let e = length-map x.stops (λ (s : Stop). s.0) in
      let f = G.reads.few in
      let g = S.room in
      let i = sum_set (λ r. times_in v (jobs_of r)) empty_route p.desk.routes o x there in
      let j = sum_at (λ r. times_in v (jobs_of r)) empty_route p.desk.routes o there in
      let k = counted_more x.stops a₁ v (omega arith) (omega arith) in
      omega arith

  abbrev reseated : Model
  reseated = record {
    routes = set (routes_of p).routes o x;
    violated = set (routes_of p).violated o (violations_of p.base o x);
    assigned = count_all true (count_all false (routes_of p).assigned (words (route_of p o).stops)) (words x.stops);
    waiting = (routes_of p).waiting;
  }

  reseated_is : reseated ≡ routes_of (turning p o x)
  unfolding routes_of turning
  reseated_is = λ i. record { routes = one i; violated = two i; assigned = three i; waiting = p.desk.waiting }
    where
      one : set (table most_owners (route_of p)) o x ≡ table most_owners (route_of (turning p o x))
      one = table_set most_owners (route_of p) o x known
          ∙ table_same most_owners (λ w. cond (eqb w o) x (route_of p w)) (route_of (turning p o x)) (λ w a. sym (route_next w))

      violations : (w : ℕ) → cond (eqb w o) (violations_of p.base o x) (violations_of p.base w (route_of p w))
          ≡ violations_of p.base w (route_of (turning p o x) w)
      violations w = rw (route_next w) (⊎_elim (λ (q : w ≡ o). rw (eq-eqb w o q, q)) (λ (q : w ≡ o → ⊥). rw (ne_eqb w o q)) (same w o))

      two : set (table most_owners (λ w. violations_of p.base w (route_of p w))) o (violations_of p.base o x)
          ≡ table most_owners (λ w. violations_of p.base w (route_of (turning p o x) w))
      two = table_set most_owners (λ w. violations_of p.base w (route_of p w)) o (violations_of p.base o x) known
          ∙ table_same most_owners _ _ (λ w a. violations w)

      counts : List ℕ
      counts = count_all true (count_all false (table most_jobs (assigned p.desk.routes)) (words (route_of p o).stops)) (words x.stops)

      three : counts ≡ table most_jobs (assigned (turning p o x).desk.routes)
      three = list_table 0 counts
          ∙ ap (λ (k : ℕ). table k (λ v. get_or counts v 0)) (count_long true (count_all false (table most_jobs (assigned p.desk.routes)) _) _
          ∙ count_long false (table most_jobs (assigned p.desk.routes)) _ ∙ table_length most_jobs (assigned p.desk.routes))
          ∙ table_same most_jobs (λ v. get_or counts v 0) (assigned (turning p o x).desk.routes) recount_at

-- ── what the code answers ──

module _ (l : List ℕ) (o k : ℕ) where
  pub fits_out : most_owners ≤ o → Fits l o k false
  fits_out q p s x S H G e = let a = known S G in omega arith

  module _ {f t n : ℕ} (ef : f ≡ get_or l o 0) (et : t ≡ get_or l (o + 1) 0) (en : n ≡ get_or l most_owners 0) where
    pub fits_back : t < f → Fits l o k false
    fits_back q p s x S H G e = let a = ends H o (known S G) in omega arith

    pub fits_over : n < t → Fits l o k false
    fits_over q p s x S H G e = let a = within H o (known S G) in omega arith

    pub fits_many : most_entries < n → Fits l o k false
    fits_many q p s x S H G e = let a = total H in let b = H.wf.room in omega arith

    pub fits_by : o < most_owners → f ≤ t → t ≤ n → n ≤ most_entries → Fits l o k (leb (n - (t - f) + k) most_entries)
    fits_by low a b c = elim (test (leb (n - (t - f) + k) most_entries)) [
      | pass z ↦ let y = leb-true (n - (t - f) + k) most_entries z in
          rw z (record { low = low; forward = omega arith; inside = omega arith; few = omega arith; room = omega arith })
      | fail z ↦ let y = leb-false (n - (t - f) + k) most_entries z in
          rw z (λ p s x S H G e. let v = room_is H o low s in let w = force_is S G in omega arith)
    ]

pub ruleset fitting = (rules, fits_out, fits_back, fits_over, fits_many, fits_by)

pub put_within : (l l₁ : List ℕ) {o k : ℕ} (i x : ℕ) → length l₁ ≡ length l → length l ≡ routes_length → Lies l o k → violated_at + o < length (set l₁ i x)
put_within l l₁ i x e k L = let a = L.low in rw (length-set, e, k) (omega arith)

pub put_done : {l l₁ : List ℕ} {o : ℕ} {s : List ℕ} → l₁ ≡ settled o s l → Lies l o (length s) → (i v : ℕ)
    → RoutesTurn l o s i v (set (set l₁ (invalid_at + o) i) (violated_at + o) v)
unfolding encode
put_done {l} {l₁} {o} {s} e L i v p x S H G ei ev =
    let low = L.low in
    let A = after H o s low L in
    let B = with_invalid A (set (invalids (routes_of p)) o i) (simp length-set A.invalid) in
    let R : List (List ℕ) = set (rows (routes_of p)) o s in
    let written : set (set l₁ (invalid_at + o) i) (violated_at + o) v ≡ lay (offs 0 R) (pad most_entries (flat R)) (set (invalids (routes_of p)) o i)
    (set (routes_of p).violated o v) (recounted H o s low L) (waiters (routes_of p).waiting) =
    rw (e, settled_words H o s low L, (at_invalid A).store o i low) ((at_violated B).store o v low) in
    record {
      words = written ∙ rw (
        ← reseated_is S G,
        map_set row (routes_of p).routes o x,
        map_set invalid_in (routes_of p).routes o x,
        ← G.stops,
        ei,
        ev,
        row_is H o low,
        route_at_lem p S o,
      );
      wf = routes_wf (turning p o x) (gives_sound S G);
    }

pub ruleset reseating = (rules, put_within, put_done)
