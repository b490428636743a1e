-- The stored lists when edges are taken out and put in one by one: they are relisted as the rules say. One law for the lists of heads and
-- for those of tails: `key` says where an edge stands in them. Assumes nothing.
use Rattle.std.proofs.Common.{◌≡◌, ℕ, ◌<◌, Bool, true, false, cond, not, eqb, List, [], ◌∷◌, ◌++◌, map, sym, refl, ap, ◌∙◌, ⊎_elim, eq-eqb, eqb-true}
use lib.Seq.{set-get_or}
use Rattle.rules.specs.Lists.{Pair, memb, keep, is_zero, times, same_pair}
use Rattle.rules.specs.Sizes.{most_jobs}
use Rattle.rules.specs.Routes.{Heads, alter, outs, vanish, appear, drops, adds}
use Rattle.rules.specs.Reports.{push}
use Rattle.rules.specs.Sound.{Tidy}
use Rattle.rules.proofs.Ranges.{clash, pass, fail, test}
use Rattle.rules.proofs.Members.{or_false}
use Rattle.rules.proofs.Walks.{memb_snoc}
use Rattle.rules.proofs.Stored.{From, adds_at, adds_tidy, drops_at}
use Rattle.edges.specs.Edges.{Model}
use Rattle.routes.specs.Turning.{is_edge, turn_one, turn_all}
use Rattle.routes.proofs.Lists.{in_first, in_rest, keep_passes}
use Rattle.routes.proofs.Lasts.{lasts}
use Rattle.routes.proofs.Fitting.{Fit, count_at, always, pair_of, turned_of, heads_of, heads_tidy, tail_small, head_small, heads_there, heads_out, heads_into, tails_there, tails_out, tails_into}
use Rattle.routes.proofs.OneByOne.{AllEdges, Taken, passed, turn_fit, first_edge, rest_taken, first_taken}

-- ── who vanishes twice vanishes once, who is there need not appear ──

dead_same : (t : Heads) (e : Pair) → memb e.1 (outs t e.0) ≡ false → alter vanish t e ≡ t
dead_same t e h = rw (none e.1 (outs t e.0) h) (set-get_or t e.0 [])
  where
    none : (v : ℕ) (l : List ℕ) → memb v l ≡ false → vanish v l ≡ l
    none v [] h = refl
    none v (w ∷ l) h = let z = or_false {a = eqb v w} h in rw (z.0, none v l z.1)

live_same : (t : Heads) (e : Pair) → memb e.1 (outs t e.0) ≡ true → alter appear t e ≡ t
live_same t e h = rw h (set-get_or t e.0 [])

vanish_end : (q : List Pair) (t : Heads) (e : Pair) → drops always t (q ++ e ∷ []) ≡ alter vanish (drops always t q) e
vanish_end [] t e = refl
vanish_end (f ∷ q) t e = vanish_end q (alter vanish t f) e

map_end : {A B : Type 0} (f : A → B) (q : List A) (x : A) → map f (q ++ x ∷ []) ≡ map f q ++ f x ∷ []
map_end f [] x = refl
map_end f (y ∷ q) x = rw (map_end f q x)

-- an edge that is there is there still when another appears
live_still : (t : Heads) (e : Pair) (u v : ℕ) → Tidy most_jobs t → e.0 < most_jobs → memb v (outs t u) ≡ true
    → memb v (outs (alter appear t e) u) ≡ true
live_still t e u v T h q = adds_at most_jobs (e ∷ []) t u v (h, tt) T
    ∙ rw q (elim (test (is_zero (times (u, v) (e ∷ [])))) [ pass z ↦ rw z | fail z ↦ rw z ])

module _ (key : ℕ → Pair) (low : (x : ℕ) → is_edge x ≡ true → (key x).0 < most_jobs) where
  from_edges : (l : List ℕ) → AllEdges l → From most_jobs (map key l)
  from_edges [] a = tt
  from_edges (x ∷ l) a = (low x (a x (in_first x l)), from_edges l (λ y h. a y (in_rest x y l h)))

  key_times : (x : ℕ) (l : List ℕ) → memb x l ≡ true → is_zero (times (key x) (map key l)) ≡ false
  key_times x [] h = clash h refl
  key_times x (y ∷ l) h = elim (test (eqb x y)) [
    | pass z ↦ rw (← eqb-true x y z, eq-eqb (key x).0 (key x).0 refl, eq-eqb (key x).1 (key x).1 refl)
    | fail z ↦ elim (test (same_pair (key x) (key y))) [ pass w ↦ rw w | fail w ↦ rw w (key_times x l (rw z at h)) ]
  ]

  dead_all : (q : List ℕ) (t : Heads) (x : ℕ) → Tidy most_jobs t → AllEdges q → memb x q ≡ true
      → memb (key x).1 (outs (drops always t (map key q)) (key x).0) ≡ false
  dead_all q t x T a h = drops_at most_jobs always (map key q) t (key x).0 (key x).1 (from_edges q a) T ∙ rw (key_times x q h)

  pub vanish_push : (l q : List ℕ) (t : Heads) → Tidy most_jobs t → AllEdges q → AllEdges l
      → drops always t (map key (push q l)) ≡ drops always (drops always t (map key q)) (map key l)
  vanish_push [] q t T a b = refl
  vanish_push (x ∷ l) q t T a b = elim (test (memb x q)) [
    | pass z ↦ joins true z ∙ vanish_push l q t T a (λ y h. b y (in_rest x y l h))
        ∙ ap (λ s. drops always s (map key l)) (sym (dead_same (drops always t (map key q)) (key x) (dead_all q t x T a z)))
    | fail z ↦ joins false z ∙ vanish_push l (q ++ x ∷ []) t T
        (λ y h. ⊎_elim (λ k. a y k) (λ k. rw k (b x (in_first x l))) (memb_snoc y q x h)) (λ y h. b y (in_rest x y l h))
        ∙ ap (λ s. drops always s (map key l)) (ap (drops always t) (map_end key q x) ∙ vanish_end (map key q) t (key x))
  ]
    where
      joins : (k : Bool) → memb x q ≡ k
          → drops always t (map key (push (cond (memb x q) q (q ++ x ∷ [])) l)) ≡ drops always t (map key (push (cond k q (q ++ x ∷ [])) l))
      joins k e = ap (λ (k : Bool). drops always t (map key (push (cond k q (q ++ x ∷ [])) l))) e

  pub appear_keep : (p : ℕ → Bool) (l : List ℕ) (t : Heads) → Tidy most_jobs t → AllEdges l
      → ((x : ℕ) → memb x l ≡ true → p x ≡ false → memb (key x).1 (outs t (key x).0) ≡ true)
      → adds t (map key l) ≡ adds t (map key (keep p l))
  appear_keep p [] t T a f = refl
  appear_keep p (x ∷ l) t T a f =
      let hx = low x (a x (in_first x l)) in
      let a' : AllEdges l = λ y h. a y (in_rest x y l h) in
      elim (test (p x)) [
        | pass z ↦ rw z (appear_keep p l (alter appear t (key x)) (adds_tidy most_jobs (key x ∷ []) t (hx, tt) T) a'
            (λ y h k. live_still t (key x) (key y).0 (key y).1 T hx (f y (in_rest x y l h) k)))
        | fail z ↦ ap (λ s. adds s (map key l)) (live_same t (key x) (f x (in_first x l) z))
            ∙ appear_keep p l t T a' (λ y h k. f y (in_rest x y l h) k) ∙ rw z
      ]

  pub drops_are : (c : Pair → Bool) (l : List ℕ) (t : Heads) → drops c t (map key l) ≡ drops always t (map key (keep (λ x. c (key x)) l))
  drops_are c [] t = refl
  drops_are c (x ∷ l) t = elim (test (c (key x))) [
    | pass z ↦ ap (λ (b : Bool). drops c (cond b (alter vanish t (key x)) t) (map key l)) z ∙ drops_are c l (alter vanish t (key x)) ∙ rw z
    | fail z ↦ ap (λ (b : Bool). drops c (cond b (alter vanish t (key x)) t) (map key l)) z ∙ drops_are c l t ∙ rw z
  ]

-- ── the lists of a model ──

-- `key` says where an edge stands in the lists `look` of a model; there it vanishes and appears as the rules say
pub record Shown (look : Model → Heads) (key : ℕ → Pair) : Type 0 where
  pub low : (x : ℕ) → is_edge x ≡ true → (key x).0 < most_jobs
  pub tidy : (m : Model) → Fit m → Tidy most_jobs (look m)
  pub there : (m : Model) → Fit m → (x : ℕ) → is_edge x ≡ true → memb (key x).1 (outs (look m) (key x).0) ≡ not (is_zero (count_at m x))
  pub out : (m : Model) → Fit m → (x : ℕ) → is_edge x ≡ true
      → look (turn_one false m x) ≡ cond (eqb (count_at m x) 1) (alter vanish (look m) (key x)) (look m)
  pub into : (m : Model) → Fit m → (x : ℕ) → is_edge x ≡ true → look (turn_one true m x) ≡ alter appear (look m) (key x)

pub shown_heads : Shown heads_of pair_of
shown_heads = record { low = tail_small; tidy = heads_tidy; there = heads_there; out = heads_out; into = heads_into }

pub shown_tails : Shown (λ m. m.pred) turned_of
shown_tails = record { low = λ x e. head_small x; tidy = λ m f. f.tails; there = tails_there; out = tails_out; into = tails_into }

module _ {look : Model → Heads} {key : ℕ → Pair} (shown : Shown look key) where
  pub taken_lists : (l : List ℕ) (m : Model) (c : ℕ → Bool) → Fit m → Taken m l c
      → look (turn_all false m l) ≡ drops always (look m) (map key (lasts (keep c l)))
  unfolding turn_all lasts
  taken_lists [] m c f t = refl
  taken_lists (x ∷ l) m c f t =
      let step : look (turn_one false m x) ≡ cond (cond (memb x l) false (c x)) (alter vanish (look m) (key x)) (look m) =
      shown.out m f x (first_edge f t) ∙ rw (first_taken f t) in
      taken_lists l (turn_one false m x) c (turn_fit false m x f) (rest_taken f t)
      ∙ ap (λ s. drops always s (map key (lasts (keep c l)))) step
      ∙ elim (test (memb x l)) [
        | pass z ↦ elim (test (c x)) [ pass w ↦ rw (z, w, keep_passes c x l w, z) | fail w ↦ rw (z, w) ]
        | fail z ↦ elim (test (c x)) [ pass w ↦ rw (z, w, keep_passes c x l w, z) | fail w ↦ rw (z, w) ]
      ]

  pub put_lists : (l : List ℕ) (m : Model) → Fit m → look (turn_all true m l) ≡ adds (look m) (map key (keep is_edge l))
  unfolding turn_all
  put_lists [] m f = refl
  put_lists (x ∷ l) m f = elim (test (is_edge x)) [
    | fail e ↦ ap (λ n. look (turn_all true n l)) (passed true m x e) ∙ put_lists l m f ∙ rw e
    | pass e ↦ put_lists l (turn_one true m x) (turn_fit true m x f) ∙ ap (λ s. adds s (map key (keep is_edge l))) (shown.into m f x e) ∙ rw e
  ]
