-- What the tables hold on the way to the fixed list's edges. Assumes nothing.
use Rattle.std.specs.Prelude.{ℕ, ◌+◌, ◌≤◌, ◌<◌, ◌≡◌, cond, false, List, [], ◌∷◌, ◌++◌, map, eqb, leb, get_or, length, set, take}
use Rattle.rules.specs.Lists.{Pair, any_of, sum_of, table}
use Rattle.rules.specs.Reports.{head_of}
use Rattle.rules.specs.Sizes.{edges_length, falls, most_fixed, most_jobs}
use Rattle.edges.specs.Layout.{counts_at, heads_at, most_edges, starts_length}
use Rattle.edges.specs.Rows.{flat, pad, zeros}
use Rattle.edges.specs.Edges.{Model, Wf, add_edge, count_of, encode, has_edge, tabs, to_of, head_starts, head_words, count_words, tail_starts}
use Rattle.edges.specs.Fixed.{fixed_model, valid}
use Rattle.edges.specs.declared.fixed.Draft.{Draft}

-- ── edges one after the other ──

abbrev pub tail_of : Pair → ℕ
tail_of e = e.0

-- the tails of the edges to v, in the order of the list
abbrev pub tails_to : List Pair → ℕ → List ℕ
tails_to [] v = []
tails_to (e ∷ l) v = cond (eqb e.1 v) (e.0 ∷ tails_to l v) (tails_to l v)

-- l: the edges of m as the successors have them, row after row, which is the order in which they came
pub record InOrder (m : Model) (l : List Pair) : Type 0 where
  pub wf : Wf m
  pub heads : map head_of l ≡ map to_of (flat m.succ)
  pub preds : m.pred ≡ table most_jobs (tails_to l)
  pub low : (i : ℕ) → get_or (map head_of l) i 0 < most_jobs

-- the edges of m: heads and counts in the words e, then in d the tails, and how many lead out of each job and to each job
pub record Drafts (m : Model) (l : List Pair) (e : List ℕ) (d : Draft) : Type 0 where
  pub order : InOrder m l
  pub words : e ≡ tabs (zeros starts_length) (head_words m) (count_words m) (zeros starts_length) (zeros most_edges)
  pub from : d.tails ≡ pad most_edges (map tail_of l)
  pub degrees : d.out ≡ map length m.succ
  pub in_degrees : d.ins ≡ map length m.pred
  pub total : d.edges ≡ length l

-- no job after u has an edge
abbrev pub Last : ℕ → Model → Type 0
Last u m = (a : ℕ) → u < a → get_or m.succ a [] ≡ []

-- there is a place for one more edge, from u to v, and the row of u lies before it
pub record Spacious (e : List ℕ) (d : Draft) (u v : ℕ) : Type 0 where
  pub e_long : length e ≡ edges_length
  pub tails_long : length d.tails ≡ most_edges
  pub out_long : length d.out ≡ most_jobs
  pub ins_long : length d.ins ≡ most_jobs
  pub room : d.edges < most_edges
  pub from : u < most_jobs
  pub to : v < most_jobs
  pub reach : get_or d.out u 0 ≤ d.edges
  pub fits_ins : get_or d.ins v 0 < 65535

-- one more edge, from u to v, is written
pub record Appended (e : List ℕ) (d : Draft) (u v : ℕ) (e' : List ℕ) (d' : Draft) : Type 0 where
  pub words : e' ≡ set (set e (heads_at + d.edges) v) (counts_at + d.edges) 1
  pub from : d'.tails ≡ set d.tails d.edges u
  pub degrees : d'.out ≡ set d.out u (get_or d.out u 0 + 1)
  pub in_degrees : d'.ins ≡ set d.ins v (get_or d.ins v 0 + 1)
  pub total : d'.edges ≡ d.edges + 1

-- a model is there, and room for one more edge from u, the last job that has one, to v
pub record Ready (e : List ℕ) (d : Draft) (u v : ℕ) : Type 0 where
  pub model : Model
  pub list : List Pair
  pub draft : Drafts model list e d
  pub last : Last u model
  pub times : count_of model u v < 65535
  pub space : Spacious e d u v

-- the edge from u to v behind the others, if it is new
abbrev pub grown : Model → List Pair → ℕ → ℕ → List Pair
grown m l u v = cond (has_edge m u v) l (l ++ (u, v) ∷ [])

-- the model that was there has one more edge from u to v
pub record Joined (e : List ℕ) (d : Draft) (u v : ℕ) (e' : List ℕ) (d' : Draft) : Type 0 where
  pub is : (m : Model) (l : List Pair) → Drafts m l e d → Last u m → Drafts (add_edge m u v) (grown m l u v) e' d'

-- there is no edge yet
pub record Blank (e : List ℕ) (d : Draft) : Type 0 where
  pub words : e ≡ zeros edges_length
  pub no_tails : d.tails ≡ zeros most_edges
  pub no_out : d.out ≡ zeros most_jobs
  pub no_ins : d.ins ≡ zeros most_jobs
  pub none : d.edges ≡ 0

-- the pairs (f, g) are a fixed list between n jobs
pub record Listing (f g : List ℕ) (n : ℕ) : Type 0 where
  pub to_long : length f ≤ length g
  pub few : length f ≤ most_fixed
  pub jobs : n ≤ most_jobs
  pub below : any_of (leb n) f ≡ false
  pub rising : falls 0 f ≡ false

-- all edges of the pairs (f, g) are there
pub record Gathered (f g : List ℕ) (n : ℕ) (e : List ℕ) (d : Draft) : Type 0 where
  pub list : List Pair
  pub draft : Drafts (fixed_model n (valid n f g)) list e d

-- ── the other way round ──

-- the running sums of the numbers d, from b on
unfoldable pub running : ℕ → List ℕ → List ℕ
running b [] = b ∷ []
running b (k ∷ d) = b ∷ running (b + k) d

abbrev pub sum : List ℕ → ℕ
sum d = sum_of (λ k. k) d

-- the successors of m and the starts of all rows are in e; `next` has where the first edge to each job goes
pub record Turning (m : Model) (l : List Pair) (e tails next : List ℕ) : Type 0 where
  pub order : InOrder m l
  pub words : e ≡ tabs (head_starts m) (head_words m) (count_words m) (tail_starts m) (zeros most_edges)
  pub from : tails ≡ map tail_of l
  pub starts : next ≡ take most_jobs (tail_starts m)

pub record Turnable (e tails next : List ℕ) : Type 0 where
  pub model : Model
  pub list : List Pair
  pub turning : Turning model list e tails next

-- the words hold the model whose successors were there
pub record Scattered (e tails next e' : List ℕ) : Type 0 where
  pub is : (m : Model) (l : List Pair) → Turning m l e tails next → e' ≡ encode m

pub record Drafted (e : List ℕ) (d : Draft) : Type 0 where
  pub model : Model
  pub list : List Pair
  pub draft : Drafts model list e d
  pub e_long : length e ≡ edges_length
  pub out_long : length d.out ≡ most_jobs
  pub ins_long : length d.ins ≡ most_jobs
  pub few : d.edges ≤ most_edges

-- the words hold the model that was drafted
pub record Turned (e : List ℕ) (d : Draft) (e' : List ℕ) : Type 0 where
  pub is : (m : Model) (l : List Pair) → Drafts m l e d → e' ≡ encode m
