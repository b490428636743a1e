-- The fixed list's edges: the model that the words hold once they are written. Assumes nothing.
use Rattle.std.specs.Prelude.{ℕ, ◌≤◌, ◌≡◌, false, List, [], map, leb, ltb, length, replicate}
use Rattle.rules.specs.Lists.{Pair, any_of, keep, table, times}
use Rattle.rules.specs.Routes.{adds, outs, turned}
use Rattle.rules.specs.Sizes.{edges_length, falls, most_fixed, most_jobs, pair_up}
use Rattle.edges.specs.Edges.{Holds, Model}

-- the pairs that give an edge: "with `to` below n"
abbrev pub valid : ℕ → List ℕ → List ℕ → List Pair
valid n f g = keep (λ e. ltb e.1 n) (pair_up f g)

-- the edges of the pairs l between n jobs: the stored lists of the rules, each edge with how often it stands in l; and the lists of the
-- same edges the other way round
unfoldable pub fixed_model : ℕ → List Pair → Model
fixed_model n l = record {
  succ = table most_jobs (λ u. map (λ v. record { to = v; times = times (u, v) l }) (outs (adds (replicate n []) l) u));
  pred = table most_jobs (outs (adds (replicate n []) (map turned l)));
}

-- the pairs (f, g) are a fixed list between n jobs, and e has room for the five tables
pub record Fixing (e f g : List ℕ) (n : ℕ) : Type 0 where
  pub size : length e ≡ edges_length
  pub to_long : length f ≤ length g
  pub few : length f ≤ most_fixed
  pub jobs : n ≤ most_jobs
  pub below : any_of (leb n) f ≡ false
  pub rising : falls 0 f ≡ false

-- e holds the edges of the pairs (f, g), and nothing else
abbrev pub Written : List ℕ → List ℕ → ℕ → List ℕ → Type 0
Written f g n e = Holds e (fixed_model n (valid n f g))
