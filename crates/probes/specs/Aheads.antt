-- Where the edges of a job lead that are on: the live ones that stay, then those that come on. Assumes nothing.
use Rattle.std.specs.Prelude.{◌≡◌, ℕ, ◌<◌, ◌≤◌, List, ◌++◌, length, drop}
use Rattle.rules.specs.Lists.{keep}
use Rattle.rules.specs.Sizes.{edges_length, most_entries, most_jobs}
use Rattle.edges.specs.Edges.{Model, Holds}
use Rattle.edges.specs.Lists.{out_of}
use Rattle.probes.specs.Chains.{Falls, heads_of, links_at, tables}
use Rattle.probes.specs.Seen.{stays}
use Rattle.probes.specs.declared.chain.Leads.{Leads}
use Rattle.probes.specs.declared.heads.Heads.{Heads}
use Rattle.probes.specs.declared.on.On.{On}
use Rattle.probes.specs.declared.view.View.{View}
use Rattle.probes.specs.declared.chain.Chain.{Chain}

-- of a list of heads of u those whose edge stays on
abbrev pub staying : Chain → ℕ → List ℕ → List ℕ
staying off u l = keep (λ v. stays off u v) l

-- of u, whose live heads are the row
unfoldable pub heads_on : List ℕ → Chain → Chain → ℕ → List ℕ
heads_on row off plus u = staying off u row ++ heads_of plus u

-- the edges' words and two sets
pub record Ons (o : On) : Type 0 where
  pub live : length o.live.now ≡ edges_length
  pub off : Falls most_entries o.off.now
  pub plus : Falls most_entries o.plus.now

-- ── one after the other ──

-- the set whose edges are given
abbrev pub set_of : Leads → Chain
set_of l = tables l.first.now l.next.now l.head.now

-- a link of a set
pub record Chained (l : Leads) : Type 0 where
  pub falls : Falls most_entries (set_of l)
  pub near : l.at ≤ most_entries

-- the heads that are still to come, of a set
unfoldable pub links_left : Leads → List ℕ
links_left l = links_at (set_of l) l.at

-- the set of those that are off
abbrev pub off_of : View → Chain
off_of v = tables v.first.now v.next.now v.head.now

pub record Walks (h : Heads) : Type 0 where
  pub off : Falls most_entries (off_of h.view)
  pub job : h.u < most_jobs
  pub plus : Chained h.plus

-- and of a job's edges that are on
unfoldable pub heads_left : Heads → List ℕ
heads_left h = staying (off_of h.view) h.u (drop h.place h.view.live.now) ++ links_left h.plus

-- those of u, in whatever model the words hold
pub record Sees (e : List ℕ) (off plus : Chain) (u : ℕ) (l : List ℕ) : Type 0 where
  pub is : (m : Model) → Holds e m → l ≡ heads_on (out_of m u) off plus u
