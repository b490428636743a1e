-- Where an edge stands in its row: its count there, and the tables with another count. Where it does not: the model with it. Assumes
-- nothing.
use Prim.Native.Nat.{ℕ, ◌+◌, ◌<◌}
use native.Mathlib.Omega.{arith}
use mathlib.Core.Path.{◌≡◌, refl, sym, ap, ◌∙◌}
use mathlib.Core.Bool.{true, false}
use mathlib.Core.List.{List, [], ◌∷◌, ◌++◌, map}
use lib.ListN.{length, get_or, set, length-append}
use lib.Seq.{set-get_or}
use Rattle.rules.specs.Sizes.{most_jobs}
use Rattle.edges.specs.Layout.{most_edges}
use Rattle.edges.specs.Rows.{flat}
use Rattle.edges.specs.Edges.{Edge, Model, Wf, add_edge, count_of, count_words, has_edge, head_starts, times_of, to_of}
use Rattle.edges.proofs.Rows as rows
use Rattle.edges.proofs.Row.{Split, memb_at, more_at, more_new, one, times_at}
use Rattle.edges.proofs.More.{is_row, with_both}

module _ {m : Model} (w : Wf m) {i j : ℕ} (hi : i < most_jobs) (hj : j < most_jobs) where
  abbrev row : List Edge
  row = get_or m.succ i []

  in_succ : i < length m.succ
  in_succ = is_row m w i j hi hj

  pub new_is : has_edge m i j ≡ false → add_edge m i j ≡ with_both m i (row ++ one j ∷ []) j (get_or m.pred j [] ++ i ∷ [])
  unfolding add_edge has_edge
  new_is new = rw (more_new j row new, sym (w.linked i j hi hj) ∙ new)

  module _ {p : ℕ} (k : Split to_of j (get_or (head_starts m) i 0) row p) where
    pub has : has_edge m i j ≡ true
    unfolding has_edge
    has = rw k.parts (memb_at j k.d k.b k.key k.a k.before)

    pub there : p < most_edges
    there =
        let inside : length k.a < length row = rw k.parts (rw length-append (omega arith)) in
        omega (arith, k.place, rows.row_in to_of most_edges m.succ i in_succ (length k.a) inside, w.room)

    pub counts : count_of m i j ≡ k.d.times
    unfolding count_of
    counts = rw k.parts (times_at j k.d k.b k.key k.a k.before)

    pub count_there : get_or (count_words m) p 0 ≡ count_of m i j
    count_there = rows.row_get times_of most_edges m.succ i in_succ k.a k.b k.d k.parts p k.place ∙ sym counts

    module _ (v : ℕ) where
      abbrev other : Edge
      other = record { to = k.d.to; times = v }

      -- another count of the edge
      abbrev pub retimed : Model
      retimed = record { succ = set m.succ i (k.a ++ other ∷ k.b); pred = m.pred }

      pub row_long : length (k.a ++ other ∷ k.b) ≡ length row
      row_long = rw k.parts (simp length-append)

      pub starts_kept : head_starts retimed ≡ head_starts m
      starts_kept = rows.offs_same 0 m.succ i (k.a ++ other ∷ k.b) in_succ row_long

      pub heads_kept : map to_of (flat retimed.succ) ≡ map to_of (flat m.succ)
      heads_kept = rows.row_kept to_of most_edges m.succ i in_succ k.a k.b k.d k.parts p k.place other refl

      pub count_put : set (count_words m) p v ≡ count_words retimed
      count_put = rows.row_put times_of most_edges m.succ i in_succ k.a k.b k.d k.parts p k.place other

      pub more_is : v ≡ count_of m i j + 1 → add_edge m i j ≡ retimed
      unfolding add_edge
      more_is ev = rw (
        k.parts,
        more_at j k.d k.b k.key k.a k.before,
        sym (ev ∙ ap (λ (n : ℕ). n + 1) counts),
        sym (w.linked i j hi hj) ∙ has,
        set-get_or m.pred j [],
      )
