-- The starts of the rows over a draft, and where the first edge to each job goes: what the predecessors are written from. Assumes nothing.
use Prim.Native.Nat.{ℕ, ◌≤◌}
use mathlib.Core.Path.{◌≡◌, sym, ap, ◌∙◌}
use mathlib.Core.List.{List, ◌++◌, map}
use native.Mathlib.Omega.{arith}
use lib.ListN.{take, drop, length-map}
use lib.Seq.{take-take}
use Rattle.rules.specs.Lists.{Pair}
use Rattle.rules.specs.Sizes.{most_jobs}
use Rattle.edges.specs.Layout.{most_edges, starts_length, tail_starts_at}
use Rattle.edges.specs.Rows.{zeros}
use Rattle.edges.specs.Edges.{Model, Wf, head_starts, head_words, count_words, tail_starts, tabs}
use Rattle.edges.specs.Drafting.{Drafts, Scattered, Turnable, Turned, Turning, running, sum, tail_of}
use Rattle.edges.specs.declared.fixed.Draft.{Draft}
use Rattle.edges.proofs.Rows as rows
use Rattle.edges.proofs.Tabs.{Five, at_po, at_so, new_po, new_so}
use Rattle.edges.proofs.Store.{po_long, so_long}
use Rattle.edges.proofs.Drafts.{five}
use Rattle.edges.proofs.Sums.{running_offs, sum_flat}

-- e with a in place of the starts of the rows of heads, and with b in place of those of tails
abbrev first : List ℕ → List ℕ → List ℕ
first e a = a ++ drop starts_length e

abbrev second : List ℕ → List ℕ → List ℕ
second e b = take tail_starts_at e ++ (b ++ drop starts_length (drop tail_starts_at e))

module _ {m : Model} {l : List Pair} {e : List ℕ} {d : Draft} (D : Drafts m l e d) where
  wf : Wf m
  wf = D.order.wf

  pub out_fits : sum d.out ≤ 65535
  out_fits = omega (arith, ap sum D.degrees ∙ sum_flat m.succ, wf.room)

  pub ins_fits : sum d.ins ≤ 65535
  ins_fits = omega (arith, ap sum D.in_degrees ∙ sum_flat m.pred, wf.paired, wf.room)

  module _ {a : List ℕ} (ea : a ≡ running 0 d.out) where
    five_first : Five (first e a) (head_starts m) (head_words m) (count_words m) (zeros starts_length) (zeros most_edges)
    five_first =
        new_so (five D)
        ((at_so (five D)).write a
        ∙ ap (λ y. tabs y (head_words m) (count_words m) (zeros starts_length) (zeros most_edges))
        (ea ∙ ap (running 0) D.degrees ∙ running_offs 0 m.succ))
        (so_long m wf)

    module _ {b : List ℕ} (eb : b ≡ running 0 d.ins) where
      five_second : Five (second (first e a) b) (head_starts m) (head_words m) (count_words m) (tail_starts m) (zeros most_edges)
      five_second =
          new_po five_first
          ((at_po five_first).write b
          ∙ ap (λ y. tabs (head_starts m) (head_words m) (count_words m) y (zeros most_edges))
          (eb ∙ ap (running 0) D.in_degrees ∙ running_offs 0 m.pred))
          (po_long m wf)

      starts : take most_jobs (drop tail_starts_at (second (first e a) b)) ≡ take most_jobs (tail_starts m)
      starts =
          sym (take-take most_jobs starts_length (drop tail_starts_at (second (first e a) b)) (omega arith))
          ∙ ap (take most_jobs) (at_po five_second).read

      turning : {next : List ℕ} → next ≡ take most_jobs (drop tail_starts_at (second (first e a) b))
          → Turning m l (second (first e a) b) (take d.edges d.tails) next
      turning en = record {
        order = D.order;
        words = five_second.words;
        from =
            ap (λ (x : List ℕ). take d.edges x) D.from
            ∙ rows.pad_take most_edges d.edges (map tail_of l) (length-map l tail_of ∙ sym D.total);
        starts = en ∙ starts;
      }

-- ── for the code ──

module _ {m : Model} {l : List Pair} {e : List ℕ} {d : Draft} (D : Drafts m l e d) {a b next : List ℕ}
    (ea : a ≡ running 0 d.out) (eb : b ≡ running 0 d.ins)
    (en : next ≡ take most_jobs (drop tail_starts_at (second (first e a) b))) where
  pub turnable : Turnable (second (first e a) b) (take d.edges d.tails) next
  turnable = record { model = m; list = l; turning = turning D ea eb en }

  pub turned : {e' : List ℕ} → Scattered (second (first e a) b) (take d.edges d.tails) next e' → Turned e d e'
  turned R = record { is = λ m l D. R.is m l (turning D ea eb en) }
