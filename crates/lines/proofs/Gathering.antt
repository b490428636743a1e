-- The lines so far: what the rest opens to, the whole input opens to. Assumes nothing.
use Prim.Native.Nat.{ℕ, suc, ◌+◌, ◌-◌, ◌*◌, ◌≤◌, ◌<◌}
use native.Mathlib.Numerals.{add-one}
use native.Mathlib.Omega.{arith}
use mathlib.Core.Path.{◌≡◌, refl}
use mathlib.Core.List.{List, []}
use borrow.Author.Rules.{rules}
use lib.ListN.{length, take, drop, length-take, length-drop, drop_of_length-le}
use Rattle.text.specs.declared.vocabulary.Word.{Word}
use Rattle.text.specs.declared.vocabulary.Word.TheVariants.{Go}
use Rattle.std.specs.Prelude.{Option, Some, None}
use Rattle.text.specs.Reads.{Ends}
use Rattle.text.proofs.LineEnds.{part_short}
use Rattle.lines.specs.declared.steps.Outcome.TheVariants.{Next, Go as Goes}
use Rattle.lines.specs.declared.steps.Stage.{Stage}
use Rattle.lines.specs.declared.steps.Stage.TheVariants.{Plan as ForPlan}
use Rattle.lines.specs.declared.steps.Typed.{Typed}
use Rattle.lines.specs.Lines.{Spelt, Leads}
use Rattle.lines.specs.Opens.{Misfit, Opening, opened, bad, nothing, Opens, ends, goes, unfit, line, OpensAll}
use Rattle.lines.specs.Steps.{typing_of, Within, LineTaken}
use Rattle.lines.proofs.Spelling.{none_leads, spelt_leads, leads_spelt, fix_long}

-- k lines are read, up to place `at`
pub record Gathering (input : List ℕ) (st : Stage) (p : Typed) (at k : ℕ) (d f t : List ℕ) : Type 0 where
  pub reached : at ≤ length input
  pub few : 8 * p.fixed ≤ at
  pub lines : k ≤ at
  pub within : Within p d f t
  pub opens : (x : Opening) → Opens st (typing_of p d f t) k (drop at input) x → OpensAll input x

pub gather_start : (input d f t : List ℕ) → Gathering input ForPlan (record { jobs = 0; owners = 0; durations = 0; fixed = 0 }) 0 0 d f t
gather_start input d f t = record {
  reached = omega arith;
  few = omega arith;
  lines = omega arith;
  within = record { durations = omega arith; from = omega arith; to = omega arith };
  opens = λ x O. O;
}

module _ {input : List ℕ} {st : Stage} {p : Typed} {at k : ℕ} {d f t : List ℕ} (G : Gathering input st p at k d f t) where
  pub gather_ends : length input ≤ at → OpensAll input nothing
  gather_ends h = G.opens nothing (rw (drop_of_length-le input {i = at} h) ends)

  unfits : Misfit (typing_of p d f t) st (drop at input) → OpensAll input (bad (k + 1))
  unfits M = rw add-one (G.opens (bad (suc k)) (unfit M))

module _ {input : List ℕ} {st : Stage} {p : Typed} {at k : ℕ} {d f t : List ℕ} (G : Gathering input st p at k d f t) (h : at < length input) where
  some : 0 < length (drop at input)
  some = rw length-drop (omega arith)

  -- without an LF there is no line
  pub gather_endless : (r : Option ℕ) → Ends 10 input at r → ((e : ℕ) → r ≡ Some e → ⊥) → OpensAll input (bad (k + 1))
  gather_endless None n u =
      unfits G record { some_left = some; no_line_lem = λ w ns r st' t' L F. none_leads n L; no_go = λ r q L. none_leads n L }
  gather_endless (Some e) E u = absurd (u e refl)

  module _ {e : ℕ} (E : Ends 10 input at (Some e)) where
    -- the line up to the LF
    the_line : List ℕ
    the_line = take (e - at) (drop at input)

    leads : {w : Word} {ns : List ℕ} → Spelt the_line w ns → Leads (drop at input) w ns (drop (suc e) input)
    unfolding the_line
    leads = spelt_leads _ _ E.text

    spelt : {w : Word} {ns r : List ℕ} → Leads (drop at input) w ns r → Spelt the_line w ns
    unfolding the_line
    spelt = leads_spelt _ _ E.text E.line

    module _ (d' f' t' : List ℕ) where
      pub gather_bad : LineTaken (take (e - at) (drop at input)) st p d f t None d' f' t' → OpensAll input (bad (k + 1))
      unfolding the_line
      gather_bad M = unfits G record {
        some_left = some;
        no_line_lem = λ w ns r st' t' L F. (M w ns (spelt L)).no_line_lem st' t' F;
        no_go = λ r q L. (M Go [] (spelt L)).no_go q refl;
      }

      module _ (L : LineTaken (take (e - at) (drop at input)) st p d f t (Some Goes) d' f' t') where
        pub gather_go : OpensAll input (opened (typing_of p d' f' t') (drop (e + 1) input) (k + 1))
        unfolding the_line
        gather_go =
            let (w, ns, s, H) = L in
            let m = H.same in
            let l = leads (rw (H.word, H.alone) at s) in
            let O = G.opens (opened (typing_of p d f t) (drop (suc e) input) (suc k)) (rw H.last (goes l)) in
            rw (m.durations, m.from, m.to, add-one e, add-one k) O

        pub gather_within : Within p d' f' t'
        gather_within = let (w, ns, s, H) = L in let m = H.same in rw (m.durations, m.from, m.to) G.within

      pub gather_turn : {st' : Stage} {p' : Typed} → LineTaken (take (e - at) (drop at input)) st p d f t (Some (Next st' p')) d' f' t'
          → Gathering input st' p' (e + 1) (k + 1) d' f' t'
      unfolding the_line
      gather_turn {st'} {p'} (w, ns, s, T) =
          let a = E.ahead in
          let i = E.within in
          let y = G.few in
          let z = G.lines in
          let l : length (take (e - at) (drop at input)) ≡ e - at = rw (length-take, length-drop) (omega arith) in
          let b = T.few (length (take (e - at) (drop at input))) (λ x. fix_long x s) in
          record {
            reached = omega arith;
            few = omega arith;
            lines = omega arith;
            within = T.within G.within;
            opens = λ x O. G.opens x (line (leads s) T.fits (rw (add-one e, add-one k) at O));
          }

pub ruleset gathering = (rules, part_short, gather_start, gather_ends, gather_endless, gather_bad, gather_go, gather_within, gather_turn)
