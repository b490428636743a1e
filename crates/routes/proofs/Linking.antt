-- The loop of `links_of`: the edges written and those of the stops that are left are a route's edges. Assumes nothing.
use Rattle.std.proofs.Common.{◌≡◌, ℕ, ◌+◌, ◌*◌, ◌/◌, ◌%◌, ◌<◌, ◌≤◌, List, ◌++◌, length, get_or, take, drop, set, sym, refl, ◌∙◌, append_assoc, append-nil, add-one, arith, length-set, take-suc-set, rules, eq-eqb, ne_eqb}
use Rattle.rules.specs.Sizes.{most_jobs}
use Rattle.routes.specs.Differs.{codes, Linked}
use Rattle.words.proofs.Rows.{row_cons, row_none}

pub record Linking (s out : List ℕ) (n last i : ℕ) : Type 0 where
  pub room : length s ≤ length out
  pub few : n ≤ i
  pub rest : take n out ++ codes last (drop i s) ≡ codes 0 s

pub linking_none : (s out : List ℕ) → length s ≤ length out → Linking s out 0 0 0
linking_none s out h = record { room = h; few = omega arith; rest = refl }

module _ {s out : List ℕ} {n last i : ℕ} (k : Linking s out n last i) (h : i < length s) {job : ℕ} (j : job ≡ get_or s i 0 / 2) where
  pub linking_joined : {c : ℕ} → c ≡ last * most_jobs + job → get_or s i 0 % 2 ≡ 1 → Linking s (set out n c) (n + 1) job (i + 1)
  unfolding codes
  linking_joined {c} e o = let f = k.few in let l = k.room in record {
    room = simp length-set l;
    few = omega arith;
    rest = rw (add-one n, take-suc-set out n c (omega arith), append_assoc, e, j)
        (sym (rw (row_cons s i h, eq-eqb (get_or s i 0 % 2) 1 o)) ∙ k.rest);
  }

  pub linking_apart : (get_or s i 0 % 2 ≡ 1 → ⊥) → Linking s out n job (i + 1)
  unfolding codes
  linking_apart o = let f = k.few in record {
    room = k.room;
    few = omega arith;
    rest = rw j (sym (rw (row_cons s i h, ne_eqb (get_or s i 0 % 2) 1 o)) ∙ k.rest);
  }

pub linking_done : {s out : List ℕ} {n last i : ℕ} → Linking s out n last i → i ≤ length s → length s ≤ i → Linked s out n
unfolding codes
linking_done {s} {out} {n} {last} {i} k a b = let f = k.few in record {
  few = omega arith;
  written = sym (append-nil (take n out)) ∙ sym (rw (row_none s i b)) ∙ k.rest;
}

pub ruleset linking = (rules, linking_none, linking_joined, linking_apart, linking_done)
