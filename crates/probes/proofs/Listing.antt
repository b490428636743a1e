-- Lists of jobs: those of a list that pass a test, and those below n. Assumes nothing.
use Rattle.std.proofs.Common.{◌≡◌, ℕ, zero, suc, ◌<◌, Bool, true, false, cond, ◌&&◌, ◌||◌, eqb, ◌⊎◌, List, [], ◌∷◌, length, sym, subst, refl, ap, ◌∙◌, inl, inr, ⊎_elim, not-suc-le-zero, arith, eq-eqb, ne_eqb, eqb-true}
use Rattle.rules.specs.Lists.{Once, count, keep, memb, tick}
use Rattle.rules.proofs.Members.{or-true}
use Rattle.rules.proofs.Ranges.{Test, and_true, below, clash, fail, pass, same, test}
use Rattle.graphs.proofs.Kahn.{memb_later, memb_self}
use Rattle.graphs.proofs.Linked.{Linked}
use Rattle.starts.specs.Lines.{Lows}
use Rattle.probes.specs.Fulls.{down, lead_to, pres_of}

pub keep_memb : (p : ℕ → Bool) (l : List ℕ) (v : ℕ) → memb v (keep p l) ≡ memb v l && p v
keep_memb p [] v = refl
keep_memb p (w ∷ l) v = look (same v w) (test (p w)) (keep_memb p l v)
  where
    none : (a b : Bool) → a && false ≡ b && false
    none true true = refl
    none true false = refl
    none false true = refl
    none false false = refl

    look : (v ≡ w) ⊎ (v ≡ w → ⊥) → Test (p w) → memb v (keep p l) ≡ memb v l && p v
        → memb v (cond (p w) (w ∷ keep p l) (keep p l)) ≡ (eqb v w || memb v l) && p v
    look (inl e) (pass q) ih = rw (q, e, eq-eqb w w refl, q)
    look (inl e) (fail q) ih = rw q (ih ∙ rw (e, q) (none (memb w l) (eqb w w || memb w l)))
    look (inr e) (pass q) ih = rw (q, ne_eqb v w e) ih
    look (inr e) (fail q) ih = rw (q, ne_eqb v w e) ih

pub keep_once : (p : ℕ → Bool) (l : List ℕ) → Once l → Once (keep p l)
keep_once p [] o = tt
keep_once p (w ∷ l) (a, o) = look (test (p w)) (keep_once p l o)
  where
    look : Test (p w) → Once (keep p l) → Once (cond (p w) (w ∷ keep p l) (keep p l))
    look (pass q) ih = rw q (keep_memb p l w ∙ rw a, ih)
    look (fail q) ih = rw q ih

-- ── the jobs below n ──

down_low : (n u : ℕ) → memb u (down n) ≡ true → u < n
down_low zero u e = clash e refl
down_low (suc n) u e =
    ⊎_elim (λ (x : eqb u n ≡ true). let z = eqb-true u n x in omega arith)
    (λ (x : memb u (down n) ≡ true). let z = down_low n u x in omega arith) (or-true {a = eqb u n} e)

down_in_lem : (n u : ℕ) → u < n → memb u (down n) ≡ true
down_in_lem zero u h = absurd (not-suc-le-zero h)
down_in_lem (suc n) u h = ⊎_elim (λ (x : u < n). memb_later u n (down n) (down_in_lem n u x)) (λ (x : u ≡ n). subst (λ (y : ℕ). memb y (n ∷ down n) ≡ true) (sym x) (memb_self n (down n))) (below h)

down_once : (n : ℕ) → Once (down n)
down_once zero = tt
down_once (suc n) = (new (test (memb n (down n))), down_once n)
  where
    new : Test (memb n (down n)) → memb n (down n) ≡ false
    new (fail e) = e
    new (pass e) = let f : ⊥ = (let a = down_low n n e in omega arith) in absurd f

down_count : (p : ℕ → Bool) (n : ℕ) → length (keep p (down n)) ≡ count n p
down_count p zero = refl
down_count p (suc n) = look (p n) (down_count p n)
  where
    look : (b : Bool) → length (keep p (down n)) ≡ count n p → length (cond b (n ∷ keep p (down n)) (keep p (down n))) ≡ tick b (count n p)
    look true ih = ap suc ih
    look false ih = ih

-- ── those that lead to a job ──

pub pres_length : (out : ℕ → List ℕ) (n v : ℕ) → length (pres_of out n v) ≡ lead_to out n v
pres_length out n v = down_count (λ u. memb v (out u)) n

pub linked_pres : (n : ℕ) (out : ℕ → List ℕ) → ((u : ℕ) → u < n → Once (out u)) → ((u : ℕ) → u < n → Lows n (out u))
    → Linked n out (pres_of out n)
linked_pres n out once low = record {
  out_once = once;
  pre_once = λ v hv. keep_once (λ u. memb v (out u)) (down n) (down_once n);
  out_low = λ u v hu e. low u hu v e;
  pre_low = λ u v hv e. down_low n u (and_true {a = memb u (down n)} (sym (keep_memb (λ x. memb v (out x)) (down n) u) ∙ e)).0;
  both = λ u v hu hv. sym (keep_memb (λ x. memb v (out x)) (down n) u ∙ rw (down_in_lem n u hu));
}
