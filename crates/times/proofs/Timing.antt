-- The times' words of a plan: cyclic, or lined up with its starts; and what is read off them. Assumes nothing.
use Rattle.std.proofs.Common.{◌≡◌, ℕ, zero, suc, ◌+◌, ◌<◌, ◌≤◌, Bool, true, false, cond, not, ltb, ◌⊎◌, List, ◌∷◌, length, get_or, drop, replicate, sym, refl, ap, ◌∙◌, inl, inr, mod-eq_of_lt, arith, take_all, le-ltb, lt-ltb}
use Rattle.rules.specs.Lists.{table, greatest, tick, is_some}
use Rattle.rules.specs.Sizes.{Base, duration, most_jobs}
use Rattle.rules.specs.Graphs.{Graph}
use Rattle.rules.specs.Routes.{Plan, live}
use Rattle.rules.specs.Scores.{start, starts, floor_of, finish, makespan, is_cyclic, reported_start}
use Rattle.rules.specs.Shown.{order, shown_line_up}
use Rattle.rules.specs.Sound.{Sound}
use Rattle.rules.proofs.Bounds.{finish_few}
use Rattle.rules.proofs.Ranges.{lt_or_le, greatest_same}
use Rattle.rules.proofs.Tabled.{table_same, table_length, list_table}
use Rattle.starts.proofs.Unique.{same_beyond}
use Rattle.times.specs.Settles.{end_of, latest_of}
use Rattle.times.specs.Words.{span_words, time_words, start_of, cyclic_in, starts_in}
use Rattle.times.proofs.Graphing.{span_fun}

-- ── what is read ──

pub cyclic_read : (p : Plan) → cyclic_in (time_words p) ≡ is_cyclic p
unfolding time_words
cyclic_read p = go (is_cyclic p)
  where
    go : (b : Bool) → cyclic_in (tick b 0 ∷ makespan p ∷ table most_jobs (start_of p)) ≡ b
    go true = refl
    go false = refl

pub starts_read : (p : Plan) → starts_in (time_words p) ≡ table most_jobs (start_of p)
unfolding time_words
starts_read p = take_all most_jobs (table most_jobs (start_of p)) (omega (arith, table_length most_jobs (start_of p)))

-- ── a cyclic plan: "Starts are reported as 0 while cyclic." ──

zeros_table : (n : ℕ) → table {A = ℕ} n (λ v. 0) ≡ replicate n 0
zeros_table zero = refl
zeros_table (suc n) = ap {B = List ℕ} (λ (l : List ℕ). 0 ∷ l) (zeros_table n)

pub looped_words : (p : Plan) → is_cyclic p ≡ true → time_words p ≡ 1 ∷ 0 ∷ replicate most_jobs 0
unfolding time_words makespan reported_start
looped_words p e = λ i. tick (e i) 0 ∷ cond (e i) 0 (greatest p.base.jobs (λ v. true) (finish p)) ∷ rest i
  where
    none : (v : ℕ) → start_of p v ≡ 0
    none v = ap {B = ℕ} (λ (b : Bool). cond (ltb v p.base.jobs) (cond b 0 (starts p v)) 0) e ∙ zero_both (ltb v p.base.jobs)
      where
        zero_both : (b : Bool) → cond {A = ℕ} b 0 0 ≡ 0
        zero_both true = refl
        zero_both false = refl

    rest : table most_jobs (start_of p) ≡ replicate most_jobs 0
    rest = table_same most_jobs (start_of p) (λ v. 0) (λ v h. none v) ∙ zeros_table most_jobs

-- ── a plan that is not: its starts, those beyond its jobs as they were, and the latest end ──

pub calm_words : (p : Plan) → Sound p → is_cyclic p ≡ false → (st st' : List ℕ) → length st' ≡ most_jobs
    → ((v : ℕ) → v < p.base.jobs → get_or st' v 0 ≡ starts p v) → drop p.base.jobs st' ≡ drop p.base.jobs st
    → ((v : ℕ) → p.base.jobs ≤ v → get_or st v 0 ≡ 0) → 0 ∷ latest_of (span_words p.base) st' p.base.jobs ∷ st' ≡ time_words p
unfolding time_words makespan reported_start latest_of
calm_words p S e st st' len ins same none = λ i. tick (sym e i) 0 ∷ span i ∷ rest i
  where
    n : ℕ
    n = p.base.jobs

    fits : (v : ℕ) → v < n → end_of (span_words p.base) st' v ≡ finish p v
    fits v h =
        let a = ins v h in
        let b = ap (λ (f : ℕ → ℕ). f v) (span_fun p S) in
        let c = finish_few p S e v h in
        mod-eq_of_lt (omega arith) ∙ omega arith

    span : greatest n (λ v. true) (end_of (span_words p.base) st') ≡ cond (is_cyclic p) 0 (greatest n (λ v. true) (finish p))
    span = rw e (greatest_same n (λ v. true) (end_of (span_words p.base) st') (finish p) (λ v h q. fits v h))

    at : (v : ℕ) → (v < n) ⊎ (n ≤ v) → start_of p v ≡ get_or st' v 0
    at v (inl h) = rw (lt-ltb v n h, e) (sym (ins v h))
    at v (inr h) = rw (le-ltb v n h) (sym (same_beyond n st' st same v h ∙ none v h))

    rest : st' ≡ table most_jobs (start_of p)
    rest = list_table 0 st' ∙ ap (λ (k : ℕ). table k (λ v. get_or st' v 0)) len
        ∙ table_same most_jobs (λ v. get_or st' v 0) (start_of p) (λ v h. sym (at v (lt_or_le v n)))

-- ── what the words are told by: the base and the live edges ──

abbrev start_in : Base → Graph → ℕ → ℕ
start_in b E v = start b.jobs E (floor_of b) (duration b) b.jobs v

abbrev cyclic_of : Base → Graph → Bool
cyclic_of b E = not (is_some (order b.jobs E))

abbrev words_in : Base → Graph → List ℕ
words_in b E =
    tick (cyclic_of b E) 0
    ∷ cond (cyclic_of b E) 0 (greatest b.jobs (λ v. true) (λ v. start_in b E v + duration b v))
    ∷ table most_jobs (λ v. cond (ltb v b.jobs) (cond (cyclic_of b E) 0 (start_in b E v)) 0)

words_in_lem : (p : Plan) → time_words p ≡ words_in p.base (live p)
unfolding time_words makespan reported_start starts is_cyclic shown_line_up
words_in_lem p = refl

pub same_words : (p q : Plan) → p.base ≡ q.base → live p ≡ live q → time_words p ≡ time_words q
same_words p q b e = words_in_lem p ∙ (λ i. words_in (b i) (e i)) ∙ sym (words_in_lem q)
