-- The promises decide the whole of a call: two replies that keep one are one, and leave the same in every lent place. Assumes nothing.
use Rattle.std.proofs.Common.{◌≡◌, Result, Ok, Err, ℕ, List, length, get_or, sym, ap, ◌∙◌, arith}
use lib.Seq.{sets}
use Rattle.rules.specs.declared.Block.{Block}
use Rattle.rules.specs.declared.Refusal.{Refusal}
use Rattle.rules.specs.Routes.{State}
use Rattle.rules.specs.Calls.{Reply}
use Rattle.rules.specs.Blocks.{no_block}
use Rattle.rules.proofs.Tabled.{table_length}
use Rattle.stores.specs.Promise.{Slices, StandsFor}
use Rattle.blocks.specs.Promise.{BlocksDecided, BlocksPromise, Leads, NextPromise, SearchPromise, blocks_in, records, says_blocked}
use Rattle.blocks.specs.Searches.{tally}
use Rattle.blocks.specs.declared.blocks.Found.{Found}
use Rattle.blocks.specs.declared.blocks.Spot.{Spot}

-- as the rules have replies
pub decided_unique : {t : State} {os : List ℕ} {s s₁ s₂ : Slices} {out o₁ o₂ : List Block} {r₁ r₂ : Reply}
    → BlocksDecided t os s s₁ out o₁ r₁ → BlocksDecided t os s s₂ out o₂ r₂ → (r₁ ≡ r₂) × (s₁ ≡ s₂) × (o₁ ≡ o₂)
decided_unique {out = out} d e =
    let q = d.says ∙ sym e.says in
    (q, d.leaves ∙ sym e.leaves, d.answers ∙ ap (λ (r : Reply). sets out 0 (blocks_in r)) q ∙ sym e.answers)

pub records_length : (n : ℕ) (out : List Block) → length (records n out) ≡ n
unfolding records
records_length n out = table_length n (λ v. get_or out v no_block)

-- as the call answers: no two answers mean the same
pub blocked_same : (out : List Block) (x y : Result ℕ Refusal) → says_blocked out x ≡ says_blocked out y → x ≡ y
blocked_same out (Ok n) (Ok m) e =
    let q : records n out ≡ records m out = cc in
    ap Ok (sym (records_length n out) ∙ ap length q ∙ records_length m out)
blocked_same out (Ok n) (Err r) e = let z : ◌≡◌ {A = ℕ} 0 1 = cc in absurd (omega arith)
blocked_same out (Err r) (Ok n) e = let z : ◌≡◌ {A = ℕ} 0 1 = cc in absurd (omega arith)
blocked_same out (Err r) (Err q) e = cc

-- of a store that stands for something
pub blocks_unique : {os : List ℕ} {s s₁ s₂ : Slices} {out o₁ o₂ : List Block} (t : State) → StandsFor s t → (x y : Result ℕ Refusal)
    → BlocksPromise os s s₁ out o₁ (says_blocked o₁ x) → BlocksPromise os s s₂ out o₂ (says_blocked o₂ y)
    → (x ≡ y) × (s₁ ≡ s₂) × (o₁ ≡ o₂)
blocks_unique {o₁ = o₁} t h x y p q =
    let (a, b, c) = decided_unique (p.decides t h) (q.decides t h) in
    (blocked_same o₁ x y (a ∙ ap (λ (o : List Block). says_blocked o y) (sym c)), b, c)

-- one block at a time: the same answer, and at each call the same block
pub search_unique : {os : List ℕ} {room : ℕ} {s : Slices} {x y : Result Found Refusal} (t : State) → StandsFor s t → SearchPromise os room s x
    → SearchPromise os room s y → tally x ≡ tally y
search_unique t h p q = (p.decides t h).answer ∙ sym (q.decides t h).answer

pub next_unique : {os : List ℕ} {s : Slices} {f g : Found} {at bt x y : Spot} (bs : List Block) → Leads os s f at bs → Leads os s g bt bs
    → NextPromise os s f at x → NextPromise os s g bt y → x.block ≡ y.block
next_unique bs l m p q = p.block bs l ∙ sym (q.block bs m)
