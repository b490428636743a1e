-- Of any contents: bad input has its number exactly if lengths and header say so, and a refused load or reset alters nothing. Assumes nothing.
use Prim.Native.Nat.{ℕ}
use native.Mathlib.Omega.{arith}
use mathlib.Core.Path.{◌≡◌, refl, sym, ap, ◌∙◌}
use mathlib.Core.Bool.{false}
use mathlib.Core.Option.{Option, none, some}
use mathlib.Core.Logic.{◌↔◌}
use mathlib.Core.List.{List, ◌∷◌}
use Rattle.rules.specs.declared.Refusal.{Refusal}
use Rattle.rules.specs.Lists.{memb}
use Rattle.rules.specs.Sizes.{Loading}
use Rattle.rules.specs.Refusals.{number_of}
use Rattle.rules.specs.Calls.{Ask, Reply, refused, to_load, to_reset, refusal, accepted}
use Rattle.rules.proofs.Ranges.{clash}
use Rattle.rules.proofs.Refused.{accepted_step}
use Rattle.stores.specs.Headers.{open_of}
use Rattle.stores.specs.Promise.{Slices, lent_of, call_of, after, AnyPromise, Heeds, refused_by, later_of}

-- "given exactly if", where the other words have no say
pub exactly : {A : Type 0} {a : Ask} {s s' : Slices} {out out' : List A} {r : Reply} → Heeds a s s' out out' r → (k : Refusal)
    → memb (number_of k) (12 ∷ later_of a) ≡ false → (r ≡ refused k) ↔ (refused_by (open_of (lent_of s) s.base) a ≡ some k)
exactly {a = a} {s = s} {r = r} H k n = (to (refused_by (open_of (lent_of s) s.base) a) refl, H.first k)
  where
    to : (o : Option Refusal) → refused_by (open_of (lent_of s) s.base) a ≡ o → r ≡ refused k
        → refused_by (open_of (lent_of s) s.base) a ≡ some k
    to none f e = clash (H.later f k e) n
    to (some q) f e = let x = H.first q f in let z : q ≡ k = cc in f ∙ ap some z

-- a call that promises the same of any contents
any_stays : (a : Ask) → ((k : Refusal) → (accepted none a).reply ≡ refused k → ⊥) → {s s' : Slices} {r : Reply} → AnyPromise a s s' r
    → (k : Refusal) → r ≡ refused k → s' ≡ s
unfolding after
any_stays a n {s} {s'} {r} P k e = go (refusal none (call_of a s)) refl
  where
    go : (o : Option Refusal) → refusal none (call_of a s) ≡ o → s' ≡ s
    go (some q) f = (P.decides none).leaves ∙ rw f
    go none f = absurd (n k (sym (ap (λ x. x.reply) (accepted_step none (call_of a s) f)) ∙ sym (P.decides none).says ∙ e))

pub load_stays : {l : Loading} {s s' : Slices} {r : Reply} → AnyPromise (to_load l) s s' r → (k : Refusal) → r ≡ refused k → s' ≡ s
unfolding accepted
load_stays {l} = any_stays (to_load l) (λ k e. let z : ◌≡◌ {A = ℕ} 0 1 = cc in omega arith)

pub reset_stays : {s s' : Slices} {r : Reply} → AnyPromise to_reset s s' r → (k : Refusal) → r ≡ refused k → s' ≡ s
unfolding accepted
reset_stays = any_stays to_reset (λ k e. let z : ◌≡◌ {A = ℕ} 0 1 = cc in omega arith)
