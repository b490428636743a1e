-- Runs of bytes of one kind: where a run ends in two ways of cutting a text, the ways are one. Assumes nothing.
use Prim.Native.Nat.{ℕ, zero, suc, ◌<◌}
use native.Mathlib.Nat.{not-suc-le-zero}
use native.Mathlib.Omega.{arith}
use mathlib.Core.Path.{◌≡◌, refl, sym, ap, ◌∙◌}
use mathlib.Core.Bool.{Bool, true}
use mathlib.Core.List.{List, [], ◌∷◌, ◌++◌, append-nil}
use lib.ListN.{length, get_or}
pub use Rattle.rules.proofs.Ranges.{clash as unlike}
use Rattle.text.specs.Reads.{Every, Stops}

pub head_is : {a b : ℕ} {l m : List ℕ} → a ∷ l ≡ b ∷ m → a ≡ b
head_is e = cc

pub tail_is : {a b : ℕ} {l m : List ℕ} → a ∷ l ≡ b ∷ m → l ≡ m
tail_is e = cc

pub none_some : {A : Type 0} {b : ℕ} {m : List ℕ} → [] ≡ b ∷ m → A
none_some e = let z : ◌≡◌ {A = ℕ} 0 1 = cc in absurd (omega arith)

module _ (p : ℕ → Bool) where
  pub every_append : (a b : List ℕ) → Every p a → Every p b → Every p (a ++ b)
  every_append [] b e f = f
  every_append (x ∷ a) b (h, e) f = (h, every_append a b e f)

  pub every_at : (a : List ℕ) (x : ℕ) (m : List ℕ) → Every p (a ++ (x ∷ m)) → p x ≡ true
  every_at [] x m (h, f) = h
  every_at (y ∷ a) x m (h, f) = every_at a x m f

  pub every_get_or : (l : List ℕ) (i : ℕ) → Every p l → i < length l → p (get_or l i 0) ≡ true
  every_get_or [] i e h = absurd (not-suc-le-zero h)
  every_get_or (x ∷ l) zero (k, e) h = k
  every_get_or (x ∷ l) (suc i) (k, e) h = every_get_or l i e (omega arith)

  stopped : (x : ℕ) (a s : List ℕ) {A : Type 0} → p x ≡ true → Stops p s → x ∷ a ≡ s → A
  stopped x a [] h k e = none_some (sym e)
  stopped x a (y ∷ s) h k e = unlike h (ap p (head_is e) ∙ k)

  -- a run that ends, and a run that may go on: the one begins with the other
  pub begins_with : (a b : List ℕ) {r s : List ℕ} → Every p a → Stops p s → a ++ r ≡ b ++ s → (m : List ℕ) × (b ≡ a ++ m) × (r ≡ m ++ s)
  begins_with [] b e k q = (b, refl, q)
  begins_with (x ∷ a) [] {r} {s} (h, e) k q = stopped x (a ++ r) s h k q
  begins_with (x ∷ a) (y ∷ b) {r} {s} (h, e) k q =
      let u : x ≡ y = cc in
      let v : a ++ r ≡ b ++ s = cc in
      let (m, f, g) = begins_with a b e k v in
      (m, (cc), g)

  -- two runs that end
  pub cut_same : (a b : List ℕ) {r s : List ℕ} → Every p a → Every p b → Stops p r → Stops p s → a ++ r ≡ b ++ s → (a ≡ b) × (r ≡ s)
  cut_same a b {r} {s} e f j k q = go (begins_with a b e k q)
    where
      go : (m : List ℕ) × (b ≡ a ++ m) × (r ≡ m ++ s) → (a ≡ b) × (r ≡ s)
      go ([], g, h) = (sym (g ∙ append-nil a), h)
      go (x ∷ m, g, h) = stopped x (m ++ s) r (every_at a x m (rw g at f)) j (sym h)
