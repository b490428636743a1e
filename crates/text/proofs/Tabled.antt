-- The table of words: no name stands twice in it, and a line's word is found in it row by row. Assumes nothing.
use Prim.Native.Nat.{ℕ, ◌+◌, ◌≤◌, ◌<◌}
use native.Mathlib.Omega.{arith}
use native.Mathlib.Numerals.{add-one}
use mathlib.Core.Path.{◌≡◌, refl, sym, ap, ◌∙◌}
use mathlib.Core.Bool.{Bool, true, false, cond, not, ◌&&◌}
use mathlib.Core.Option.{Option, none, some}
use Rattle.std.specs.Prelude.{None}
use mathlib.Core.List.{List, [], ◌∷◌}
use borrow.Author.Rules.{rules}
use lib.Dec.{eqb}
use lib.ListN.{length, get_or, drop, drop_of_length-le}
use lib.Seq.{drop-cons}
use Rattle.rules.specs.Lists.{keep, memb, table}
use Rattle.rules.proofs.Ranges.{and_true}
use Rattle.text.specs.declared.vocabulary.Word.{Word}
use Rattle.text.specs.declared.vocabulary.Word.TheVariants.{Plan, Dur, Fix, Go, Put, Cut, Show, Crit}
use Rattle.text.specs.Grammar.{name_of, all_words}
use Rattle.text.specs.Reads.{not_space, not_end, Every, Named, Words}

-- ── every word has its row, and its name is its own ──

alike : List ℕ → List ℕ → Bool
alike [] [] = true
alike [] (b ∷ m) = false
alike (a ∷ l) [] = false
alike (a ∷ l) (b ∷ m) = eqb a b && alike l m

-- the first word of a list that has a name
named : List ℕ → List Word → Option Word
named name [] = none
named name (w ∷ ws) = cond (alike (name_of w) name) (some w) (named name ws)

word_back : (w : Word) → named (name_of w) all_words ≡ some w
unfolding alike named
word_back Plan = refl
word_back Dur = refl
word_back Fix = refl
word_back Go = refl
word_back Put = refl
word_back Cut = refl
word_back Show = refl
word_back Crit = refl

pub name_same : (w v : Word) → name_of w ≡ name_of v → w ≡ v
name_same w v e = let q : some w ≡ some v = sym (word_back w) ∙ ap (λ (l : List ℕ). named l all_words) e ∙ word_back v in cc

-- the rows of all words but some, as an arm for any other word is told them
abbrev pub rows_but : List ℕ → List ℕ
rows_but ks = keep (λ k. not (memb k ks)) (table (length all_words) (λ v. v))

-- ── what holds in each row holds of every word ──

abbrev Each : (Word → Type 0) → List Word → Type 0
Each P [] = Unit
Each P (w ∷ ws) = P w × Each P ws

each_named : (P : Word → Type 0) (name : List ℕ) (ws : List Word) {w : Word} → Each P ws → named name ws ≡ some w → P w
unfolding named
each_named P name [] x e = let z : ◌≡◌ {A = ℕ} 0 1 = cc in absurd (omega arith)
each_named P name (v ∷ ws) {w} (p, x) e = by (alike (name_of v) name) e (each_named P name ws x)
  where
    by : (b : Bool) → cond b (some v) (named name ws) ≡ some w → (named name ws ≡ some w → P w) → P w
    by true f later = let q : v ≡ w = cc in rw q at p
    by false f later = later f

each : (P : Word → Type 0) → Each P all_words → (w : Word) → P w
each P x w = each_named P (name_of w) all_words x (word_back w)

-- a test that holds in each row holds of every word
abbrev pub all_of : {A : Type 0} → (A → Bool) → List A → Bool
all_of p [] = true
all_of p (x ∷ l) = p x && all_of p l

rows_of : (p : Word → Bool) (ws : List Word) → all_of p ws ≡ true → Each (λ w. p w ≡ true) ws
rows_of p [] e = tt
rows_of p (w ∷ ws) e = let (f, g) = and_true e in (f, rows_of p ws g)

pub each_tested : (p : Word → Bool) → all_of p all_words ≡ true → (w : Word) → p w ≡ true
each_tested p e = each (λ w. p w ≡ true) (rows_of p all_words e)

-- one of every byte of every name
every_of : (p : ℕ → Bool) (l : List ℕ) → all_of p l ≡ true → Every p l
every_of p [] e = tt
every_of p (b ∷ l) e = let (f, g) = and_true e in (f, every_of p l g)

pub name_spaceless : (w : Word) → Every not_space (name_of w)
name_spaceless w = every_of not_space (name_of w) (each_tested (λ v. all_of not_space (name_of v)) refl w)

pub name_endless : (w : Word) → Every not_end (name_of w)
name_endless w = every_of not_end (name_of w) (each_tested (λ v. all_of not_end (name_of v)) refl w)

-- ── word by word ──

abbrev Unnamed : List ℕ → Word → Type 0
Unnamed line w = Named line (name_of w) → ⊥

-- the line begins with none of the first i words
pub record Naming (line : List ℕ) (i : ℕ) : Type 0 where
  pub few : i ≤ length all_words
  pub passed : Each (Unnamed line) (drop i all_words) → Each (Unnamed line) all_words

pub naming_start : (line : List ℕ) → Naming line 0
naming_start line = record { few = omega arith; passed = λ x. x }

module _ {line : List ℕ} {i : ℕ} (N : Naming line i) where
  pub naming_none : length all_words ≤ i → Words line None
  naming_none h = each (Unnamed line) (N.passed (rw (drop_of_length-le all_words h) tt))

  pub naming_next : {name : List ℕ} → name ≡ name_of (get_or all_words i Plan) → i < length all_words → (Named line name → ⊥) → Naming line (i + 1)
  naming_next e h u = record { few = omega arith; passed = λ x. N.passed (rw (drop-cons all_words i Plan h) (rw e at u, rw add-one at x)) }

pub ruleset tabled = (rules, naming_start, naming_none, naming_next)
