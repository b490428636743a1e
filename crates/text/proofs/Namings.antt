-- A line's word: two words that a line begins with are one, and what a line's text comes to. Assumes nothing.
use Prim.Native.Nat.{ℕ, ◌<◌}
use native.Mathlib.Omega.{arith}
use mathlib.Core.Path.{◌≡◌, refl, sym, ap, ◌∙◌}
use mathlib.Core.Bool.{Bool, true, false}
use mathlib.Core.Logic.{inl, inr}
use mathlib.Core.List.{List, [], ◌∷◌, ◌++◌}
use borrow.Author.Rules.{rules}
use lib.Dec.{eqb}
use lib.Pointwise.{pointwise}
use Rattle.std.proofs.lemmas.Slice.Eq.{bytes_eq-Decides}
use lib.ListN.{length, get_or, take, drop, take-append-drop}
use lib.Seq.{drop-cons, drop-append_seam, take-append_seam, length-take-le}
use Rattle.text.specs.declared.vocabulary.Word.{Word}
use Rattle.std.specs.Prelude.{Option, Some, None}
use Rattle.text.specs.Grammar.{name_of, fits_of, fields_of, text_of}
use Rattle.text.specs.Reads.{not_space, Stops, Named, Names, Words, Counted, Gathers, Left, Parses}
use Rattle.text.proofs.Runs.{unlike, cut_same}
use Rattle.text.proofs.Gathers.{fields_same}
use Rattle.text.proofs.Tabled.{name_same, name_spaceless}

-- ── the name in front ──

module _ (line name rest : List ℕ) (e : pointwise eqb (take (length name) line) name ≡ true) (d : rest ≡ drop (length name) line) where
  fronted : line ≡ name ++ drop (length name) line
  fronted = sym (take-append-drop (length name) line) ∙ ap (λ (l : List ℕ). l ++ drop (length name) line) ((bytes_eq-Decides (take (length name) line) name).0 e)

  pub name_end : length rest ≡ 0 → Named line name
  name_end l = record { text = fronted; stops = go rest d l }
    where
      go : (r : List ℕ) → r ≡ drop (length name) line → length r ≡ 0 → Stops not_space (drop (length name) line)
      go [] q k = rw (← q) tt
      go (b ∷ r) q k = absurd (omega arith)

  pub name_space : 0 < length rest → Names line name (eqb (get_or rest 0 0) 32)
  name_space l = go (eqb (get_or rest 0 0) 32) refl
    where
      next : drop (length name) line ≡ get_or rest 0 0 ∷ drop 1 rest
      next = sym d ∙ drop-cons rest 0 0 l

      go : (b : Bool) → eqb (get_or rest 0 0) 32 ≡ b → Names line name b
      go true q = record { text = fronted; stops = rw (next, q) refl }
      go false q = λ N. unlike (rw q refl) (rw next at N.stops)

pub name_other : {line name : List ℕ} → pointwise eqb (take (length name) line) name ≡ false → Named line name → ⊥
name_other {line} {name} e N =
    unlike ((bytes_eq-Decides (take (length name) line) name).1 (ap (take (length name)) N.text ∙ take-append_seam name (drop (length name) line))) e

-- ── two words ──

fields_space : (ns : List ℕ) → Stops not_space (fields_of ns)
fields_space [] = tt
fields_space (x ∷ ns) = refl

pub text_named : (line : List ℕ) (w : Word) (ns : List ℕ) → line ≡ text_of w ns → Named line (name_of w)
text_named line w ns e =
    let d : drop (length (name_of w)) line ≡ fields_of ns = rw e (drop-append_seam (name_of w) (fields_of ns)) in
    record { text = e ∙ rw d; stops = rw d (fields_space ns) }

-- a line that begins with a word has no other, and what is left is the fields
pub text_split : (line : List ℕ) (w v : Word) (ns : List ℕ) → Named line (name_of w) → line ≡ text_of v ns
    → (w ≡ v) × (drop (length (name_of w)) line ≡ fields_of ns)
text_split line w v ns N e =
    let (f, g) = cut_same not_space (name_of w) (name_of v) (name_spaceless w) (name_spaceless v) N.stops (fields_space ns) (sym N.text ∙ e) in
    (name_same w v f, g)

pub named_same : (line : List ℕ) (w v : Word) → Named line (name_of w) → Named line (name_of v) → w ≡ v
named_same line w v N M =
    name_same w v
    (cut_same not_space (name_of w) (name_of v) (name_spaceless w) (name_spaceless v) N.stops M.stops (sym N.text ∙ M.text)).0

pub text_same : (w v : Word) (ns ms : List ℕ) → text_of w ns ≡ text_of v ms → (w ≡ v) × (ns ≡ ms)
text_same w v ns ms e =
    let (f, g) = cut_same not_space (name_of w) (name_of v) (name_spaceless w) (name_spaceless v) (fields_space ns) (fields_space ms) e in
    (name_same w v f, fields_same ns ms g)

-- ── a line ──

module _ (line : List ℕ) where
  pub line_unknown : {out : List ℕ} → Words line None → Parses line out out None
  line_unknown u = record { means = λ w ns b f e. u w (text_named line w ns e); left = inl (u, refl) }

module _ {line : List ℕ} (w : Word) {name : List ℕ} (W : Words line (Some w)) (N : name ≡ name_of w) {out out' : List ℕ} where
  left_fields : {r : Option ℕ} → Gathers (drop (length name) line) out out' r → Left line out out'
  left_fields G = inr (w, W, (rw N at G).leaves)

  pub line_uncounted : Gathers (drop (length name) line) out out' None → Parses line out out' None
  line_uncounted G = let H = rw N at G in record { means = λ v ns b f e. H.counts ns b (text_split line w v ns W e).1; left = left_fields G }

  module _ {n : ℕ} (G : Gathers (drop (length name) line) out out' (Some n)) where
    C : Counted (drop (length (name_of w)) line) out out' n
    C = (rw N at G).counts

    taken : length (take n out') ≡ n
    taken = length-take-le n out' (let a = C.same in let c = C.within in omega arith)

    pub line_unfit : false ≡ fits_of w n → Parses line out out' None
    line_unfit z = record {
      means = λ v ns c f e.
          let (g, h) = text_split line w v ns W e in
          let s = fields_same ns (take n out') (sym h ∙ C.text) in
          let l : length ns ≡ n = ap length s ∙ taken in
          unlike (rw (← g, l) at f) (sym z);
      left = left_fields G;
    }

    pub line_says : true ≡ fits_of w n → Parses line out out' (Some (w, n))
    line_says z = record {
      means = record {
        same = C.same;
        within = C.within;
        text = W.text ∙ rw C.text;
        below = C.below;
        fits = sym z;
        beyond = C.beyond;
      };
      left = left_fields G;
    }

pub ruleset namings = (rules, line_unknown, line_uncounted, line_unfit, line_says)
