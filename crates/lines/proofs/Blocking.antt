-- `crit`: the blocks that are found are those of the rules' reply, and their lines its text. Assumes nothing.
use Prim.Native.Nat.{ℕ, ◌+◌, ◌*◌, ◌≤◌, ◌<◌, min}
use native.Mathlib.Omega.{arith}
use mathlib.Core.Path.{◌≡◌, refl, sym, ap, ◌∙◌}
use mathlib.Core.Option.{none, some}
use mathlib.Core.List.{List, [], ◌∷◌, ◌++◌}
use borrow.Author.Rules.{rules}
use lib.ListN.{length, take, drop}
use Rattle.rules.specs.declared.Block.{Block}
use Rattle.rules.specs.declared.Refusal.{Refusal}
use Rattle.rules.specs.Sizes.{most_owners, most_entries}
use Rattle.rules.specs.Routes.{State}
use Rattle.rules.specs.Blocks.{blocks, no_block}
use Rattle.rules.specs.Calls.{Reply, refused, to_blocks, accepted, reply}
use Rattle.rules.proofs.Tabled.{table_length}
use Rattle.text.specs.Writes.{Fills}
use Rattle.text.specs.Answers.{Told, line_of, blocks_word, block_line, block_lines, no_line, reply_text, line_length}
use Rattle.text.proofs.Pieces.{told_is, wrote_behind, wrote_length, Rows, rows_start, rows_turn, rows_done}
use Rattle.stores.specs.Promise.{Slices, call_of}
use Rattle.std.specs.Prelude.{Ok, Err}
use Rattle.blocks.specs.declared.blocks.Found.{Found}
use Rattle.blocks.specs.declared.blocks.Spot.{Spot}
use Rattle.blocks.specs.Promise.{Leads, SearchPromise, NextPromise, answer_to, blocks_in}
use Rattle.blocks.proofs.Searching.{finding}
use Rattle.lines.specs.Sizes.{longest_answer}
use Rattle.lines.specs.Answers.{up_to, call, Answers}
use Rattle.lines.specs.Parts.{Finds, ListsBlocks}
use Rattle.lines.proofs.Calling.{printed}
use Rattle.lines.proofs.Showing.{replied}

-- ── the lines of the blocks that were found, of which i are written ──

pub record Listing (os : List ℕ) (s : Slices) (f : Found) (out₀ : List ℕ) (at : ℕ) (out : List ℕ) (spot : Spot) (p i : ℕ) : Type 0 where
  pub to : i ≤ f.count
  pub few : p ≤ at + line_length 5 4 * i
  pub long : length out ≡ length out₀
  pub leads : (bs : List Block) → Finds os s f bs → 0 < f.count → Leads os s f spot (drop i bs)
  pub rows : (bs : List Block) → Finds os s f bs → Rows block_lines (line_length 5 4) bs out₀ at out p i

pub listing_start : (os : List ℕ) (s : Slices) (f : Found) (out : List ℕ) (at : ℕ) → Listing os s f out at out f.spot at 0
listing_start os s f out at = record {
  to = omega arith;
  few = omega arith;
  long = refl;
  leads = λ bs F. F.leads;
  rows = λ bs F. rows_start block_lines (line_length 5 4) bs out at;
}

module _ {os : List ℕ} {s : Slices} {f : Found} {out₀ : List ℕ} {at : ℕ} {out : List ℕ} {spot : Spot} {p i : ℕ}
    (L : Listing os s f out₀ at out spot p i) where
  pub listing_turn : {next : Spot} {q : ℕ} {o : List ℕ} → NextPromise os s f spot next → Fills out p (block_line next.block) (line_length 5 4) q o
      → i < f.count → Listing os s f out₀ at o next q (i + 1)
  listing_turn N W h =
      let b = L.few in
      let w = W.few in
      record {
        to = omega arith;
        few = omega arith;
        long = wrote_length W.wrote ∙ L.long;
        leads = λ bs F k. (finding bs i (L.leads bs F k) N).1;
        rows = λ bs F.
            let c = F.count in
            let e = (finding bs i (L.leads bs F (omega arith)) N).0 in
            rows_turn (L.rows bs F) no_block (λ l. rw (← e)) (omega arith) W;
      }

  pub listing_done : f.count ≤ i → f.count ≤ most_entries → ListsBlocks os s f out₀ at p out
  listing_done g h =
      let a = L.to in
      let b = L.few in
      record { few = omega arith; is = λ bs F. let c = F.count in (rows_done (L.rows bs F) refl (omega arith)).wrote }

-- ── printed ──

-- what is printed of what was answered is the reply's text
abbrev Tells : Reply → Type 0
Tells y = ((q : Refusal) → answer_to y ≡ Err q → no_line q ≡ reply_text y)
    × ((k : ℕ) → answer_to y ≡ Ok k → line_of blocks_word (k ∷ []) ++ block_lines (blocks_in y) ≡ reply_text y)

tells : (t : State) (s : Slices) (os : List ℕ) (n : ℕ) → Tells (reply t (call_of (to_blocks os n) s))
unfolding accepted
tells t s os n = replied t s (to_blocks os n) Tells no (λ h. by t)
  where
    no : (r : Refusal) → Tells (refused r)
    no r = (λ q e. let f : r ≡ q = cc in rw f, λ k e. let z : ◌≡◌ {A = ℕ} 0 1 = cc in absurd (omega arith))

    by : (u : State) → Tells (accepted u (to_blocks os n)).reply
    by none = no _
    by (some p) = (λ q e. let z : ◌≡◌ {A = ℕ} 0 1 = cc in absurd (omega arith), λ k e. let f : length (blocks p os) ≡ k = cc in rw f)

module _ {os : List ℕ} {s : Slices} {out : List ℕ} (room : longest_answer ≤ length out) where
  -- a refusal
  pub blocks_no : {r : ℕ} {out' : List ℕ} {q : Refusal} → Fills out 0 (no_line q) (line_length 2 1) r out' → SearchPromise os most_entries s (Err q)
      → Answers (call (to_blocks os most_entries)) s s out r out'
  blocks_no {q = q} W P =
      printed (to_blocks os most_entries) (omega arith)
      (λ t st. let D = P.decides t st in ((tells t s os most_entries).0 q (sym D.answer), D.leaves)) W

  -- how many there are, and their lines
  pub blocks_told : {f : Found} {r : ℕ} {out' : List ℕ} {p : ℕ} {o : List ℕ} → ListsBlocks os s f o p r out'
      → Told (λ x y. y ≡ x) (f.count ∷ []) (λ ns. Fills out 0 (line_of blocks_word ns) (line_length 6 1) p o) → SearchPromise os most_entries s (Ok f)
      → Answers (call (to_blocks os most_entries)) s s out r out'
  blocks_told {f = f} {p = p} {o = o} L T P =
      let A = told_is (f.count ∷ []) (λ ns. Fills out 0 (line_of blocks_word ns) (line_length 6 1) p o) T in
      let a = A.few in
      let b = L.few in
      record {
        few = omega arith;
        decides = λ t st.
            let D = P.decides t st in
            let W = wrote_behind A.wrote (L.is _ (record { count = D.count; leads = D.leads })) in
            record { text = rw (← (tells t s os most_entries).1 f.count (sym D.answer)) W; leaves = D.leaves };
      }

-- ── all owners ──

-- `rising` tells as many owners as it says
pub owners_long : (n : ℕ) (l : List ℕ) → take n l ≡ up_to n → length (take n l) ≡ n
owners_long n l e = ap length e ∙ table_length n (λ v. v)

-- and these are asked for their blocks
pub crit_told : (o : ℕ) {n : ℕ} (l : List ℕ) {s : Slices} {out : List ℕ} {r : ℕ} {out' : List ℕ}
    → Answers (call (to_blocks (take n l) most_entries)) s s out r out' → (n ≡ min o most_owners) × (take n l ≡ up_to n)
    → Answers (call (to_blocks (up_to (min o most_owners)) most_entries)) s s out r out'
crit_told o l A (e, f) = rw (f ∙ ap up_to e) at A

pub ruleset blocking = (rules, listing_start, listing_turn, listing_done, owners_long, crit_told)
