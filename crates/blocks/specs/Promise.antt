-- What the public calls promise. `blocks`: the reply, every word of the slices, and every record of the answer buffer, all told by the rules
-- from the state that the store stands for. `search` and `next`: the same blocks, one at a time. Assumes nothing.
use Rattle.std.specs.Prelude.{◌≡◌, ℕ, ◌<◌, ◌≤◌, false, Result, Ok, Err, IfOk, IfErr, List, [], length, get_or, drop, slice_index_or}
use Rattle.std.proofs.lemmas.List.Edits.{sets}
use Rattle.rules.specs.declared.Block.{Block}
use Rattle.rules.specs.declared.Plan.{Plan as Counts}
use Rattle.rules.specs.declared.Refusal.{Refusal}
use Rattle.rules.specs.declared.Refusal.TheVariants.{ShortAnswer}
use Rattle.rules.specs.Lists.{table}
use Rattle.rules.specs.Routes.{Plan, State}
use Rattle.rules.specs.Sizes.{is_short}
use Rattle.rules.specs.Calls.{Call, Reply, refused, scored, changed, counted, lined_up, cycled, started, blocked, rerouted, reply, to_blocks}
use Rattle.rules.specs.Blocks.{no_block}
use Rattle.stores.specs.Headers.{open_of}
use Rattle.stores.specs.Promise.{Slices, Held, StandsFor, lent_of, call_of, after, Heeds}
use Rattle.blocks.specs.Searches.{ahead_of, tally}
use Rattle.blocks.specs.declared.blocks.Found.{Found}
use Rattle.blocks.specs.declared.blocks.Spot.{Spot}

-- the first n places of the answer buffer: n records (a place that it has not counts as a record of zeros)
unfoldable pub records : ℕ → List Block → List Block
records n out = table n (λ v. get_or out v no_block)

-- so many blocks
abbrev pub says_blocked : List Block → Result ℕ Refusal → Reply
says_blocked out (Ok k) = blocked (records k out)
says_blocked out (Err r) = refused r

-- what is written into the answer buffer
abbrev pub blocks_in : Reply → List Block
blocks_in (refused r) = []
blocks_in (scored s) = []
blocks_in (changed s r) = []
blocks_in (counted s k) = []
blocks_in (lined_up l) = []
blocks_in (cycled l) = []
blocks_in (started l) = []
blocks_in (blocked l) = l
blocks_in (rerouted l q f) = []

-- the owners os are asked for, and the answer buffer has as many places as it is long
abbrev pub blocks_call : List ℕ → Slices → List Block → Call
blocks_call os s out = call_of (to_blocks os (length out)) s

-- the reply r, the slices s' and the answer buffer out' are what the rules say in the state t
pub record BlocksDecided (t : State) (os : List ℕ) (s s' : Slices) (out out' : List Block) (r : Reply) : Type 0 where
  pub says : r ≡ reply t (blocks_call os s out)
  pub leaves : s' ≡ after t (blocks_call os s out) s
  pub answers : out' ≡ sets out 0 (blocks_in r)

-- of every state that the store stands for, and of any contents
pub record BlocksPromise (os : List ℕ) (s s' : Slices) (out out' : List Block) (r : Reply) : Type 0 where
  pub decides : (t : State) → StandsFor s t → BlocksDecided t os s s' out out' r
  pub heeds : Heeds (to_blocks os (length out)) s s' out out' r

-- ── one block at a time ──

-- what is answered: so many blocks, or a refusal
abbrev pub answer_to : Reply → Result ℕ Refusal
answer_to (refused r) = Err r
answer_to (scored s) = Ok 0
answer_to (changed s r) = Ok 0
answer_to (counted s k) = Ok 0
answer_to (lined_up l) = Ok 0
answer_to (cycled l) = Ok 0
answer_to (started l) = Ok 0
answer_to (blocked l) = Ok (length l)
answer_to (rerouted l q f) = Ok 0

-- from the spot on, the search leads to the blocks bs
pub record Leads (os : List ℕ) (s : Slices) (f : Found) (at : Spot) (bs : List Block) : Type 0 where
  pub plan : Plan
  pub long : is_short (lent_of s) ≡ false
  pub held : Held s plan
  pub is : ahead_of plan f.crit os at ≡ bs

-- the rules' blocks in the state t are to be found, if they are no more than `room`; the slices stay
pub record SearchDecided (t : State) (os : List ℕ) (room : ℕ) (s : Slices) (r : Result Found Refusal) : Type 0 where
  pub answer : tally r ≡ answer_to (reply t (call_of (to_blocks os room) s))
  pub count : IfOk r (λ f. f.count ≡ length (blocks_in (reply t (call_of (to_blocks os room) s))))
  pub leads : IfOk r (λ f. 0 < f.count → Leads os s f f.spot (blocks_in (reply t (call_of (to_blocks os room) s))))
  pub leaves : s ≡ after t (call_of (to_blocks os room) s) s

-- of every state that the store stands for, and of any contents: what lengths and header refuse is refused, else 10 alone
pub record SearchPromise (os : List ℕ) (room : ℕ) (s : Slices) (r : Result Found Refusal) : Type 0 where
  pub decides : (t : State) → StandsFor s t → SearchDecided t os room s r
  pub first : (k : Refusal) → open_of (lent_of s) s.base ≡ Err k → r ≡ Err k
  pub later : (c : Counts) → open_of (lent_of s) s.base ≡ Ok c → IfErr r (λ k. k ≡ ShortAnswer)
  pub few : IfOk r (λ f. f.count ≤ room)

-- the next of the blocks that the search leads to (a record of zeros where there is none), and then to the others
pub record NextPromise (os : List ℕ) (s : Slices) (f : Found) (at r : Spot) : Type 0 where
  pub block : (bs : List Block) → Leads os s f at bs → r.block ≡ slice_index_or bs 0 no_block
  pub leads : (bs : List Block) → Leads os s f at bs → Leads os s f r (drop 1 bs)
