-- The search in a plan without a cycle. Assumes nothing.
use Rattle.std.specs.Prelude.{◌≡◌, ℕ, ◌<◌, ◌≤◌, false, Result, Ok, Err, IfOk, IfErr, List, length}
use Rattle.rules.specs.declared.Block.{Block}
use Rattle.rules.specs.declared.Refusal.{Refusal}
use Rattle.rules.specs.declared.Refusal.TheVariants.{ShortAnswer}
use Rattle.rules.specs.Lists.{table}
use Rattle.rules.specs.Sizes.{most_jobs}
use Rattle.rules.specs.Routes.{Plan}
use Rattle.rules.specs.Scores.{is_cyclic, makespan}
use Rattle.rules.specs.Blocks.{blocks}
use Rattle.graphs.specs.Graph.{live}
use Rattle.routes.specs.Desks.{Desked, edges_of, routes_of}
use Rattle.times.specs.Words.{span_words, start_of}
use Rattle.blocks.specs.Arcs.{sight}
use Rattle.blocks.specs.Overs.{ahead, fitting}
use Rattle.blocks.specs.declared.blocks.Found.{Found}
use Rattle.blocks.specs.declared.blocks.Spot.{Spot}

-- the words e, sp, st and l are edges, durations, starts and routes of a plan without a cycle, whose makespan is top
pub record Calm (e sp st : List ℕ) (top n : ℕ) (l : List ℕ) (all : ℕ) (p : Plan) : Type 0 where
  pub desk : Desked l e p
  pub spans : sp ≡ span_words p.base
  pub starts : st ≡ table most_jobs (start_of p)
  pub ends : top ≡ makespan p
  pub jobs : n ≡ p.base.jobs
  pub owners : all ≡ p.base.owners
  pub calm : is_cyclic p ≡ false

-- the blocks from a spot on, where the jobs marked in c are critical
unfoldable pub ahead_of : Plan → List ℕ → List ℕ → Spot → List Block
ahead_of p c os at =
    ahead (live (edges_of p)) (sight (span_words p.base) (table most_jobs (start_of p)) c p.base.jobs) (routes_of p) p.base.owners os at

-- how many blocks a search found, or why it is refused
abbrev pub tally : Result Found Refusal → Result ℕ Refusal
tally (Ok f) = Ok f.count
tally (Err k) = Err k

-- what is refused is 10
abbrev pub Refuses : Result Found Refusal → Type 0
Refuses r = IfErr r (λ k. k ≡ ShortAnswer)

-- the search of a plan's blocks: 10 if they are more than `room`
pub record Finds (p : Plan) (os : List ℕ) (room : ℕ) (r : Result Found Refusal) : Type 0 where
  pub answer : tally r ≡ fitting room (length (blocks p os))
  pub leads : IfOk r (λ f. 0 < f.count → ahead_of p f.crit os f.spot ≡ blocks p os)

-- what `counted` answers
pub record Counts (e sp st : List ℕ) (top n : ℕ) (l : List ℕ) (all : ℕ) (os : List ℕ) (room : ℕ) (r : Result Found Refusal) : Type 0 where
  pub few : IfOk r (λ f. f.count ≤ room)
  pub refuses : Refuses r
  pub is : (p : Plan) → Calm e sp st top n l all p → Finds p os room r
