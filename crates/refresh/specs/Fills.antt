-- What a load that is not refused leaves. Assumes nothing.
use Rattle.std.specs.Prelude.{ℕ, ◌≤◌, ◌≡◌, List, take, drop, Result, Ok}
use Rattle.std.proofs.Math.Option.{none}
use Rattle.rules.specs.declared.Refusal.{Refusal}
use Rattle.rules.specs.declared.Score.{Score}
use Rattle.rules.specs.Sizes.{Loading, base_length, edges_length, routes_length, spans_length, times_length}
use Rattle.rules.specs.Refusals.{first_of, load_checks}
use Rattle.rules.specs.Routes.{Plan}
use Rattle.rules.specs.Scores.{score}
use Rattle.edges.specs.Edges.{encode as edge_words}
use Rattle.routes.specs.Store.{encode as route_words}
use Rattle.routes.specs.Desks.{Desked, edges_of, routes_of}
use Rattle.times.specs.Words.{span_words, time_words}
use Rattle.stores.specs.Words.{base_words}
use Rattle.stores.specs.Promise.{Slices, holding}

-- nothing is refused, and the slices of these lengths have room
pub record Loadable (l : Loading) (base spans edges routes : ℕ) : Type 0 where
  pub fine : first_of (load_checks l) ≡ none
  pub base_long : base_length ≤ base
  pub spans_long : spans_length ≤ spans
  pub edges_long : edges_length ≤ edges
  pub routes_long : routes_length ≤ routes

-- the first k words of a slice become w; what lies beyond stays
pub record Over (k : ℕ) (w a a' : List ℕ) : Type 0 where
  pub front : take k a' ≡ w
  pub back : drop k a' ≡ drop k a

-- the words of the plan p, all but its times, in place of what was there
pub record Laid (p : Plan) (b s e r b' s' e' r' : List ℕ) : Type 0 where
  pub base : Over base_length (base_words p.base) b b'
  pub spans : Over spans_length (span_words p.base) s s'
  pub edges : Over edges_length (edge_words (edges_of p)) e e'
  pub routes : Over routes_length (route_words (routes_of p)) r r'

-- the words are those of the plan p
pub record Untimed (p : Plan) (b s e r : List ℕ) (n : ℕ) : Type 0 where
  pub base : take base_length b ≡ base_words p.base
  pub spans : take spans_length s ≡ span_words p.base
  pub desk : Desked (take routes_length r) (take edges_length e) p
  pub jobs : n ≡ p.base.jobs

-- the plan's score, and its times in place of what was there
pub record Rated (p : Plan) (t : List ℕ) (x : Result Score Refusal) (t' : List ℕ) : Type 0 where
  pub says : x ≡ Ok (score p)
  pub times : Over times_length (time_words p) t t'

-- of every plan whose words these are
pub record Rates (b s e r t : List ℕ) (n : ℕ) (x : Result Score Refusal) (t' : List ℕ) : Type 0 where
  pub is : (p : Plan) → Untimed p b s e r n → Rated p t x t'

-- the plan p is in the store, and its score is told
pub record Filled (p : Plan) (s s' : Slices) (x : Result Score Refusal) : Type 0 where
  pub says : x ≡ Ok (score p)
  pub leaves : s' ≡ holding p s
