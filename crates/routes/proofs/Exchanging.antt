-- `exchange`: the edges of both routes are listed, and one gives way to the other as the plan's stage says. Assumes nothing.
use Rattle.std.proofs.Common.{◌≡◌, ℕ, ◌+◌, ◌-◌, ◌<◌, ◌≤◌, List, length, take, arith, length-take, rules, Result, Ok, Err}
use Rattle.rules.specs.Routes.{Plan, Route, route_of}
use Rattle.rules.specs.Sound.{Sound}
use Rattle.rules.specs.Steps.{turning}
use Rattle.rules.proofs.Steps.{turning_sound}
use Rattle.edges.specs.Edges.{Holds as EdgesHold}
use Rattle.rules.specs.declared.Senseless.{Senseless}
use Rattle.routes.specs.Stops.{words}
use Rattle.routes.specs.Differs.{codes, Linked}
use Rattle.routes.specs.Turning.{heads_all, turn_all, Parts}
use Rattle.routes.specs.Desks.{edges_of}
use Rattle.routes.specs.Promises.{Gives, EdgesTurned, EdgesTurn}
use Rattle.routes.proofs.Codes.{codes_few}
use Rattle.routes.proofs.Sweeping.{never_ok}
use Rattle.routes.proofs.Staging.{went_queues, came_queues, ready, staged_holds}

-- the sound plan after a route that may be put
pub gives_sound : {p : Plan} {o : ℕ} {s : List ℕ} {x : Route} → Sound p → Gives p o s x → Sound (turning p o x)
gives_sound {p} {o} {x = x} S G = turning_sound p o x S G.owner G.reads G.room

-- the list of heads is too short
pub exchange_short : (old new e went came : List ℕ) {z : Senseless} → length went < length old → EdgesTurn old new e e went went came (Err z)
exchange_short old new e went came h = record {
  short = λ h c q. never_ok q;
  turned = λ p o x S H q G u. absurd (omega arith);
}

module _ {old new e e' went' came' : List ℕ} {r : Result (ℕ × ℕ) Senseless}
    (P : Parts (codes 0 old) (codes 0 new) e e' went' came' r) where
  done_here : (p : Plan) (o : ℕ) (x : Route) → Sound p → EdgesHold e (edges_of p) → old ≡ words (route_of p o).stops → Gives p o new x
      → EdgesTurned p o x e' went' came' r
  done_here p o x S H q G =
      let S' = gives_sound S G in
      let D = (rw (q, G.stops) at P).is (edges_of p) H (λ gone left d f. ready S G.owner G.reads S' d f) in
      record {
        gone = heads_all _ (edges_of p) D.gone;
        fresh = length (heads_all _ (turn_all _ (edges_of p) D.gone) D.left);
        answer = D.answer;
        holds = staged_holds S G.owner G.reads S' D.differs D.from D.holds;
        went_listed = D.went_listed;
        went_queues = went_queues S G.owner G.reads S' D.differs D.from;
        came_queues = rw D.came_listed (came_queues S G.owner G.reads S' D.differs D.from);
      }

pub exchange_done : {old new e e' went went' came' : List ℕ} {r : Result (ℕ × ℕ) Senseless} {a b : List ℕ} {n k : ℕ}
    → Parts (take n a) (take k b) e e' went' came' r → Linked old a n → Linked new b k → length old ≤ length went
    → EdgesTurn old new e e' went went' came' r
exchange_done {old} {new} {n = n} {k} P L M h =
    let Q = rw (L.written, M.written) at P in
    record {
      short = λ j c q. let (x, y) = Q.short j c q in let a = codes_few 0 old in let b = codes_few 0 new in (omega arith, omega arith, omega arith);
      turned = λ p o x S H q G u. done_here Q p o x S H q G;
    }

-- there is room for the heads
pub heads_room : {old a : List ℕ} {n : ℕ} → Linked old a n → (k : ℕ) → length old ≤ k → length (take n a) ≤ k
heads_room {a = a} {n} L k h = let f = L.few in omega (arith, length-take n a)

pub ruleset exchanging = (rules, heads_room, exchange_short, exchange_done)
