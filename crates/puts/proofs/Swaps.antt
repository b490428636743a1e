-- `swap_route`: an owner's route becomes another, in the words of the routes and of the edges. Assumes nothing.
use Prim.Native.Nat.{ℕ, ◌≤◌}
use native.Mathlib.Omega.{arith}
use mathlib.Core.Path.{◌≡◌, refl, sym, ap, ◌∙◌}
use mathlib.Core.Bool.{Bool, true, false, not}
use mathlib.Core.List.{List}
use lib.ListN.{length, length-map}
use borrow.Author.Rules.{rules}
use Rattle.std.specs.Prelude.{Result, Ok, Err}
use Rattle.std.specs.Result.{IsErr}
use Rattle.rules.specs.Routes.{Plan, Route, route_of}
use Rattle.rules.proofs.Ranges.{clash}
use Rattle.rules.specs.declared.Senseless.{Senseless}
use Rattle.routes.specs.Stops.{word, words}
use Rattle.routes.specs.Raw.{Lies}
use Rattle.routes.specs.Handing.{Stopped}
use Rattle.routes.specs.Desks.{routes_of, Desked}
use Rattle.routes.specs.Promises.{Gives, Fits, RoutesTurn, EdgesTurned, EdgesTurn}
use Rattle.routes.proofs.Sweeping.{err_never, never_ok}
use Rattle.routes.proofs.Exchanging.{gives_sound}
use Rattle.routes.proofs.Wellformed.{route_at_lem}
use Rattle.puts.specs.Puts.{RouteTurn}

-- there is no room, so there is no such plan
pub swap_unfit : (r : List ℕ) (o : ℕ) (s : List ℕ) {e : List ℕ} {i v : ℕ} {went came : List ℕ} {z : Senseless} (b : Bool) → not b ≡ true
    → Fits r o (length s) b → RouteTurn r e o s i v r e went went came (Err z)
swap_unfit r o s true q F = clash q refl
swap_unfit r o s false q F = record {
  short = λ h c z. never_ok z;
  turned = λ p x D G ei ev u. absurd (F p s x D.sound D.routes G refl);
}

pub swap_lies : (r : List ℕ) (o k : ℕ) (b : Bool) → not b ≡ false → Fits r o k b → Lies r o k
swap_lies r o k true q F = F
swap_lies r o k false q F = clash refl q

-- an owner's stops, handed out, are those of its route in the plan
pub stops_are : {r e old : List ℕ} {o : ℕ} {p : Plan} → Stopped r o old → Desked r e p → old ≡ words (route_of p o).stops
stops_are {o = o} {p} T D = T.is (routes_of p) D.routes ∙ ap (λ (x : Route). words x.stops) (route_at_lem p D.sound o)

pub stops_long : {r e old : List ℕ} {o : ℕ} {p : Plan} → Stopped r o old → Desked r e p → length old ≡ length (route_of p o).stops
stops_long {o = o} {p} T D = ap length (stops_are T D) ∙ length-map (route_of p o).stops word

module _ {r e old : List ℕ} {o : ℕ} {s e' went went' came' : List ℕ} {a : Result (ℕ × ℕ) Senseless} (T : Stopped r o old)
    (E : EdgesTurn old s e e' went went' came' a) where
  edges_turned : (p : Plan) (x : Route) → Desked r e p → Gives p o s x → length (route_of p o).stops ≤ length went
      → EdgesTurned p o x e' went' came' a
  edges_turned p x D G u =
      E.turned p o x D.sound D.edges (stops_are T D) G (let z = stops_long T D in omega arith)

  pub swap_bad : {i v : ℕ} {r' : List ℕ} {z : Senseless} (b : Result (ℕ × ℕ) Senseless) → a ≡ Err z → IsErr b
      → RouteTurn r e o s i v r' e' went went' came' b
  swap_bad b q k = record {
    short = λ h c y. err_never k y;
    turned = λ p x D G ei ev u. never_ok (sym q ∙ (edges_turned p x D G u).answer);
  }

  pub swap_done : {i v : ℕ} {r' : List ℕ} {x : ℕ × ℕ} → a ≡ Ok x → RoutesTurn r o s i v r' → RouteTurn r e o s i v r' e' went went' came' (Ok x)
  swap_done q R = rw (sym q) (record {
    short = λ h c z. let (x, y, w) = E.short h c z in (y, w);
    turned = λ p x D G ei ev u. let T' = edges_turned p x D G u in record {
      edges = T';
      desked = record { routes = R p x D.sound D.routes G ei ev; edges = T'.holds; sound = gives_sound D.sound G };
      few = let (y, z, w) = E.short _ _ T'.answer in let n = stops_long T D in omega arith;
    };
  })

pub ruleset swapping = (rules, swap_unfit, swap_lies, swap_bad, swap_done)
