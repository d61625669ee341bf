-- The values of which clauses say that they exist are one each.
use Rattle.std.proofs.Common.{List, ◌≡◌, ℕ, ◌≤◌, Option, Some, None, refl, ap, arith, subst}
use Rattle.std.proofs.Props.{props}
use Rattle.lc_model.specs.StopsDoc.{NamesItsStops}
use Rattle.lc_model.specs.declared.change.Change.{Change}
use Rattle.lc_model.specs.declared.stop.Stop.{Stop}
use Rattle.lc_model.specs.Connection.{departure_cmp, connections_of}
use Rattle.lc_model.specs.Journey.{IsAnswer, IsLeastArrival, arrives_at}
use Rattle.lc_model.specs.Laws.{OneArrival, OneLeastArrival, OneListOfConnections, arrival_of}
use Rattle.lc_model.specs.Leg.{IsLegOf, in_time}
use Rattle.lc_model.specs.Ride.{IsRideAt}
use Rattle.lc_model.specs.declared.answer.Answer.{Answer}
use Rattle.lc_model.specs.declared.answer.Answer.TheVariants.{Journey, NoJourney}
use Rattle.lc_model.specs.declared.doc.StopsDoc.{StopsDoc}
use Rattle.lc_model.specs.declared.query.Query.{Query}
use Rattle.lc_model.specs.declared.ride.Ride.{Ride}
use Rattle.lc_model.proofs.OrdersLemmas.{strict_orders_are_one}
use Rattle.lc_model.specs.Totals.{departure_cmp_total}

pub one_list_of_connections : OneListOfConnections
one_list_of_connections runs a b first second =
    strict_orders_are_one departure_cmp departure_cmp_total (connections_of runs) a b first.all second.all first.in_order second.in_order

-- no two numbers are below each other
one_number : (m n : ℕ) → m ≤ n → n ≤ m → m ≡ n
one_number m n up down = omega arith

module _ (IsRide : Ride → Type 0) (query : Query) (doc : StopsDoc) where
  -- answers have one arrival
  pub answers_arrive_at_one : (a b : Answer) → IsAnswer IsRide query doc a → IsAnswer IsRide query doc b → arrival_of a ≡ arrival_of b
  answers_arrive_at_one (Journey a) (Journey b) first second =
      ap Some (one_number (arrives_at a) (arrives_at b) (first.is_earliest b second.is_journey) (second.is_earliest a first.is_journey))
  answers_arrive_at_one (Journey a) NoJourney first none = absurd (none a first.is_journey)
  answers_arrive_at_one NoJourney (Journey b) none second = absurd (none b second.is_journey)
  answers_arrive_at_one NoJourney NoJourney first second = refl

  -- least arrivals are one
  pub least_arrivals_are_one : (a b : Option ℕ) → IsLeastArrival IsRide query doc a → IsLeastArrival IsRide query doc b → a ≡ b
  least_arrivals_are_one (Some m) (Some n) ((j, is_j, at_m), least_m) ((k, is_k, at_n), least_n) =
      let up : m ≤ arrives_at k = least_m k is_k in
      let down : n ≤ arrives_at j = least_n j is_j in
      ap Some (one_number m n (omega arith) (omega arith))
  least_arrivals_are_one (Some m) None ((j, is_j, at_m), least_m) none = absurd (none j is_j)
  least_arrivals_are_one None (Some n) none ((k, is_k, at_n), least_n) = absurd (none k is_k)
  least_arrivals_are_one None None first second = refl

pub one_arrival : OneArrival
one_arrival runs query doc = answers_arrive_at_one (IsRideAt runs) query doc

pub one_least_arrival : OneLeastArrival
one_least_arrival query doc list = least_arrivals_are_one (IsLegOf (in_time query list)) query doc

abbrev document : (stops : List Stop) (changes : List Change) → ∥ NamesItsStops stops changes ∥₁ → StopsDoc
document stops changes closed = record { stops = stops; changes = changes; closed = closed }

closed_prop : (stops : List Stop) (changes : List Change) → IsProp ∥ NamesItsStops stops changes ∥₁
closed_prop stops changes = hlevel props

same_changes : (stops : List Stop) (c d : List Change) (p : ∥ NamesItsStops stops c ∥₁) (q : ∥ NamesItsStops stops d ∥₁) → c ≡ d → document stops c p ≡ document stops d q
same_changes stops c d p q e =
    subst (λ (v : List Change). (q : ∥ NamesItsStops stops v ∥₁) → document stops c p ≡ document stops v q) e (λ q. ap (document stops c) (closed_prop stops c p q)) q

-- documents of the same stops and changes are one
pub documents_are_one : (a b : StopsDoc) → a.stops ≡ b.stops → a.changes ≡ b.changes → a ≡ b
documents_are_one a b e f =
    subst (λ (v : List Stop). (q : ∥ NamesItsStops v b.changes ∥₁) → document a.stops a.changes a.closed ≡ document v b.changes q) e
    (λ q. same_changes a.stops a.changes b.changes a.closed q f) b.closed
