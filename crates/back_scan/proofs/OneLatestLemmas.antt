-- There is one latest departure, or none.
use Rattle.std.proofs.Common.{◌≡◌, ℕ, ◌≤◌, Option, Some, None, refl, ap, arith}
use Rattle.lc_model.specs.Leg.{IsLegOf, in_time}
use Rattle.lc_model.specs.Ride.{IsRideAt}
use Rattle.lc_model.specs.declared.doc.StopsDoc.{StopsDoc}
use Rattle.lc_model.specs.declared.query.Query.{Query}
use Rattle.lc_model.specs.declared.ride.Ride.{Ride}
use Rattle.back_scan.specs.Latest.{IsLatestDeparture}
use Rattle.back_scan.specs.Laws.{OneLatestDeparture, OneListLatest}

same_number : (m n : ℕ) → m ≤ n → n ≤ m → m ≡ n
same_number m n h k = omega arith

pub latest_departures_are_one : (IsRide : Ride → Type 0) (query : Query) (doc : StopsDoc) (a b : Option ℕ) → IsLatestDeparture IsRide query doc a → IsLatestDeparture IsRide query doc b → a ≡ b
latest_departures_are_one IsRide query doc None None h k = refl
latest_departures_are_one IsRide query doc None (Some m) h k = absurd (h k.0.0 k.0.1)
latest_departures_are_one IsRide query doc (Some n) None h k = absurd (k h.0.0 h.0.1)
latest_departures_are_one IsRide query doc (Some n) (Some m) h k =
    let first = h.1 k.0.0 k.0.1 in
    let second = k.1 h.0.0 h.0.1 in
    let at = h.0.2 in let when = k.0.2 in
    ap Some (same_number n m (omega arith) (omega arith))

pub one_latest_departure : OneLatestDeparture
one_latest_departure runs query doc a b h k = latest_departures_are_one (IsRideAt runs) query doc a b h k

pub one_list_latest : OneListLatest
one_list_latest query doc list a b h k = latest_departures_are_one (IsLegOf (in_time query list)) query doc a b h k
