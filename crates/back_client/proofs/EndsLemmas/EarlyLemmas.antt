-- What was taken of a list, where the rest departs earlier or too late.
use Rattle.std.proofs.Common.{◌≡◌, ℕ, ◌-◌, ◌<◌, ◌≤◌, inl, inr, List, [], ◌∷◌, ◌++◌, Option, Some, None, false, get_or, ap, sym, ◌∙◌, subst, arith, append-nil}
use Rattle.std.specs.Prelude.{nat_le}
use Rattle.std.specs.List.{All}
use Rattle.std.proofs.lemmas.Bool.{cases_lt}
use Rattle.std.proofs.lemmas.Bool.Decides.{nat_tests}
use Rattle.lc_model.specs.Change.{change_between}
use Rattle.lc_model.specs.Connection.{InDepartureOrder, NoneArrivesEarly}
use Rattle.lc_model.specs.Journey.{AreRides, GoesOn, departure_of, leaves_at}
use Rattle.lc_model.specs.Leg.{IsChain, IsLegOf, in_time}
use Rattle.lc_model.specs.Question.{latest_of}
use Rattle.lc_model.specs.Walk.{seconds_of}
use Rattle.lc_model.specs.declared.connection.Connection.{Connection}
use Rattle.lc_model.specs.declared.doc.StopsDoc.{StopsDoc}
use Rattle.lc_model.specs.declared.journey.Journey.{Journey}
use Rattle.lc_model.specs.declared.query.Query.{Query}
use Rattle.lc_model.specs.declared.ride.Ride.{Ride}
use Rattle.convoy.proofs.PageLawsLemmas.JourneysLemmas.{of_kind, waits}
use Rattle.convoy.proofs.PageLawsLemmas.FilterLemmas.{filter_none}
use Rattle.convoy.proofs.PageLawsLemmas.LegLemmas.{in_time_forward, in_time_in_order, in_time_parts, leg_goes_forward}
use Rattle.convoy.proofs.PageLawsLemmas.PartJourneyLemmas.{chain_of_rest, leg_stands_behind}
use Rattle.back_scan.specs.Latest.{IsLatestDeparture, IsListLatest}
use Rattle.back_client.specs.Ends.Early.{EarlierMayGo, LaterMayGo, bound_back}

-- rides after one that does not depart early are of another kind where those are that do not depart early
goes_late : (A B : Ride → Type 0) (doc : StopsDoc) (moment : ℕ) (ride : Ride) (rest : List Ride) → ((r : Ride) → A r → r.dep ≤ r.arr) → ((r : Ride) → A r → moment ≤ r.dep → B r) → GoesOn A doc ride rest → moment ≤ ride.arr → GoesOn B doc ride rest
goes_late A B doc moment ride [] forward all goes late = goes
goes_late A B doc moment ride (next ∷ rest) forward all goes late =
    let waited : ride.arr ≤ next.dep = waits (change_between doc.changes ride.alight next.board) ride.arr next.dep goes.1 in
    let next_goes : next.dep ≤ next.arr = forward next goes.0 in
    (all next goes.0 (omega arith), goes.1, goes_late A B doc moment next rest forward all goes.2 (omega arith))

rides_late : (A B : Ride → Type 0) (doc : StopsDoc) (moment : ℕ) (rides : List Ride) → ((r : Ride) → A r → r.dep ≤ r.arr) → ((r : Ride) → A r → moment ≤ r.dep → B r) → AreRides A doc rides → moment ≤ departure_of rides → AreRides B doc rides
rides_late A B doc moment [] forward all are late = are
rides_late A B doc moment (first ∷ rest) forward all are late =
    let first_goes : first.dep ≤ first.arr = forward first are.0 in
    (all first are.0 late, goes_late A B doc moment first rest forward all are.1 (omega arith))

first_late : (departure walk moment : ℕ) → moment ≤ departure - walk → moment ≤ departure
first_late departure walk moment late = omega arith

-- a chain of a list that leaves no earlier than a moment is one of its rest, where its front departs before the moment
pub chain_from : (query : Query) (doc : StopsDoc) (moment : ℕ) (front rest : List Connection) (journey : Journey) → InDepartureOrder (front ++ rest) → NoneArrivesEarly (front ++ rest) →
    All (λ (c : Connection). c.dep < moment) front → moment ≤ leaves_at journey → IsChain query doc (front ++ rest) journey → IsChain query doc rest journey
chain_from query doc moment front rest journey in_order forward early late is =
    let whole = in_time query (front ++ rest) in
    let A = IsLegOf whole in
    let B = IsLegOf (in_time query rest) in
    of_kind A B query doc journey is
    (rides_late A B doc moment journey.rides
    (λ ride leg. leg_goes_forward whole ride (in_time_in_order query (front ++ rest) in_order) (in_time_forward query (front ++ rest) forward) leg)
    (λ ride leg by. leg_stands_behind query moment front rest ride early by leg)
    is.are_rides (first_late (departure_of journey.rides) (seconds_of journey.before) moment late))

module _ (query : Query) (doc : StopsDoc) (left taken : List Connection) (moment : ℕ) (in_order : InDepartureOrder (left ++ taken)) (forward : NoneArrivesEarly (left ++ taken)) (early : All (λ (c : Connection). c.dep < moment) left) where
  no_later : (leaves : ℕ) (journey : Journey) → moment ≤ leaves → ((other : Journey) → IsChain query doc taken other → leaves_at other ≤ leaves) → IsChain query doc (left ++ taken) journey → leaves_at journey ≤ leaves
  no_later leaves journey by latest is = elim (cases_lt leaves (leaves_at journey)) [
    | inl later ↦ latest journey (chain_from query doc moment left taken journey in_order forward early (omega arith) is)
    | inr by_then ↦ by_then
  ]

  pub taken_is_all : (latest : Option ℕ) → moment ≤ bound_back query latest → IsListLatest query doc taken latest → IsListLatest query doc (left ++ taken) latest
  taken_is_all None by none = λ journey is. let n = is.not_early in none journey (chain_from query doc moment left taken journey in_order forward early (omega arith) is)
  taken_is_all (Some leaves) by ((journey, is, at), latest) = ((journey, chain_of_rest query doc left taken journey is, at), (λ other is_other. no_later leaves other by latest is_other))

  pub all_is_taken : (latest : Option ℕ) → moment ≤ bound_back query latest → IsListLatest query doc (left ++ taken) latest → IsListLatest query doc taken latest
  all_is_taken None by none = λ journey is. none journey (chain_of_rest query doc left taken journey is)
  all_is_taken (Some leaves) by ((journey, is, at), latest) =
      ((journey, chain_from query doc moment left taken journey in_order forward early (omega arith) is, at), (λ other is_other. latest other (chain_of_rest query doc left taken other is_other)))

pub earlier_may_go : EarlierMayGo
earlier_may_go query doc left taken latest moment in_order forward early by =
    (taken_is_all query doc left taken moment in_order forward early latest by, all_is_taken query doc left taken moment in_order forward early latest by)

too_late : (arr latest : ℕ) → latest < arr → nat_le arr latest ≡ false
too_late arr latest l = grind (arith, nat_tests)

-- what departs too late is not in time
none_in_time : (query : Query) (left : List Connection) → NoneArrivesEarly left → All (λ (c : Connection). latest_of query < c.dep) left → in_time query left ≡ []
none_in_time query left forward late =
    filter_none (λ (c : Connection). nat_le c.arr (latest_of query)) left
    (λ k d within. let l = late k d within in let f = forward k d within in too_late (get_or left k d).arr (latest_of query) (omega arith))

pub same_in_time : (query : Query) (taken left : List Connection) → NoneArrivesEarly left → All (λ (c : Connection). latest_of query < c.dep) left → in_time query (taken ++ left) ≡ in_time query taken
same_in_time query taken left forward late =
    in_time_parts query taken left ∙ ap (λ l. in_time query taken ++ l) (none_in_time query left forward late) ∙ append-nil (in_time query taken)

pub later_may_go : LaterMayGo
later_may_go query doc taken left latest forward late =
    let same = same_in_time query taken left forward late in
    let P : List Connection → Type 0 = λ l. IsLatestDeparture (IsLegOf l) query doc latest in
    ((λ is. subst P (sym same) is), (λ is. subst P same is))
