use Rattle.std.proofs.Common.{List, Option, Some, sym, subst}
use Rattle.lc_model.specs.Journey.{alight_of, board_of}
use Rattle.lc_model.specs.Leg.{in_time}
use Rattle.lc_model.specs.declared.doc.StopsDoc.{StopsDoc}
use Rattle.lc_model.specs.declared.key.RunKey.{RunKey}
use Rattle.lc_model.specs.declared.ride.Ride.{Ride}
use Rattle.lc_model.specs.declared.stop.Stop.{Stop}
use Rattle.csa_scan.specs.Near.{IsWalkAt}
use Rattle.csa_scan.specs.declared.side.Side.TheVariants.{After, Before}
use Rattle.back_scan.specs.Kept.{kept_of}
use Rattle.back_scan.specs.Linked.{HasDeparture}
use Rattle.back_scan.specs.RidesFrom.{GoesOnFrom}
use Rattle.back_scan.specs.declared.trace.Departure.{Departure}
use Rattle.back_scan.proofs.LatestLemmas.{journey_no_later, latest_journey}
use Rattle.back_scan.proofs.LinkingLemmas.{HasDeparture-from_test}
use Rattle.back_scan.proofs.scan.BackScan.journey.Goals as goal

pub returns-in_default : goal.returns-in_default
returns-in_default c = λ query doc taken s journey h.
    let r = journey_no_later query doc s.asked c.args.self.now.runs (kept_of c.args.self.now.progress) (in_time query taken) s.stands journey h in
    c.in_default.not-Some r.0 r.1

pub rides_from-requires-clause-first : goal.rides_from-requires-clause-first
rides_from-requires-clause-first c =
    let progress = c.args.self.now.progress in
    let P : List (Option Departure) → Type 0 = λ departures. HasDeparture departures c.in-Some.start.stop in
    subst P (sym c.as_slice-2.ensures.value) (HasDeparture-from_test progress.departures.items c.in-Some.start.stop (progress.linked.is_best c.in-Some.start c.in-Some.is))

pub returns : goal.returns
returns c = λ query doc taken s.
    let scan = c.args.self.now in
    let journey = c.in_ok-journey.journey in
    let stop = c.in-Some.start.stop in
    let found = c.in_ok-rides.rides.items in
    let A : List (Option Departure) → Type 0 = λ departures. GoesOnFrom c.as_slice-stops.result.now c.as_slice.result.now departures (Some stop) found in
    let K : List RunKey → Type 0 = λ runs. GoesOnFrom c.as_slice-stops.result.now runs scan.progress.departures.items (Some stop) found in
    let S : List Stop → Type 0 = λ stops. GoesOnFrom stops scan.runs scan.progress.departures.items (Some stop) found in
    let D : StopsDoc → Type 0 = λ d. GoesOnFrom d.stops scan.runs scan.progress.departures.items (Some stop) found in
    let R : List Ride → Type 0 = λ l. GoesOnFrom doc.stops scan.runs scan.progress.departures.items (Some stop) l in
    let rides = subst R (sym c.in_ok-journey.ensures.rides)
    (subst D s.same_doc (subst S c.as_slice-stops.ensures.value (subst K c.as_slice.ensures.value (subst A c.as_slice-2.ensures.value c.in_ok-rides.ensures.rides)))) in
    let B : List Stop → Type 0 = λ stops. IsWalkAt Before stops scan.walks.starts.items (board_of found) journey.before in
    let C : StopsDoc → Type 0 = λ d. IsWalkAt Before d.stops scan.walks.starts.items (board_of found) journey.before in
    let E : List Ride → Type 0 = λ l. IsWalkAt Before doc.stops scan.walks.starts.items (board_of l) journey.before in
    let before = subst E (sym c.in_ok-journey.ensures.rides) (subst C s.same_doc (subst B c.as_slice-stops.ensures.value c.in_ok-journey.ensures.before)) in
    let F : List Stop → Type 0 = λ stops. IsWalkAt After stops scan.walks.ends.items (alight_of found) journey.after in
    let G : StopsDoc → Type 0 = λ d. IsWalkAt After d.stops scan.walks.ends.items (alight_of found) journey.after in
    let H : List Ride → Type 0 = λ l. IsWalkAt After doc.stops scan.walks.ends.items (alight_of l) journey.after in
    let after = subst H (sym c.in_ok-journey.ensures.rides) (subst G s.same_doc (subst F c.as_slice-stops.ensures.value c.in_ok-journey.ensures.after)) in
    latest_journey query doc s.asked scan.walks s.walks scan.runs (kept_of scan.progress) (in_time query taken) s.stands c.in-Some.start c.in-Some.is journey rides before after
