use Rattle.std.proofs.Common.{List, sym, subst}
use Rattle.lc_model.specs.Journey.{alight_of, board_of}
use Rattle.lc_model.specs.Leg.{in_time}
use Rattle.lc_model.specs.declared.doc.StopsDoc.{StopsDoc}
use Rattle.lc_model.specs.declared.key.RunKey.{RunKey}
use Rattle.lc_model.specs.declared.ride.Ride.{Ride}
use Rattle.lc_model.specs.declared.stop.Stop.{Stop}
use Rattle.csa_scan.specs.Kept.{kept_of}
use Rattle.csa_scan.specs.Near.{IsWalkAt}
use Rattle.csa_scan.specs.RidesTo.{AreRidesTo}
use Rattle.csa_scan.specs.declared.side.Side.TheVariants.{After, Before}
use Rattle.csa_scan.specs.declared.trace.Arrival.{Arrival}
use Rattle.csa_scan.proofs.LeastLemmas.{journey_no_earlier, best_journey}
use Rattle.csa_scan.proofs.scan.Scan.journey.Goals as goal

pub returns-in_default : goal.returns-in_default
returns-in_default c = λ query doc taken s journey h.
    let r = journey_no_earlier query doc s.asked c.args.self.now.runs (kept_of c.args.self.now.progress) (in_time query taken) s.stands journey h in
    c.in_default.not-Some r.0 r.1

pub returns : goal.returns
returns c = λ query doc taken s.
    let scan = c.args.self.now in
    let journey = c.in_ok-journey.journey in
    let place = c.in-Some.goal.place in
    let A : List Arrival → Type 0 = λ arrivals. AreRidesTo c.as_slice-stops.result.now c.as_slice.result.now arrivals place c.in_ok-rides.rides.items in
    let K : List RunKey → Type 0 = λ runs. AreRidesTo c.as_slice-stops.result.now runs scan.progress.arrivals.items place c.in_ok-rides.rides.items in
    let S : List Stop → Type 0 = λ stops. AreRidesTo stops scan.runs scan.progress.arrivals.items place c.in_ok-rides.rides.items in
    let D : StopsDoc → Type 0 = λ d. AreRidesTo d.stops scan.runs scan.progress.arrivals.items place c.in_ok-rides.rides.items in
    let R : List Ride → Type 0 = λ l. AreRidesTo doc.stops scan.runs scan.progress.arrivals.items place l in
    let rides = subst R (sym c.in_ok-journey.ensures.rides)
    (subst D s.same_doc (subst S c.as_slice-stops.ensures.value (subst K c.as_slice.ensures.value (subst A c.as_slice-2.ensures.value c.in_ok-rides.ensures.rides)))) in
    let B : List Stop → Type 0 = λ stops. IsWalkAt Before stops scan.walks.starts.items (board_of c.in_ok-rides.rides.items) journey.before in
    let C : StopsDoc → Type 0 = λ d. IsWalkAt Before d.stops scan.walks.starts.items (board_of c.in_ok-rides.rides.items) journey.before in
    let E : List Ride → Type 0 = λ l. IsWalkAt Before doc.stops scan.walks.starts.items (board_of l) journey.before in
    let before = subst E (sym c.in_ok-journey.ensures.rides) (subst C s.same_doc (subst B c.as_slice-stops.ensures.value c.in_ok-journey.ensures.before)) in
    let F : List Stop → Type 0 = λ stops. IsWalkAt After stops scan.walks.ends.items (alight_of c.in_ok-rides.rides.items) journey.after in
    let G : StopsDoc → Type 0 = λ d. IsWalkAt After d.stops scan.walks.ends.items (alight_of c.in_ok-rides.rides.items) journey.after in
    let H : List Ride → Type 0 = λ l. IsWalkAt After doc.stops scan.walks.ends.items (alight_of l) journey.after in
    let after = subst H (sym c.in_ok-journey.ensures.rides) (subst G s.same_doc (subst F c.as_slice-stops.ensures.value c.in_ok-journey.ensures.after)) in
    best_journey query doc s.asked scan.walks s.walks scan.runs (kept_of scan.progress) (in_time query taken) s.stands c.in-Some.goal c.in-Some.is journey rides before after
