use Rattle.std.proofs.Common.{List, ◌≤◌, sym, subst, arith}
use Rattle.lc_model.specs.Journey.{alight_of, board_of}
use Rattle.lc_model.specs.declared.key.RunKey.{RunKey}
use Rattle.lc_model.specs.declared.ride.Ride.{Ride}
use Rattle.lc_model.specs.declared.stop.Stop.{Stop}
use Rattle.csa_scan.specs.Kept.{kept_of}
use Rattle.csa_scan.specs.Near.{IsWalkAt}
use Rattle.csa_scan.specs.RidesTo.{AreRidesTo}
use Rattle.csa_scan.specs.declared.side.Side.TheVariants.{After, Before}
use Rattle.csa_scan.specs.declared.trace.Arrival.{Arrival}
use Rattle.change_rounds.proofs.EndsLemmas.{chain_within}
use Rattle.change_rounds.proofs.rounds.Rounds.found.Goals as goal

pub returns : goal.returns
returns c = λ query list n asked are.
    let rounds = c.args.self.now in
    let doc = c.args.doc.now in
    let journey = c.in_ok-journey.journey in
    let goal = c.in-Some.goal in
    let by : goal.arr ≤ c.args.best = omega arith in
    let A : List Arrival → Type 0 = λ arrivals. AreRidesTo c.as_slice-stops.result.now c.as_slice.result.now arrivals goal.place c.in_ok-rides.rides.items in
    let K : List RunKey → Type 0 = λ runs. AreRidesTo c.as_slice-stops.result.now runs rounds.progress.arrivals.items goal.place c.in_ok-rides.rides.items in
    let S : List Stop → Type 0 = λ stops. AreRidesTo stops rounds.runs rounds.progress.arrivals.items goal.place c.in_ok-rides.rides.items in
    let R : List Ride → Type 0 = λ l. AreRidesTo doc.stops rounds.runs rounds.progress.arrivals.items goal.place l in
    let rides = subst R (sym c.in_ok-journey.ensures.rides)
    (subst S c.as_slice-stops.ensures.value (subst K c.as_slice.ensures.value (subst A c.as_slice-2.ensures.value c.in_ok-rides.ensures.rides))) in
    let B : List Stop → Type 0 = λ stops. IsWalkAt Before stops rounds.walks.starts.items (board_of c.in_ok-rides.rides.items) journey.before in
    let E : List Ride → Type 0 = λ l. IsWalkAt Before doc.stops rounds.walks.starts.items (board_of l) journey.before in
    let before = subst E (sym c.in_ok-journey.ensures.rides) (subst B c.as_slice-stops.ensures.value c.in_ok-journey.ensures.before) in
    let F : List Stop → Type 0 = λ stops. IsWalkAt After stops rounds.walks.ends.items (alight_of c.in_ok-rides.rides.items) journey.after in
    let H : List Ride → Type 0 = λ l. IsWalkAt After doc.stops rounds.walks.ends.items (alight_of l) journey.after in
    let after = subst H (sym c.in_ok-journey.ensures.rides) (subst F c.as_slice-stops.ensures.value c.in_ok-journey.ensures.after) in
    chain_within query doc asked rounds.walks are.walks rounds.runs (kept_of rounds.progress) list n c.args.best are.after goal c.in-Some.is by journey rides before after
