use Rattle.std.proofs.Common.{◌≡◌, ℕ, Some, arith}
use Rattle.back_scan.proofs.RidesLemmas.{DepartsAfter, DepartsAfter-from_moment, goes_on_not_empty, leads_further, leads_to_end, nearer}
use Rattle.back_scan.proofs.journey.rides_from.Goals as goal

pub loop-next-smaller : goal.loop-next-smaller
loop-next-smaller c =
    let departures = c.args.departures.now in
    let d = c.departure_from-departure.result in
    let is = c.requires.points_on.1 c.in-Some.at d c.departure_from-departure.ensures in
    let later = λ (k : ℕ) (e : d.alighting.next ≡ Some k). DepartsAfter-from_moment departures k d.alighting.arr (is.alighting.next k e) in
    nearer departures c.loop-next.next d.alighting.next c.in-Some.at d c.in-Some.is c.departure_from-departure.ensures is.is_moment
    (λ k e. let f = later k e in let g = is.forward in let m = f.after in let r : DepartsAfter departures k d.dep = record { departure = f.departure; is = f.is; after = omega arith } in r)

pub loop-next-preserved : goal.loop-next-preserved
loop-next-preserved c =
    let departures = c.args.departures.now in
    let d = c.departure_from-departure.result in
    let is = c.requires.points_on.1 c.in-Some.at d c.departure_from-departure.ensures in
    record {
      within = λ k e. let f = DepartsAfter-from_moment departures k d.alighting.arr (is.alighting.next k e) in record { departure = f.departure; is = f.is };
      leads = leads_further c.args.stops.now c.args.runs.now departures c.args.stop c.in-Some.at d c.in_ok-ride_of.field-0 c.loop-next.rides.items c.push.new.self.items c.loop-next.next
          c.in-Some.is c.departure_from-departure.ensures c.in_ok-ride_of.ensures c.in_ok-push.ensures.items c.loop-next.invariant.leads;
    }

pub returns-clause-rides : goal.returns-clause-rides
returns-clause-rides c =
    leads_to_end c.args.stops.now c.args.runs.now c.args.departures.now c.args.stop c.loop-next.rides.items c.loop-next.next c.in_default.is c.loop-next.invariant.leads

pub returns-clause-not_empty : goal.returns-clause-not_empty
returns-clause-not_empty c = goes_on_not_empty c.args.stops.now c.args.runs.now c.args.departures.now c.args.stop c.loop-next.rides.items (returns-clause-rides c)
