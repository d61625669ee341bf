use Rattle.std.proofs.Common.{◌≡◌, ◌<◌, ℕ, Some, length, refl, arith}
use Rattle.std.specs.List.{slice_get}
use Rattle.std.proofs.lemmas.Option.{slice_get_read}
use Rattle.csa_scan.proofs.WayBackLemmas.{leads_back, nearer}
use Rattle.csa_scan.proofs.journey.rides_to.Goals as goal

less_than : (i j k : ℕ) → i < j → j < k → i < k
less_than i j k l m = omega arith

pub loop-after-smaller : goal.loop-after-smaller
loop-after-smaller c =
    let arrivals = c.args.arrivals.now in
    let at = c.in-Some.at in
    let a = c.index-arrivals-at.result in
    let e : slice_get arrivals at ≡ Some a = slice_get_read arrivals (length arrivals) at a refl (c.loop-after.invariant.within at c.in-Some.is) c.index-arrivals-at.is in
    nearer c.loop-after.after a.boarding.after at c.in-Some.is (λ k f. (c.requires.points_back at a e).boarding.after k f)

pub loop-after-preserved : goal.loop-after-preserved
loop-after-preserved c =
    let arrivals = c.args.arrivals.now in
    let at = c.in-Some.at in
    let a = c.index-arrivals-at.result in
    let inside = c.loop-after.invariant.within at c.in-Some.is in
    let e : slice_get arrivals at ≡ Some a = slice_get_read arrivals (length arrivals) at a refl inside c.index-arrivals-at.is in
    record {
      within = λ k f. less_than k at (length arrivals) ((c.requires.points_back at a e).boarding.after k f) inside;
      leads = leads_back c.args.stops.now c.args.runs.now arrivals c.args.place at a c.in_ok-ride_of.field-0 c.loop-after.rides.items c.push.new.self.items c.loop-after.after
          c.in-Some.is e c.in_ok-ride_of.ensures c.in_ok-push.ensures.items c.loop-after.invariant.leads;
    }
