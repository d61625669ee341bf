use Rattle.std.proofs.Common.{Bor, ℕ, List, subst, sym}
use Rattle.gtfs_tables.specs.Trips.LeftOut.{AreLeftOut}
use Rattle.gtfs_tables.proofs.TripsLemmas.TimedFacts.{left_out_is}
use Rattle.gtfs_tables.proofs.trips.timed_trips.timed.Goals as goal

pub timed_without-requires-clause-left : goal.timed_without-requires-clause-left
timed_without-requires-clause-left c =
    let out = left_out_is c.args.visits.items c.as_slice.result.now c.in_ok-stopless.stopless.items c.as_slice-2.result.now c.in_ok-left.left.items c.as_slice.ensures.value c.as_slice-2.ensures.value c.in_ok-left.ensures.sorted c.in_ok-left.ensures.are c.in_ok-stopless.ensures in
    subst (λ (l : List (Bor (List ℕ))). AreLeftOut c.args.visits.items l) (sym c.as_slice-3.ensures.value) out
