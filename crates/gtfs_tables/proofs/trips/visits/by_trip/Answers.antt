-- The comparison answers by a total order.
use Rattle.std.proofs.Common.{◌≡◌, ap, rules}
use Rattle.std.proofs.lemmas.List.Sorted.{answers_always, ranks_by}
use Rattle.std.specs.Ordering.{is_lt}
use Rattle.gtfs_tables.specs.Trips.Visits.{visit_cmp}
use Rattle.gtfs_tables.specs.declared.trips.visits.Visit.{Visit}
use Rattle.gtfs_tables.proofs.TripsLemmas.VisitFacts.{visit_total}
use Rattle.gtfs_tables.proofs.trips.visits.by_trip.Goals as goal

pub returns-clause-sorted : goal.returns-clause-sorted
returns-clause-sorted c =
    c.in_ok-sort_by.ensures.sorted (λ (x y : Visit). is_lt (visit_cmp x y)) (ranks_by visit_total (λ x. x))
    (answers_always _ _ _ (λ f a r g called. let same : r ≡ visit_cmp a.0.now a.1.0.now = search rules in ap is_lt same))
