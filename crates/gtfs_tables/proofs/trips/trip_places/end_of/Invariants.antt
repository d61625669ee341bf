-- The visits from the first place up to this one are of the trip.
use Rattle.std.proofs.Common.{◌≡◌, ℕ, ◌<◌, ◌≤◌, true}
use Rattle.gtfs_tables.specs.Trips.TripPlaces.{is_visit_of}
use Rattle.gtfs_tables.proofs.trips.trip_places.end_of.Given as goal

abbrev pub invariant-visits : goal.invariant-visits
invariant-visits l = (place : ℕ) → l.first ≤ place → place < l.place → is_visit_of l.visits l.trip place ≡ true
