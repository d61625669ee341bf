use Rattle.std.proofs.Common.{◌≡◌, subst}
use Rattle.gtfs_tables.specs.Trips.SoundRows.{AreRising, AreSoundAlone}
use Rattle.gtfs_tables.specs.Trips.Visits.{visits_of_rows}
use Rattle.gtfs_tables.proofs.TripsLemmas.SoundLemmas.{at_some, sound_if_rising, sound_if_sorted}
use Rattle.gtfs_tables.proofs.trips.sound_visits.sound_visits.Goals as goal

pub returns-then-are_rising : goal.returns-then-are_rising
returns-then-are_rising c =
    let sheet = c.args.rows.now in
    sound_if_rising c.args.stops.now c.args.trips.now sheet c.in-Some.visits.items
    (at_some (λ _. AreSoundAlone c.args.stops.now c.args.trips.now sheet) c.in_ok-visits.field-0 c.in-Some.visits c.in-Some.is c.in_ok-visits.ensures.sound)
    (at_some (λ v. v.items ≡ visits_of_rows sheet) c.in_ok-visits.field-0 c.in-Some.visits c.in-Some.is c.in_ok-visits.ensures.said)
    (subst AreRising c.as_slice.ensures.value c.if-are_rising.ensures)

pub returns : goal.returns
returns c =
    let sheet = c.args.rows.now in
    sound_if_sorted c.sorted_apart.result (λ v. v.items) c.args.stops.now c.args.trips.now sheet c.in-Some.visits.items c.sorted_apart.ensures
    (at_some (λ _. AreSoundAlone c.args.stops.now c.args.trips.now sheet) c.in_ok-visits.field-0 c.in-Some.visits c.in-Some.is c.in_ok-visits.ensures.sound)
    (at_some (λ v. v.items ≡ visits_of_rows sheet) c.in_ok-visits.field-0 c.in-Some.visits c.in-Some.is c.in_ok-visits.ensures.said)
