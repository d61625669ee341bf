use Rattle.std.proofs.Common.{◌∙◌, ◌++◌, [], ◌∷◌, List, ap, sym}
use Rattle.std.proofs.lemmas.List.Elements.{filter_map-append}
use Rattle.std.specs.List.{filter_map}
use Rattle.gtfs_tables.specs.Trips.LeftOut.{time_unless}
use Rattle.gtfs_tables.specs.declared.trips.stop_times.StopTime.{StopTime}
use Rattle.gtfs_tables.proofs.trips.timed_trips.times_of.Goals as goal

pub visits-preserved : goal.visits-preserved
visits-preserved c =
    let f = time_unless c.args.left.now in
    c.in_ok-push_time.ensures ∙ ap (λ (l : List StopTime). l ++ filter_map f (c.in-Some.visit ∷ [])) c.visits.invariant
    ∙ sym (filter_map-append f c.visits.yielded (c.in-Some.visit ∷ []))
