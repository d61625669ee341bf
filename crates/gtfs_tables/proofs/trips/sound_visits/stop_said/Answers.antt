use Rattle.std.proofs.Common.{◌==◌, length, not}
use Rattle.lc_model.specs.declared.stop.Stop.{Stop}
use Rattle.gtfs_tables.proofs.TripsLemmas.SoundLemmas.{key_is_known, never}
use Rattle.gtfs_tables.proofs.trips.sound_visits.stop_said.Goals as goal

pub returns-clause-known : goal.returns-clause-known
returns-clause-known c =
    never (not (length c.args.text.now == 0)) _
    (key_is_known (λ (s : Stop). s.id) c.args.stops.now c.in-Some.place c.args.text.now c.in-Some.ensures.within c.in-Some.ensures.same)
