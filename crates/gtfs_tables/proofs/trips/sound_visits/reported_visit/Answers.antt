use Rattle.std.proofs.Common.{◌≡◌, ◌∙◌, ◌==◌, ◌&&◌, ◌||◌, ◌+◌, ℕ, if◌then◌else◌, List, None, Some, ap, codes, false, is_none, length, not, rules, sym, unwrap_or}
use Rattle.lc_time.specs.Clock.{gtfs_time_said}
use Rattle.gtfs_tables.specs.Fields.Columns.{row_at, text_at, text_in}
use Rattle.gtfs_tables.specs.Fields.Places.{is_unknown}
use Rattle.gtfs_tables.specs.Fields.Times.{is_wrong_time}
use Rattle.gtfs_tables.specs.declared.fields.trip_rows.TripRow.{TripRow}
use Rattle.gtfs_tables.specs.Trips.Stops.{stop_id_of}
use Rattle.gtfs_tables.specs.Trips.StopTimeRows.{ids_of_stops, sequence_of}
use Rattle.gtfs_tables.specs.Trips.Trips.{trip_id_of}
use Rattle.gtfs_tables.specs.Trips.Visits.{allows}
use Rattle.gtfs_tables.specs.declared.trips.sound_visits.SaidStop.{SaidStop}
use Rattle.gtfs_tables.proofs.TripsLemmas.SoundLemmas.{at_some, key_is_known, visit_is}
use Rattle.gtfs_tables.proofs.trips.sound_visits.reported_visit.Goals as goal

pub returns : goal.returns
returns c =
    let sheet = c.args.rows.now in
    let place = c.args.place in
    let row = row_at sheet place in
    let stop : c.text-stop_id.result.now ≡ stop_id_of sheet row = c.text-stop_id.ensures.value ∙ ap (text_in row) c.requires.columns.stop.place in
    let said = c.in-Some.ensures in
    let copied : c.in_ok-copy.field-0 ≡ c.index-trips-said.result.trip = search rules in
    let id : c.in_ok-copy.field-0 ≡ trip_id_of sheet row =
    copied ∙ ap (λ (t : TripRow). t.trip) c.index-trips-said.is ∙ said.same c.index-trips-said.result in
    let stop_is = at_some (λ (o : SaidStop). o.id ≡ (if length c.text-stop_id.result.now == 0 then None else Some c.text-stop_id.result.now)) c.in_ok-stop.field-0 c.in-Some-2.stop c.in-Some-2.is c.in_ok-stop.ensures.value in
    let stop_known = at_some (λ (o : SaidStop). is_unknown (ids_of_stops c.args.stops.now) c.text-stop_id.result.now ≡ false) c.in_ok-stop.field-0 c.in-Some-2.stop c.in-Some-2.is c.in_ok-stop.ensures.known in
    let wrong = λ (s a d : List ℕ). not (length s == 0) && (is_wrong_time a || is_wrong_time d) in
    record {
      said = visit_is (place + 1) c.in_ok-copy.field-0 (trip_id_of sheet row) c.in-Some-2.stop.id (if length (stop_id_of sheet row) == 0 then None else Some (stop_id_of sheet row)) c.in-Some.said.seq (unwrap_or (sequence_of sheet row) 0)
          c.in-Some.said.times.arr (gtfs_time_said (text_at sheet row (codes "arrival_time"))) c.in-Some.said.times.dep (gtfs_time_said (text_at sheet row (codes "departure_time")))
          c.rights_said-rights.result.board (allows (text_at sheet row (codes "pickup_type"))) c.rights_said-rights.result.alight (allows (text_at sheet row (codes "drop_off_type")))
          id (stop_is ∙ ap (λ (s : List ℕ). if length s == 0 then None else Some s) stop) (ap (λ o. unwrap_or o 0) said.seq) said.arr said.dep
          c.rights_said-rights.ensures.board c.rights_said-rights.ensures.alight;
      sound = record {
        named = said.named;
        stop_known = ap (is_unknown (ids_of_stops c.args.stops.now)) (sym stop) ∙ stop_known;
        trip_known = key_is_known (λ (t : TripRow). t.trip) c.args.trips.now c.in-Some.said.trip (trip_id_of sheet row) said.within said.same;
        numbered = ap (λ o. is_none o) (sym said.seq);
        timed = sym (ap (λ (s : List ℕ). wrong s (text_at sheet row (codes "arrival_time")) (text_at sheet row (codes "departure_time"))) stop) ∙ said.timed;
      };
    }
