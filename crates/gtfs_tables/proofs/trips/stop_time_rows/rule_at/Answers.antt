use Rattle.std.proofs.Common.{◌≡◌, ◌∙◌, ℕ, ◌&&◌, ◌||◌, ◌==◌, not, List, Option, ap, ap₂, codes, is_none, is_some, length}
use Rattle.std.specs.Str.{bytes_eq}
use Rattle.gtfs_tables.specs.Fields.Columns.{row_at, text_at, text_in}
use Rattle.lc_time.specs.Digits.{u32_said}
use Rattle.gtfs_tables.specs.Fields.Places.{first_place, is_unknown, stands_twice}
use Rattle.gtfs_tables.specs.Fields.Times.{is_wrong_time}
use Rattle.gtfs_tables.proofs.FieldsLemmas.Said.{none_recorded}
use Rattle.gtfs_tables.specs.Trips.Stops.{stop_id_of}
use Rattle.gtfs_tables.specs.Trips.StopTimeRows.{ids_of_stops, ids_of_trips, same_key, sequence_of, stop_time_keys}
use Rattle.gtfs_tables.specs.Trips.Trips.{trip_id_of}
use Rattle.gtfs_tables.proofs.TripsLemmas.StopTimeRuleFacts.{rules_are}
use Rattle.gtfs_tables.proofs.trips.stop_time_rows.rule_at.Goals as goal

pub returns : goal.returns
returns c = λ stops trips known.
    let sheet = c.args.rows.now in
    let row = row_at sheet c.args.place in
    let trip : c.text-trip.result.now ≡ trip_id_of sheet row = c.text-trip.ensures.value ∙ ap (text_in row) c.requires.columns.trip.place in
    let stop : c.text-stop.result.now ≡ stop_id_of sheet row = c.text-stop.ensures.value ∙ ap (text_in row) c.requires.columns.stop.place in
    let arr : c.text-arr.result.now ≡ text_at sheet row (codes "arrival_time") = c.text-arr.ensures.value ∙ ap (text_in row) c.requires.columns.arr.place in
    let dep : c.text-dep.result.now ≡ text_at sheet row (codes "departure_time") = c.text-dep.ensures.value ∙ ap (text_in row) c.requires.columns.dep.place in
    let seq : c.read_u32-seq.result ≡ sequence_of sheet row = c.read_u32-seq.ensures ∙ ap u32_said (c.text.ensures.value ∙ ap (text_in row) c.requires.columns.seq.place) in
    let wrong = λ (s a d : List ℕ). not (length s == 0) && (is_wrong_time a || is_wrong_time d) in
    c.first_rule.ensures
    ∙ rules_are stops trips sheet c.args.place c.is_empty.result c.is_second.result c.is_unknown.result c.is_none.result c.is_none-2.result c.has_wrong_time.result
    (c.is_empty.ensures ∙ ap (λ (s : List ℕ). length s == 0) trip)
    (c.is_second.ensures (stop_time_keys sheet) known.keys
    ∙ ap₂ (λ (t : List ℕ) (n : Option ℕ). is_some n && stands_twice same_key (stop_time_keys sheet) c.args.place (t, n)) trip seq)
    (c.is_unknown.ensures (ids_of_stops stops) known.stops ∙ ap (is_unknown (ids_of_stops stops)) stop)
    (none_recorded c.place_of_text.result c.is_none.result c.is_none.ensures ∙ ap (λ (o : Option ℕ). is_none o) (c.place_of_text.ensures (ids_of_trips trips) known.trips) ∙ ap (λ (t : List ℕ). is_none (first_place bytes_eq (ids_of_trips trips) t)) trip)
    (none_recorded c.read_u32-seq.result c.is_none-2.result c.is_none-2.ensures ∙ ap (λ (o : Option ℕ). is_none o) seq)
    (c.has_wrong_time.ensures ∙ ap (λ (s : List ℕ). wrong s c.text-arr.result.now c.text-dep.result.now) stop
    ∙ ap₂ (λ (a d : List ℕ). wrong (stop_id_of sheet row) a d) arr dep)
