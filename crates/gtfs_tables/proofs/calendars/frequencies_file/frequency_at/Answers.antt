use Rattle.std.proofs.Common.{◌∙◌, ℕ, List, ap}
use Rattle.std.specs.Prelude.{codes}
use Rattle.lc_time.specs.Clock.{gtfs_time_said}
use Rattle.gtfs_tables.specs.Fields.Columns.{row_at, text_at, text_in}
use Rattle.gtfs_tables.specs.Fields.Places.{is_unknown}
use Rattle.gtfs_tables.specs.Fields.Rules.{first_of}
use Rattle.gtfs_tables.specs.Fields.Fields.{id_said}
use Rattle.gtfs_tables.specs.Calendars.Frequencies.{frequencies_rule, frequency_of, frequency_rules, frequency_said, headway_said, ids_of_trips}
use Rattle.gtfs_tables.proofs.CalendarsLemmas.FrequencyFacts.{reads_frequency}
use Rattle.gtfs_tables.proofs.calendars.frequencies_file.frequency_at.Goals as goal

pub returns : goal.returns
unfolding frequencies_rule frequency_said
returns c = λ trips known.
    let sheet = c.args.rows.now in
    let row = row_at sheet c.args.place in
    let ids = ids_of_trips trips in
    let columns = c.requires.columns in
    let name = c.text-name.ensures.value ∙ ap (text_in row) columns.trip.place in
    let headway = c.text.ensures.value ∙ ap (text_in row) columns.headway.place in
    let from = c.text-2.ensures.value ∙ ap (text_in row) columns.from.place in
    let to = c.text-3.ensures.value ∙ ap (text_in row) columns.to.place in
    let unknown = c.is_unknown-unknown.ensures ids known ∙ ap (is_unknown ids) name in
    let text = λ (name : List ℕ). text_at sheet row name in
    c.in_row.ensures
    (first_of (frequency_rules (id_said (text (codes "trip_id"))) (is_unknown ids (text (codes "trip_id"))) (headway_said (text (codes "headway_secs"))) (gtfs_time_said (text (codes "start_time"))) (gtfs_time_said (text (codes "end_time")))))
    (frequency_of (id_said (text (codes "trip_id"))) (headway_said (text (codes "headway_secs"))) (gtfs_time_said (text (codes "start_time"))) (gtfs_time_said (text (codes "end_time"))))
    (reads_frequency c.in_ok-trip.trip _ c.is_unknown-unknown.result _ c.headway-headway.result _ c.read_time-from.result _ c.read_time-to.result _ c.frequency.result
    (c.in_ok-trip.ensures ∙ ap id_said name) unknown (c.headway-headway.ensures ∙ ap headway_said headway) (c.read_time-from.ensures ∙ ap gtfs_time_said from) (c.read_time-to.ensures ∙ ap gtfs_time_said to) c.frequency.ensures)
