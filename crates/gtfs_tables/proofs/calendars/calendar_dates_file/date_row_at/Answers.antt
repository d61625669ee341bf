use Rattle.std.proofs.Common.{◌∙◌, ℕ, List, ap, ap₂}
use Rattle.std.specs.Prelude.{codes}
use Rattle.lc_time.specs.Date.{date_said}
use Rattle.gtfs_tables.specs.Fields.Columns.{row_at, text_at, text_in}
use Rattle.gtfs_tables.specs.Fields.PairPlaces.{is_same_pair}
use Rattle.gtfs_tables.specs.Fields.Places.{is_before, stands_twice}
use Rattle.gtfs_tables.specs.Fields.Rules.{first_of}
use Rattle.gtfs_tables.specs.Fields.Fields.{id_said}
use Rattle.gtfs_tables.specs.Calendars.CalendarDates.{added_said, calendar_dates_rule, date_key, date_keys_of, date_row_of, date_row_rules, date_row_said}
use Rattle.gtfs_tables.proofs.CalendarsLemmas.CalendarDatesFacts.{reads_date_row}
use Rattle.gtfs_tables.proofs.calendars.calendar_dates_file.date_row_at.Goals as goal

pub returns : goal.returns
unfolding calendar_dates_rule date_row_said
returns c =
    let sheet = c.args.rows.now in
    let row = row_at sheet c.args.place in
    let columns = c.requires.columns in
    let name = c.text-name.ensures.value ∙ ap (text_in row) columns.service.place in
    let day = c.text-day.ensures.value ∙ ap (text_in row) columns.date.place in
    let kind = c.text.ensures.value ∙ ap (text_in row) columns.kind.place in
    let again =
    c.is_before-again.ensures
    ∙ ap (λ first. is_before first c.args.place) (c.place_of_pair.ensures (date_keys_of sheet) c.requires.places)
    ∙ ap₂ (λ (x y : List ℕ). stands_twice is_same_pair (date_keys_of sheet) c.args.place (x, y)) name day in
    let text = λ (name : List ℕ). text_at sheet row name in
    c.in_row.ensures
    (first_of (date_row_rules (id_said (text (codes "service_id"))) (stands_twice is_same_pair (date_keys_of sheet) c.args.place (date_key sheet row)) (added_said (text (codes "exception_type"))) (date_said (text (codes "date")))))
    (date_row_of (id_said (text (codes "service_id"))) (added_said (text (codes "exception_type"))) (date_said (text (codes "date"))))
    (reads_date_row c.in_ok-service.service _ c.is_before-again.result _ c.added-added.result _ c.date.result _ c.date_row.result
    (c.in_ok-service.ensures ∙ ap id_said name) again (c.added-added.ensures ∙ ap added_said kind) (c.date.ensures ∙ ap date_said day) c.date_row.ensures)
