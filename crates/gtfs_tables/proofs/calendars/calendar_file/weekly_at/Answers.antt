use Rattle.std.proofs.Common.{◌∙◌, ℕ, List, ap}
use Rattle.std.specs.Prelude.{codes}
use Rattle.std.specs.Str.{bytes_eq}
use Rattle.lc_time.specs.Date.{date_said}
use Rattle.gtfs_tables.specs.Fields.Columns.{row_at, text_at, text_in}
use Rattle.gtfs_tables.specs.Fields.Places.{is_before, stands_twice}
use Rattle.gtfs_tables.specs.Fields.Rules.{first_of}
use Rattle.gtfs_tables.specs.Fields.Fields.{id_said}
use Rattle.gtfs_tables.specs.Calendars.Calendar.{calendar_rule, services_of, weekdays_said, weekly_of, weekly_rules, weekly_said}
use Rattle.gtfs_tables.proofs.CalendarsLemmas.CalendarFacts.{reads_weekly}
use Rattle.gtfs_tables.proofs.calendars.calendar_file.weekly_at.Goals as goal

pub returns : goal.returns
unfolding calendar_rule weekly_said
returns c =
    let sheet = c.args.rows.now in
    let row = row_at sheet c.args.place in
    let columns = c.requires.columns in
    let name = c.text-name.ensures.value ∙ ap (text_in row) columns.service.place in
    let service = c.in_ok-service.ensures ∙ ap id_said name in
    let again =
    c.is_before-again.ensures
    ∙ ap (λ first. is_before first c.args.place) (c.place_of_text.ensures (services_of sheet) c.requires.places)
    ∙ ap (λ text. stands_twice bytes_eq (services_of sheet) c.args.place text) name in
    let from = c.date-from.ensures ∙ ap date_said (c.text.ensures.value ∙ ap (text_in row) columns.from.place) in
    let to = c.date-to.ensures ∙ ap date_said (c.text-2.ensures.value ∙ ap (text_in row) columns.to.place) in
    let text = λ (name : List ℕ). text_at sheet row name in
    c.in_row.ensures
    (first_of (weekly_rules (id_said (text (codes "service_id"))) (stands_twice bytes_eq (services_of sheet) c.args.place (text (codes "service_id"))) (weekdays_said sheet row) (date_said (text (codes "start_date"))) (date_said (text (codes "end_date")))))
    (weekly_of (id_said (text (codes "service_id"))) (weekdays_said sheet row) (date_said (text (codes "start_date"))) (date_said (text (codes "end_date"))))
    (reads_weekly c.in_ok-service.service _ c.is_before-again.result _ c.weekdays-days.result _ c.date-from.result _ c.date-to.result _ c.weekly.result service again c.weekdays-days.ensures from to c.weekly.ensures)
