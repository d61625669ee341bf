use Rattle.std.proofs.Common.{◌∙◌, ℕ, Bool, List, Option, Some, ap, ap₂}
use Rattle.std.specs.Prelude.{◌||◌, is_none, not}
use Rattle.gtfs_tables.specs.Fields.Columns.{row_at, text_in}
use Rattle.gtfs_tables.specs.Fields.Places.{is_unknown}
use Rattle.gtfs_tables.specs.Fields.Rules.{first_of}
use Rattle.gtfs_tables.specs.Fields.Fields.{id_said}
use Rattle.gtfs_tables.proofs.FieldsLemmas.Said.{none_recorded}
use Rattle.gtfs_tables.specs.Calendars.Transfers.{from_of, ids_of_stops, is_kind, is_of_some_trips, is_passed_over, kind_of, kind_said, seconds_of, seconds_said, to_of, transfer_of, transfer_rules, transfer_said, transfers_rule}
use Rattle.gtfs_tables.proofs.CalendarsLemmas.TransferFacts.{reads_transfer}
use Rattle.gtfs_tables.proofs.calendars.transfers_file.transfer_at.Goals as goal

pub returns : goal.returns
unfolding transfers_rule transfer_said
returns c = λ stops known.
    let sheet = c.args.rows.now in
    let row = row_at sheet c.args.place in
    let ids = ids_of_stops stops in
    let columns = c.requires.columns in
    let from = c.text-from.ensures.value ∙ ap (text_in row) columns.from.place in
    let to = c.text-to.ensures.value ∙ ap (text_in row) columns.to.place in
    let kind = c.kind-kind.ensures ∙ ap kind_said (c.text.ensures.value ∙ ap (text_in row) columns.kind.place) in
    let seconds = c.seconds-seconds.ensures ∙ ap seconds_said (c.text-2.ensures.value ∙ ap (text_in row) columns.seconds.place) in
    let first = c.in_ok-first.ensures ∙ ap id_said from in
    let last = c.in_ok-last.ensures ∙ ap id_said to in
    let unknown = c.one_is_unknown-unknown.ensures ids known ∙ ap₂ (λ (x y : List ℕ). is_unknown ids x || is_unknown ids y) from to in
    let passed =
    c.passed_over-passed.ensures
    ∙ ap (λ (k : Option ℕ). not (is_kind k) || (c.is_none.result || (c.is_none-2.result || c.of_some_trips-of_some.result))) kind
    ∙ ap (λ (b : Bool). not (is_kind (kind_of sheet row)) || (b || (c.is_none-2.result || c.of_some_trips-of_some.result))) (none_recorded c.in_ok-first.first c.is_none.result c.is_none.ensures ∙ ap is_none first)
    ∙ ap (λ (b : Bool). not (is_kind (kind_of sheet row)) || (is_none (id_said (from_of sheet row)) || (b || c.of_some_trips-of_some.result))) (none_recorded c.in_ok-last.last c.is_none-2.result c.is_none-2.ensures ∙ ap is_none last)
    ∙ ap (λ (b : Bool). not (is_kind (kind_of sheet row)) || (is_none (id_said (from_of sheet row)) || (is_none (id_said (to_of sheet row)) || b))) c.of_some_trips-of_some.ensures in
    let passes = is_passed_over (id_said (from_of sheet row)) (id_said (to_of sheet row)) (is_of_some_trips sheet row) (kind_of sheet row) in
    c.in_row.ensures
    (first_of (transfer_rules passes (is_unknown ids (from_of sheet row) || is_unknown ids (to_of sheet row)) (kind_of sheet row) (seconds_of sheet row)))
    (Some (transfer_of passes (id_said (from_of sheet row)) (id_said (to_of sheet row)) (kind_of sheet row) (seconds_of sheet row)))
    (reads_transfer c.passed_over-passed.result passes c.one_is_unknown-unknown.result _ c.in_ok-first.first _ c.in_ok-last.last _ c.kind-kind.result _ c.seconds-seconds.result _ c.transfer.result
    passed unknown first last kind seconds c.transfer.ensures)
