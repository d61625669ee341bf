-- Each file of services, frequencies and transfers says one value, or has one first fault, and never both.
use Rattle.std.proofs.Common.{◌≡◌, ◌∙◌, ℕ, List, Option, Some, ap, map, sym}
use Rattle.std.specs.List.{filter_map}
use Rattle.gtfs_rows.specs.Sheet.{Sheet}
use Rattle.gtfs_tables.proofs.FieldsLemmas.AnyLengthLaws.{first_faults_are_one, sound_table_has_no_fault, sound_tables_are_one}
use Rattle.gtfs_tables.proofs.FieldsLemmas.SaidFacts.{lists_of_some}
use Rattle.gtfs_tables.specs.Calendars.Calendar.{calendar_columns, calendar_rule, weekly_said}
use Rattle.gtfs_tables.specs.Calendars.CalendarDates.{calendar_dates_columns, calendar_dates_rule, date_row_said}
use Rattle.gtfs_tables.specs.Calendars.Frequencies.{frequencies_columns, frequencies_rule, frequency_said}
use Rattle.gtfs_tables.specs.Calendars.Laws.{NeverBothDates, NeverBothFrequencies, NeverBothTransfers, NeverBothWeekly, OneCalendarDatesFault, OneCalendarFault, OneDates, OneFrequencies, OneFrequenciesFault, OneTransfers, OneTransfersFault, OneWeekly}
use Rattle.gtfs_tables.specs.Calendars.Transfers.{transfer_said, transfers_columns, transfers_rule}

-- what the rows of one sheet say is one list
rows_are_one : {Item : Type 0} (said : Sheet → List (List ℕ) → Option Item) (s t : Sheet) (a b : List Item) → s ≡ t
    → map Some a ≡ map (said s) s.rows → map Some b ≡ map (said t) t.rows → a ≡ b
rows_are_one said s t a b same h k = lists_of_some a b (h ∙ ap (λ (x : Sheet). map (said x) x.rows) same ∙ sym k)

pub weekly_are_one : OneWeekly
weekly_are_one bytes a b h k =
    rows_are_one weekly_said h.sheet k.sheet a b (sound_tables_are_one calendar_columns bytes calendar_rule h.sheet k.sheet h.sound k.sound) h.rows k.rows

pub calendar_faults_are_one : OneCalendarFault
calendar_faults_are_one bytes = first_faults_are_one calendar_columns bytes calendar_rule

pub weekly_have_no_fault : NeverBothWeekly
weekly_have_no_fault bytes weekly fault h k = sound_table_has_no_fault calendar_columns bytes calendar_rule h.sheet fault h.sound k

pub dates_are_one : OneDates
dates_are_one bytes a b h k =
    rows_are_one date_row_said h.sheet k.sheet a b (sound_tables_are_one calendar_dates_columns bytes calendar_dates_rule h.sheet k.sheet h.sound k.sound) h.rows k.rows

pub calendar_dates_faults_are_one : OneCalendarDatesFault
calendar_dates_faults_are_one bytes = first_faults_are_one calendar_dates_columns bytes calendar_dates_rule

pub dates_have_no_fault : NeverBothDates
dates_have_no_fault bytes dates fault h k = sound_table_has_no_fault calendar_dates_columns bytes calendar_dates_rule h.sheet fault h.sound k

pub frequencies_are_one : OneFrequencies
frequencies_are_one trips bytes a b h k =
    rows_are_one frequency_said h.sheet k.sheet a b (sound_tables_are_one frequencies_columns bytes (frequencies_rule trips) h.sheet k.sheet h.sound k.sound) h.rows k.rows

pub frequencies_faults_are_one : OneFrequenciesFault
frequencies_faults_are_one trips bytes = first_faults_are_one frequencies_columns bytes (frequencies_rule trips)

pub frequencies_have_no_fault : NeverBothFrequencies
frequencies_have_no_fault trips bytes frequencies fault h k = sound_table_has_no_fault frequencies_columns bytes (frequencies_rule trips) h.sheet fault h.sound k

pub transfers_are_one : OneTransfers
transfers_are_one stops bytes a b h k =
    let same : h.sheet ≡ k.sheet = sound_tables_are_one transfers_columns bytes (transfers_rule stops) h.sheet k.sheet h.sound k.sound in
    h.rows ∙ ap (λ (s : Sheet). filter_map (transfer_said s) s.rows) same ∙ sym k.rows

pub transfers_faults_are_one : OneTransfersFault
transfers_faults_are_one stops bytes = first_faults_are_one transfers_columns bytes (transfers_rule stops)

pub transfers_have_no_fault : NeverBothTransfers
transfers_have_no_fault stops bytes transfers fault h k = sound_table_has_no_fault transfers_columns bytes (transfers_rule stops) h.sheet fault h.sound k
