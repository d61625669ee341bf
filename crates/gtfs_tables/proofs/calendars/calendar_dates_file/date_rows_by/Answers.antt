use Rattle.std.proofs.Common.{◌≡◌, ◌⊎◌, ◌++◌, [], ◌∷◌, arith, length, rules}
use Rattle.gtfs_tables.specs.Fields.Table.{IsRowFault}
use Rattle.gtfs_tables.specs.declared.fields.fault.FileFault.TheVariants.{NoMemory}
use Rattle.gtfs_tables.proofs.FieldsLemmas.ExitFacts.{passed_on, wants_memory}
use Rattle.gtfs_tables.proofs.FieldsLemmas.SaidFacts.{read_more, reported_first}
use Rattle.gtfs_tables.specs.Calendars.CalendarDates.{calendar_dates_rule, date_row_said}
use Rattle.gtfs_tables.proofs.calendars.calendar_dates_file.date_rows_by.Goals as goal

pub returns-in_err-date_row-clause-fault : goal.returns-in_err-date_row-clause-fault
returns-in_err-date_row-clause-fault c =
    let rule = calendar_dates_rule c.args.rows.now in
    let count = length c.args.rows.now.rows in
    passed_on (λ fault. (fault ≡ NoMemory) ⊎ IsRowFault rule count fault) c.from_residual.result c.in_err-date_row.field-0.0 c.from_residual.ensures.1
    (reported_first rule count c.rows.place c.in_err-date_row.field-0.0 (omega arith) c.rows.invariant.unbroken c.in_err-date_row.ensures)

pub returns-in_err-push-clause-fault : goal.returns-in_err-push-clause-fault
returns-in_err-push-clause-fault c =
    wants_memory (IsRowFault (calendar_dates_rule c.args.rows.now) (length c.args.rows.now.rows)) c.from_residual-in_err-push.result c.from_residual-in_err-push.ensures.1

pub rows-preserved : goal.rows-preserved
rows-preserved c =
    let sheet = c.args.rows.now in
    let pushed : c.push.new.self.items ≡ c.rows.list.items ++ c.in_ok-date_row.date_row ∷ [] = search rules in
    rw pushed (read_more (calendar_dates_rule sheet) (date_row_said sheet) sheet.rows c.rows.place c.rows.list.items c.in_ok-date_row.date_row [] (omega arith) c.rows.invariant c.in_ok-date_row.ensures)
